-- Rows of known patterns as they are turned into terms.
use Rattle.std.proofs.Common.{◌≡◌, refl, sym, ap, ◌∙◌, subst, List, [], ◌∷◌, ◌++◌, map, Bool, true, false, ◌&&◌, IsTrue, Option, None, Some}
use Rattle.erl_base.specs.declared.ids.Place.{Place}
use Rattle.erl_term.specs.Term as T
use Rattle.erl_term.specs.declared.term.Term.{Term}
use Rattle.erl_term.specs.View as Terms
use Rattle.erl_term.proofs.Forms.{right_true}
use Rattle.term_read.proofs.WellRows.{views_pushed}
use Rattle.core_form.specs.declared.tree.Pattern.{Pattern}
use Rattle.core_form.specs.Core as C
use Rattle.core_form.specs.SourceTree.{is_known, are_known}
use Rattle.core_form.specs.View.{pattern_view, patterns}
use Rattle.core_grammar.specs.ConstantTerms.{and_item, constant_list, constant_tuple}
use Rattle.core_grammar.specs.ModuleOf.{known_or}
use Rattle.core_actions.specs.Joining.{known_term, known_terms, list_of_patterns, tuple_of_patterns}
use Rattle.core_actions.specs.SoundTerms.{all_sound, pattern_sound}
use Rattle.core_actions.proofs.OptionRows.{both_rows, row_moved}

pub known_moved : (es left : List Pattern) (e : Pattern) (ts new : List Term) (t : Term) (all : Option (List T.Term))
    → es ≡ e ∷ left → new ≡ ts ++ t ∷ [] → known_term (pattern_view e) ≡ Some (Terms.view t)
    → both_rows (Some (map Terms.view ts)) (known_terms (patterns (map pattern_view es))) ≡ all
    → both_rows (Some (map Terms.view new)) (known_terms (patterns (map pattern_view left))) ≡ all
known_moved es left e ts new t all h k l v =
    ap (λ xs. both_rows (Some xs) (known_terms (patterns (map pattern_view left)))) (views_pushed ts new t k)
    ∙ sym (row_moved (map Terms.view ts) (Terms.view t) (known_terms (patterns (map pattern_view left))))
    ∙ ap (λ o. both_rows (Some (map Terms.view ts)) (and_item o (known_terms (patterns (map pattern_view left)))))
    (sym l)
    ∙ ap (λ xs. both_rows (Some (map Terms.view ts)) (known_terms (patterns (map pattern_view xs)))) (sym h) ∙ v

pub rest_known : (es left : List Pattern) (e : Pattern) → es ≡ e ∷ left
    → IsTrue (are_known (patterns (map pattern_view es)))
    → IsTrue (are_known (patterns (map pattern_view left)))
rest_known es left e h k =
    right_true (is_known (pattern_view e)) (are_known (patterns (map pattern_view left)))
    (subst (λ xs. IsTrue (are_known (patterns (map pattern_view xs)))) h k)

pub rest_sound : (es left : List Pattern) (e : Pattern) → es ≡ e ∷ left → IsTrue (all_sound (map pattern_sound es))
    → IsTrue (all_sound (map pattern_sound left))
rest_sound es left e h k =
    right_true (pattern_sound e) (all_sound (map pattern_sound left))
    (subst (λ xs. IsTrue (all_sound (map pattern_sound xs))) h k)

-- what is not known is left as it is

term_none : (e : C.Pattern) → is_known e ≡ false → known_term e ≡ None
term_none (C.known p t) h = absurd cc
term_none _ h = refl

item_none : {A : Type 0} (o : Option A) → and_item o None ≡ None
item_none None = refl
item_none (Some x) = refl

none_of : (b : Bool) (e : C.Pattern) (es : C.Patterns) → is_known e ≡ b → (are_known es ≡ false → known_terms es ≡ None)
    → (b && are_known es) ≡ false → and_item (known_term e) (known_terms es) ≡ None
none_of true e es h f k = ap (and_item (known_term e)) (f k) ∙ item_none (known_term e)
none_of false e es h f k = ap (λ o. and_item o (known_terms es)) (term_none e h)

pub terms_none : (es : C.Patterns) → are_known es ≡ false → known_terms es ≡ None
terms_none C.no_pattern h = absurd cc
terms_none (C.and_pattern e es) h = none_of (is_known e) e es refl (λ k. terms_none es k) h

no_tail : (o : Option (List T.Term)) → constant_list o None ≡ None
no_tail None = refl
no_tail (Some ts) = refl

kept : (b : Bool) (es : C.Patterns) (e : C.Pattern) → is_known e ≡ b → (b && are_known es) ≡ false
    → constant_list (known_terms es) (known_term e) ≡ None
kept true es e h k = ap (λ o. constant_list o (known_term e)) (terms_none es k)
kept false es e h k = ap (constant_list (known_terms es)) (term_none e h) ∙ no_tail (known_terms es)

pub list_kept : (p : Place) (es : C.Patterns) (e : C.Pattern) → (is_known e && are_known es) ≡ false
    → list_of_patterns p es e ≡ C.list_like p es e
list_kept p es e h = ap (λ o. known_or p o (C.list_like p es e)) (kept (is_known e) es e refl h)

pub tuple_kept : (p : Place) (es : C.Patterns) → are_known es ≡ false → tuple_of_patterns p es ≡ C.tuple_like p es
tuple_kept p es h = ap (λ o. known_or p (constant_tuple o) (C.tuple_like p es)) (terms_none es h)
