-- Rows of literals as they are turned into terms.
use Rattle.std.proofs.Common.{◌≡◌, refl, sym, ap, ◌∙◌, subst, List, [], ◌∷◌, ◌++◌, map, Bool, true, false, not, ◌&&◌, IsTrue, Option, None, Some}
use Rattle.erl_base.specs.declared.ids.Place.{Place}
use Rattle.erl_term.specs.Term as T
use Rattle.erl_term.specs.declared.term.Term.{Term}
use Rattle.erl_term.specs.View as Terms
use Rattle.erl_term.proofs.Forms.{right_true}
use Rattle.term_read.proofs.WellRows.{views_pushed}
use Rattle.core_form.specs.declared.tree.Expr.{Expr}
use Rattle.core_form.specs.Core as C
use Rattle.core_form.specs.SourceTree.{is_literal, are_literals, are_constant_pairs}
use Rattle.core_form.specs.View.{view, exprs}
use Rattle.core_grammar.specs.ConstantTerms.{and_item, constant_pair, constant_list, constant_tuple, constant_map}
use Rattle.core_grammar.specs.ModuleOf.{literal_or}
use Rattle.core_actions.specs.Joining.{literal_term, literal_terms, literal_pairs, list_of_items, tuple_of_items, map_of_parts}
use Rattle.core_actions.specs.SoundTerms.{all_sound, expr_sound}
use Rattle.core_actions.proofs.OptionRows.{both_rows, row_moved}

pub literal_moved : (es left : List Expr) (e : Expr) (ts new : List Term) (t : Term) (all : Option (List T.Term))
    → es ≡ e ∷ left → new ≡ ts ++ t ∷ [] → literal_term (view e) ≡ Some (Terms.view t)
    → both_rows (Some (map Terms.view ts)) (literal_terms (exprs (map view es))) ≡ all
    → both_rows (Some (map Terms.view new)) (literal_terms (exprs (map view left))) ≡ all
literal_moved es left e ts new t all h k l v =
    ap (λ xs. both_rows (Some xs) (literal_terms (exprs (map view left)))) (views_pushed ts new t k)
    ∙ sym (row_moved (map Terms.view ts) (Terms.view t) (literal_terms (exprs (map view left))))
    ∙ ap (λ o. both_rows (Some (map Terms.view ts)) (and_item o (literal_terms (exprs (map view left))))) (sym l)
    ∙ ap (λ xs. both_rows (Some (map Terms.view ts)) (literal_terms (exprs (map view xs)))) (sym h) ∙ v

pub rest_literals : (es left : List Expr) (e : Expr) → es ≡ e ∷ left → IsTrue (are_literals (exprs (map view es)))
    → IsTrue (are_literals (exprs (map view left)))
rest_literals es left e h k =
    right_true (is_literal (view e)) (are_literals (exprs (map view left)))
    (subst (λ xs. IsTrue (are_literals (exprs (map view xs)))) h k)

pub rest_sound : (es left : List Expr) (e : Expr) → es ≡ e ∷ left → IsTrue (all_sound (map expr_sound es))
    → IsTrue (all_sound (map expr_sound left))
rest_sound es left e h k =
    right_true (expr_sound e) (all_sound (map expr_sound left))
    (subst (λ xs. IsTrue (all_sound (map expr_sound xs))) h k)

-- what is no literal is left as it is

pub term_none : (e : C.Expr) → is_literal e ≡ false → literal_term e ≡ None
term_none (C.literal p t) h = absurd cc
term_none _ h = refl

item_none : {A : Type 0} (o : Option A) → and_item o None ≡ None
item_none None = refl
item_none (Some x) = refl

none_of : (b : Bool) (e : C.Expr) (es : C.Exprs) → is_literal e ≡ b → (are_literals es ≡ false
    → literal_terms es ≡ None)
    → (b && are_literals es) ≡ false → and_item (literal_term e) (literal_terms es) ≡ None
none_of true e es h f k = ap (and_item (literal_term e)) (f k) ∙ item_none (literal_term e)
none_of false e es h f k = ap (λ o. and_item o (literal_terms es)) (term_none e h)

pub terms_none : (es : C.Exprs) → are_literals es ≡ false → literal_terms es ≡ None
terms_none C.no_expr h = absurd cc
terms_none (C.and_expr e es) h = none_of (is_literal e) e es refl (λ k. terms_none es k) h

no_tail : (o : Option (List T.Term)) → constant_list o None ≡ None
no_tail None = refl
no_tail (Some ts) = refl

kept : (b : Bool) (es : C.Exprs) (e : C.Expr) → is_literal e ≡ b → (b && are_literals es) ≡ false
    → constant_list (literal_terms es) (literal_term e) ≡ None
kept true es e h k = ap (λ o. constant_list o (literal_term e)) (terms_none es k)
kept false es e h k = ap (constant_list (literal_terms es)) (term_none e h) ∙ no_tail (literal_terms es)

pub list_kept : (p : Place) (es : C.Exprs) (e : C.Expr) → (is_literal e && are_literals es) ≡ false
    → list_of_items p es e ≡ C.list p es e
list_kept p es e h = ap (λ o. literal_or p o (C.list p es e)) (kept (is_literal e) es e refl h)

pub tuple_kept : (p : Place) (es : C.Exprs) → are_literals es ≡ false → tuple_of_items p es ≡ C.tuple p es
tuple_kept p es h = ap (λ o. literal_or p (constant_tuple o) (C.tuple p es)) (terms_none es h)

-- Pairs.

no_value : (o : Option T.Term) (x : Bool) → constant_pair o x None ≡ None
no_value None x = refl
no_value (Some t) true = refl
no_value (Some t) false = refl

no_exact : (o q : Option T.Term) → constant_pair o true q ≡ None
no_exact None q = refl
no_exact (Some t) None = refl
no_exact (Some t) (Some u) = refl

pair_none : (k v : C.Expr) (x b d : Bool) → is_literal k ≡ b → is_literal v ≡ d → (b && d && not x) ≡ false
    → constant_pair (literal_term k) x (literal_term v) ≡ None
pair_none k v x false d h l e = ap (λ o. constant_pair o x (literal_term v)) (term_none k h)
pair_none k v x true false h l e = ap (constant_pair (literal_term k) x) (term_none v l) ∙ no_value (literal_term k) x
pair_none k v true true true h l e = no_exact (literal_term k) (literal_term v)
pair_none k v false true true h l e = absurd cc

either_none : {A : Type 0} (b d : Bool) (o : Option A) (os : Option (List A)) → (b ≡ false → o ≡ None)
    → (d ≡ false → os ≡ None) → (b && d) ≡ false → and_item o os ≡ None
either_none false d o os f g e = ap (λ p. and_item p os) (f refl)
either_none true d o os f g e = ap (and_item o) (g e) ∙ item_none o

pub pairs_none : (ps : C.MapParts) → are_constant_pairs ps ≡ false → literal_pairs ps ≡ None
pairs_none C.no_part h = absurd cc
pairs_none (C.and_part (C.map_part k v x) ps) h =
    either_none (is_literal k && is_literal v && not x) (are_constant_pairs ps)
    (constant_pair (literal_term k) x (literal_term v)) (literal_pairs ps)
    (pair_none k v x (is_literal k) (is_literal v) refl refl) (λ e. pairs_none ps e) h

pub map_kept : (p : Place) (ps : C.MapParts) → are_constant_pairs ps ≡ false → map_of_parts p ps ≡ C.new_map p ps
map_kept p ps h = ap (λ o. literal_or p (constant_map o) (C.new_map p ps)) (pairs_none ps h)
