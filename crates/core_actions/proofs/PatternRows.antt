-- Rows of patterns, one behind the other.
use Rattle.std.proofs.Common.{◌≡◌, refl, sym, ap, ◌∙◌, subst, ℕ, pos, List, [], ◌∷◌, ◌++◌, map, true, IsTrue}
use Rattle.erl_base.specs.declared.ids.Place.{Place}
use Rattle.erl_term.specs.Term as T
use Rattle.erl_term.proofs.Forms.{left_true, right_true, both_true}
use Rattle.core_form.specs.declared.tree.Pattern.{Pattern}
use Rattle.core_form.specs.Core as C
use Rattle.core_form.specs.View.{pattern_view, patterns}
use Rattle.core_grammar.specs.ModuleOf.{character_patterns}
use Rattle.core_actions.specs.Joining.{patterns_before}
use Rattle.core_actions.specs.SoundTerms.{all_sound, pattern_sound}
use Rattle.core_actions.specs.View.{all_items}
use Rattle.core_actions.proofs.Appending.{last_row}

pub before_nothing : (es : C.Patterns) → patterns_before es C.no_pattern ≡ es
before_nothing C.no_pattern = refl
before_nothing (C.and_pattern e es) = ap (C.and_pattern e) (before_nothing es)

pub patterns_joined : (xs ys : List Pattern)
    → patterns (map pattern_view (xs ++ ys))
    ≡ patterns_before (patterns (map pattern_view xs)) (patterns (map pattern_view ys))
patterns_joined [] ys = refl
patterns_joined (x ∷ xs) ys = ap (C.and_pattern (pattern_view x)) (patterns_joined xs ys)

pub before_pushed : (xs : List Pattern) (x : Pattern) (es : C.Patterns)
    → patterns_before (patterns (map pattern_view (xs ++ x ∷ []))) es
    ≡ patterns_before (patterns (map pattern_view xs)) (C.and_pattern (pattern_view x) es)
before_pushed [] x es = refl
before_pushed (y ∷ xs) x es = ap (C.and_pattern (pattern_view y)) (before_pushed xs x es)

pub sound_both : (xs ys : List Pattern) → IsTrue (all_sound (map pattern_sound xs))
    → IsTrue (all_sound (map pattern_sound ys))
    → IsTrue (all_sound (map pattern_sound (xs ++ ys)))
sound_both [] ys h k = k
sound_both (x ∷ xs) ys h k =
    both_true (pattern_sound x) (all_sound (map pattern_sound (xs ++ ys)))
    (left_true (pattern_sound x) (all_sound (map pattern_sound xs)) h)
    (sound_both xs ys (right_true (pattern_sound x) (all_sound (map pattern_sound xs)) h) k)

pub sound_one : (x : Pattern) → IsTrue (pattern_sound x) → IsTrue (all_sound (map pattern_sound (x ∷ [])))
sound_one x h = both_true (pattern_sound x) true h refl

pub sound_pushed : (xs new : List Pattern) (x : Pattern) → new ≡ xs ++ x ∷ []
    → IsTrue (all_sound (map pattern_sound xs))
    → IsTrue (pattern_sound x) → IsTrue (all_sound (map pattern_sound new))
sound_pushed xs new x e h k =
    subst (λ ys. IsTrue (all_sound (map pattern_sound ys))) (sym e) (sound_both xs (x ∷ []) h (sound_one x k))

-- Codes.

pub code_pattern_pushed : (p : Place) (codes left : List ℕ) (code : ℕ) (items new : List Pattern) (x : Pattern)
    (all : C.Patterns)
    → codes ≡ code ∷ left → new ≡ items ++ x ∷ [] → pattern_view x ≡ C.known p (T.int (pos code))
    → patterns_before (patterns (map pattern_view items)) (character_patterns p codes) ≡ all
    → patterns_before (patterns (map pattern_view new)) (character_patterns p left) ≡ all
code_pattern_pushed p codes left code items new x all e f g h =
    ap (λ xs. patterns_before (patterns (map pattern_view xs)) (character_patterns p left)) f
    ∙ before_pushed items x (character_patterns p left)
    ∙ ap (λ y. patterns_before (patterns (map pattern_view items)) (C.and_pattern y (character_patterns p left))) g
    ∙ ap (λ xs. patterns_before (patterns (map pattern_view items)) (character_patterns p xs)) (sym e) ∙ h

pub patterns_done : (p : Place) (xs : List Pattern) (cs : List ℕ) (all : C.Patterns) → cs ≡ []
    → patterns_before (patterns (map pattern_view xs)) (character_patterns p cs) ≡ all
    → patterns (map pattern_view xs) ≡ all
patterns_done p xs cs all e h =
    sym (before_nothing (patterns (map pattern_view xs)))
    ∙ ap (λ ds. patterns_before (patterns (map pattern_view xs)) (character_patterns p ds)) (sym e) ∙ h

pub row_added : (xs : List Pattern) (rows new : List (List Pattern)) → new ≡ rows ++ xs ∷ []
    → patterns (map pattern_view (all_items new))
    ≡ patterns_before (patterns (map pattern_view xs)) (patterns (map pattern_view (all_items rows)))
row_added xs rows new e =
    ap (λ r. patterns (map pattern_view (all_items r))) e ∙ ap (λ r. patterns (map pattern_view r)) (last_row rows xs)
    ∙ patterns_joined xs (all_items rows)

pub row_sound : (xs : List Pattern) (rows new : List (List Pattern)) → new ≡ rows ++ xs ∷ []
    → IsTrue (all_sound (map pattern_sound xs)) → IsTrue (all_sound (map pattern_sound (all_items rows)))
    → IsTrue (all_sound (map pattern_sound (all_items new)))
row_sound xs rows new e h k =
    subst (λ r. IsTrue (all_sound (map pattern_sound (all_items r)))) (sym e)
    (subst (λ r. IsTrue (all_sound (map pattern_sound r))) (sym (last_row rows xs)) (sound_both xs
    (all_items rows) h k))
