-- Names and texts: which atoms are truth values.
use Rattle.std.proofs.Common.{◌≡◌, refl, sym, ap, ap₂, ◌∙◌, List, [], ◌∷◌, ℕ, IsUtf8, Bool, true, false}
use Rattle.std.proofs.Common.{◌&&◌, eqb, IsTrue, bytes_eq, ◌↔◌, rules, Some, None, if◌then◌else◌, codes, Option}
use Rattle.std.specs.Str.{chars}
use Rattle.std.proofs.lemmas.Str.{encodes-chars}
use lib.Utf8.{encodes}
use borrow.Author.Tests.{eqb-true}
use Rattle.erl_base.specs.Names.{same_name}
use Rattle.erl_term.specs.Terms.{word}
use Rattle.bif_table.specs.Kinds.{truth_of}

chars_one : (a b : List ℕ) → IsUtf8 a → IsUtf8 b → chars a ≡ chars b → a ≡ b
chars_one a b u v e = sym (encodes-chars a u) ∙ ap encodes e ∙ encodes-chars b v

-- a test of a name's bytes tests its characters
pub same_text : (r : Bool) (a b x : List ℕ) → IsUtf8 a → IsUtf8 b → r ≡ bytes_eq a b → chars a ≡ x
    → IsTrue r ↔ (x ≡ chars b)
same_text r a b x u v e f = (
  λ t. sym f ∙ ap chars (search (rules, t, e)),
  λ s. let h : a ≡ b = chars_one a b u v (f ∙ s) in search (rules, h, e),
)

left : (a b : Bool) → (a && b) ≡ true → a ≡ true
left true b e = refl
left false b e = cc

right : (a b : Bool) → (a && b) ≡ true → b ≡ true
right true b e = e
right false b e = cc

same : (x y : List ℕ) → same_name x y ≡ true → x ≡ y
same [] [] e = refl
same [] (y ∷ ys) e = absurd cc
same (x ∷ xs) [] e = absurd cc
same (x ∷ xs) (y ∷ ys) e = ap₂ (λ z zs. z ∷ zs) (eqb-true x y (left (eqb x y) _ e)) (same xs ys (right (eqb x y) _ e))

is_false : (b : Bool) → (b ≡ true → ⊥) → b ≡ false
is_false true h = absurd (h refl)
is_false false h = refl

-- other names are not the same
other : (x y : List ℕ) → (x ≡ y → ⊥) → same_name x y ≡ false
other x y h = is_false (same_name x y) (λ e. h (same x y e))

-- the words of answers are ASCII
pub true_spelled : chars (codes "true") ≡ codes "true"
unfolding chars
true_spelled = refl

pub false_spelled : chars (codes "false") ≡ codes "false"
unfolding chars
false_spelled = refl

pub badarith_spelled : chars (codes "badarith") ≡ codes "badarith"
unfolding chars
badarith_spelled = refl

pub badarg_spelled : chars (codes "badarg") ≡ codes "badarg"
unfolding chars
badarg_spelled = refl

pub badmap_spelled : chars (codes "badmap") ≡ codes "badmap"
unfolding chars
badmap_spelled = refl

pub badkey_spelled : chars (codes "badkey") ≡ codes "badkey"
unfolding chars
badkey_spelled = refl

pub ruleset spelled = (
  true_spelled,
  false_spelled,
  badarith_spelled,
  badarg_spelled,
  badmap_spelled,
  badkey_spelled,
)

pub true_named : (r : Bool) (x : List ℕ) → IsTrue r ↔ (x ≡ chars (codes "true")) → r ≡ true
    → Some true ≡ truth_of (word x)
true_named r x h e = ap (λ y. truth_of (word y)) (sym (h.0 e ∙ true_spelled))

pub false_named : (r : Bool) (x : List ℕ) → IsTrue r ↔ (x ≡ chars (codes "false")) → r ≡ true
    → Some false ≡ truth_of (word x)
false_named r x h e = ap (λ y. truth_of (word y)) (sym (h.0 e ∙ false_spelled))

abbrev picked : Bool → Bool → Option Bool
picked t f = if t then Some true else if f then Some false else None

not_text : (r : Bool) (x y : List ℕ) → IsTrue r ↔ (x ≡ y) → r ≡ false → x ≡ y → ⊥
not_text r x y h e i = let t : r ≡ true = h.1 i in cc

pub not_named : (q r : Bool) (x : List ℕ) → IsTrue q ↔ (x ≡ chars (codes "true")) → q ≡ false
    → IsTrue r ↔ (x ≡ chars (codes "false")) → r ≡ false → None ≡ truth_of (word x)
not_named q r x g d h e =
    sym (ap₂ picked (other x (codes "true") (λ i. not_text q x _ g d (i ∙ sym true_spelled)))
    (other x (codes "false") (λ i. not_text r x _ h e (i ∙ sym false_spelled))))
