-- Names and texts of a row.
use Rattle.std.proofs.Common.{◌≡◌, refl, sym, ap, ap₂, ◌∙◌, subst, List, [], ◌∷◌, ℕ, chars, IsUtf8, Bool, true, false, ◌&&◌, eqb, IsTrue, bytes_eq, ◌↔◌, rules, nat_lt, slice_index, zero, suc, ◌<◌, arith}
use Rattle.std.proofs.lemmas.Str.{encodes-chars}
use lib.Utf8.{encodes}
use borrow.Author.Tests.{eqb-true, eq-eqb, ltb-true}
use Rattle.std.proofs.lemmas.Str.{chars-IsAscii}
use Rattle.std.specs.List.{list_all}
use Rattle.erl_base.specs.Names.{same_name}
use Rattle.bif_table.specs.Builtins.{Bif, Add, bif_name, arity_of, row_of_bif, is_row}

chars_one : (a b : List ℕ) → IsUtf8 a → IsUtf8 b → chars a ≡ chars b → a ≡ b
chars_one a b u v e = sym (encodes-chars a u) ∙ ap encodes e ∙ encodes-chars b v

pub same_text : (r : Bool) (a b x : List ℕ) → IsUtf8 a → IsUtf8 b → r ≡ bytes_eq a b → chars a ≡ x
    → IsTrue r ↔ (x ≡ chars b)
same_text r a b x u v e f = (
  λ t. sym f ∙ ap chars (search (rules, t, e)),
  λ s. let h : a ≡ b = chars_one a b u v (f ∙ s) in search (rules, h, e),
)

left : (a b : Bool) → (a && b) ≡ true → a ≡ true
left true b e = refl
left false b e = cc

right : (a b : Bool) → (a && b) ≡ true → b ≡ true
right true b e = e
right false b e = cc

same : (x y : List ℕ) → same_name x y ≡ true → x ≡ y
same [] [] e = refl
same [] (y ∷ ys) e = absurd cc
same (x ∷ xs) [] e = absurd cc
same (x ∷ xs) (y ∷ ys) e = ap₂ (λ z zs. z ∷ zs) (eqb-true x y (left (eqb x y) _ e)) (same xs ys (right (eqb x y) _ e))

itself : (x : List ℕ) → same_name x x ≡ true
itself [] = refl
itself (x ∷ xs) = ap₂ (λ a b. a && b) (eq-eqb x x refl) (itself xs)

both : (a b : Bool) → (a ≡ true → b ≡ true) → (b ≡ true → a ≡ true) → a ≡ b
both true b f g = sym (f refl)
both false true f g = g refl
both false false f g = refl

-- a test of names decides whether two are the same
pub decided : (t : Bool) (x y : List ℕ) → IsTrue t ↔ (x ≡ y) → t ≡ same_name y x
decided t x y h = both t (same_name y x) (λ e. subst (λ z. same_name y z ≡ true) (sym (h.0 e)) (itself y))
    (λ e. h.1 (sym (same y x e)))

below_all : (cs : List ℕ) → list_all (λ c. nat_lt c 128) cs ≡ true → (i : ℕ) → slice_index cs i < 128
below_all [] e i = omega arith
below_all (c ∷ cs) e zero = ltb-true c 128 (left (nat_lt c 128) _ e)
below_all (c ∷ cs) e (suc i) = below_all cs (right (nat_lt c 128) _ e) i

-- the names of the table are ASCII, so that their bytes are their characters
name_tested : (b : Bif) → list_all (λ c. nat_lt c 128) (bif_name b) ≡ true
name_tested Add = refl
name_tested b = refl

pub name_chars : (b : Bif) → chars (bif_name b) ≡ bif_name b
name_chars b = chars-IsAscii (bif_name b) (below_all (bif_name b) (name_tested b))

-- the rest of a row whose arity is the wanted one
pub row_named : (b : Bif) (t : Bool) (f n : List ℕ) (a : ℕ) → IsTrue t ↔ (f ≡ chars n) → n ≡ bif_name b → arity_of b ≡ a
    → t ≡ is_row (row_of_bif b) f a
row_named b t f n a h e k =
    decided t f (bif_name b)
    (λ p. h.0 p ∙ ap chars e ∙ name_chars b, λ p. h.1 (p ∙ sym (name_chars b) ∙ sym (ap chars e)))
    ∙ ap (λ c. c && same_name (bif_name b) f) (sym (eq-eqb (arity_of b) a k))
