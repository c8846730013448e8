-- A word of ASCII has its bytes for characters.
use Rattle.std.proofs.Common.{◌≡◌, refl, sym, ap, ap₂, ◌∙◌, subst, List, [], ◌∷◌, ℕ, chars, IsUtf8, Bool, true, false, ◌&&◌, eqb, bytes_eq, rules, nat_lt, slice_index, zero, suc, ◌<◌, arith}
use Rattle.std.proofs.lemmas.Str.{encodes-chars, chars-IsAscii}
use lib.Utf8.{encodes}
use borrow.Author.Tests.{eqb-true, eq-eqb, ltb-true}
use Rattle.std.specs.List.{list_all}
use Rattle.erl_base.specs.Names.{same_name}
use Rattle.erl_term.proofs.Forms.{left_true, right_true}
use Rattle.insn_terms.proofs.Apart.{same_names, same_itself}

both : (a b : Bool) → (a ≡ true → b ≡ true) → (b ≡ true → a ≡ true) → a ≡ b
both true b f g = sym (f refl)
both false true f g = g refl
both false false f g = refl

below_all : (cs : List ℕ) → list_all (λ c. nat_lt c 128) cs ≡ true → (i : ℕ) → slice_index cs i < 128
below_all [] e i = omega arith
below_all (c ∷ cs) e zero = ltb-true c 128 (left_true (nat_lt c 128) _ e)
below_all (c ∷ cs) e (suc i) = below_all cs (right_true (nat_lt c 128) _ e) i

-- a comparison of texts compares their characters
told : (r : Bool) (a b : List ℕ) → IsUtf8 a → IsUtf8 b → r ≡ bytes_eq a b → r ≡ same_name (chars b) (chars a)
told r a b u v e = both r (same_name (chars b) (chars a))
    (λ t. let h : a ≡ b = search (rules, t, e) in
    subst (λ z. same_name (chars z) (chars a) ≡ true) h (same_itself (chars a)))
    (λ s. let h : a ≡ b = sym (encodes-chars a u) ∙ ap encodes (sym (same_names (chars b) (chars a) s)) ∙ encodes-chars b v in
    search (rules, h, e))

-- with a word of ASCII
pub word_told : (r : Bool) (a b : List ℕ) → IsUtf8 a → IsUtf8 b → r ≡ bytes_eq a b
    → list_all (λ c. nat_lt c 128) b ≡ true → r ≡ same_name b (chars a)
word_told r a b u v e k =
    told r a b u v e ∙ ap (λ w. same_name w (chars a)) (chars-IsAscii b (below_all b k))

pub eqb_flipped : (m n : ℕ) → eqb m n ≡ eqb n m
eqb_flipped m n = both (eqb m n) (eqb n m)
    (λ e. eq-eqb n m (sym (eqb-true m n e)))
    (λ e. eq-eqb m n (sym (eqb-true n m e)))

-- the order of two names that are compared does not matter
pub flipped : (a b : List ℕ) → same_name a b ≡ same_name b a
flipped [] [] = refl
flipped [] (y ∷ ys) = refl
flipped (x ∷ xs) [] = refl
flipped (x ∷ xs) (y ∷ ys) = ap₂ (λ p q. p && q) (eqb_flipped x y) (flipped xs ys)
