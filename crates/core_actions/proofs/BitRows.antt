-- Bits of numbers, one after the other.
use Rattle.std.proofs.Common.{◌≡◌, refl, sym, ap, ap₂, ◌∙◌, ℕ, zero, suc, ◌/◌, ◌%◌, ◌^◌, ◌<◌, ◌≤◌, ◌-◌, ◌+◌, ◌*◌, length, List, [], ◌∷◌, ◌++◌, append_assoc, Bool, true, false, eqb, arith}
use Rattle.std.proofs.Math.Nat.{div-eq_of_lt, pow-le-pow_right, pow-suc}
use Rattle.std.proofs.lemmas.Nat.{div-mul-add}
use Rattle.erl_term.specs.BitString.{bits_of, number_from}
use Rattle.core_actions.specs.SegmentBits.{turned}

-- nothing is left of a number below it
pub no_high_bit : (n k : ℕ) → n < 2 ^ 127 → 127 ≤ k → false ≡ eqb ((n / 2 ^ k) % 2) 1
no_high_bit n k g h =
    let l : 2 ^ 127 ≤ 2 ^ k = pow-le-pow_right (omega arith) h in
    ap (λ d. eqb (d % 2) 1) (sym (div-eq_of_lt (omega (arith, g, l))))

turned_first : (over : Bool) (b c : Bool) (bs : List Bool) → turned over (b ∷ []) ≡ c ∷ []
    → turned over (b ∷ bs) ≡ c ∷ turned over bs
turned_first false b c bs e = ap (λ xs. xs ++ bs) e
turned_first true b c bs e = ap (λ xs. xs ++ turned true bs) e

-- one bit more
pub bit_added : (over : Bool) (n left : ℕ) (bits new all : List Bool) (b c : Bool) → 0 < left
    → new ≡ bits ++ c ∷ [] → turned over (b ∷ []) ≡ c ∷ [] → b ≡ eqb ((n / 2 ^ (left - 1)) % 2) 1
    → bits ++ turned over (bits_of left n) ≡ all → new ++ turned over (bits_of (left - 1) n) ≡ all
bit_added over n zero bits new all b c h e f g k = absurd (omega (arith, h))
bit_added over n (suc left) bits new all b c h e f g k =
    let l : suc left - 1 ≡ left = omega arith in
    ap (λ m. new ++ turned over (bits_of m n)) l
    ∙ ap (λ xs. xs ++ turned over (bits_of left n)) e ∙ append_assoc bits (c ∷ []) (turned over (bits_of left n))
    ∙ ap (λ xs. bits ++ xs) (sym (turned_first over b c (bits_of left n) f))
    ∙ ap (λ x. bits ++ turned over (x ∷ bits_of left n)) (g ∙ ap (λ m. eqb ((n / 2 ^ m) % 2) 1) l) ∙ k

-- Numbers of bits.

-- what stands before the others counts their power
pub number_split : (n : ℕ) (bs : List Bool) → number_from n bs ≡ n * 2 ^ length bs + number_from 0 bs
number_split n [] = omega arith
number_split n (true ∷ bs) =
    number_split (2 * n + 1) bs ∙ joined n (2 ^ length bs) (number_from 0 bs)
    ∙ ap (λ p. n * p + (1 * 2 ^ length bs + number_from 0 bs)) (sym (pow-suc 2 (length bs)))
    ∙ ap (λ m. n * 2 ^ suc (length bs) + m) (sym (number_split 1 bs))
  where
    joined : (n p r : ℕ) → (2 * n + 1) * p + r ≡ n * (p * 2) + (1 * p + r)
    joined n p r = omega arith
number_split n (false ∷ bs) =
    number_split (2 * n) bs ∙ joined n (2 ^ length bs) (number_from 0 bs)
    ∙ ap (λ p. n * p + number_from 0 bs) (sym (pow-suc 2 (length bs)))
  where
    joined : (n p r : ℕ) → (2 * n) * p + r ≡ n * (p * 2) + r
    joined n p r = omega arith

pub number_below : (bs : List Bool) → number_from 0 bs < 2 ^ length bs
number_below [] = omega arith
number_below (true ∷ bs) =
    let e = number_split 1 bs in
    let h = number_below bs in
    let p : 2 ^ suc (length bs) ≡ 2 ^ length bs * 2 = pow-suc 2 (length bs) in
    omega (arith, e, h, p)
number_below (false ∷ bs) =
    let h = number_below bs in
    let p : 2 ^ suc (length bs) ≡ 2 ^ length bs * 2 = pow-suc 2 (length bs) in
    omega (arith, h, p)

-- the first bit, behind as many as there are others
first_held : (m : ℕ) (bs : List Bool) → number_from m bs / 2 ^ length bs ≡ m
first_held m bs =
    ap (λ k. k / 2 ^ length bs) (number_split m bs)
    ∙ div-mul-add m (2 ^ length bs) (number_from 0 bs) (number_below bs)

-- the bits of the number that bits hold
pub bits_held : (n : ℕ) (bs : List Bool) → bits_of (length bs) (number_from n bs) ≡ bs
bits_held n [] = refl
bits_held n (true ∷ bs) =
    let e : (2 * n + 1) % 2 ≡ 1 = omega arith in
    ap₂ (λ d xs. eqb d 1 ∷ xs) (ap (λ d. d % 2) (first_held (2 * n + 1) bs) ∙ e) (bits_held (2 * n + 1) bs)
bits_held n (false ∷ bs) =
    let e : (2 * n) % 2 ≡ 0 = omega arith in
    ap₂ (λ d xs. eqb d 1 ∷ xs) (ap (λ d. d % 2) (first_held (2 * n) bs) ∙ e) (bits_held (2 * n) bs)
