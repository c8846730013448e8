-- Powers of two, and bits below 2^127.
use Rattle.std.proofs.Common.{◌≡◌, refl, sym, ap, ◌∙◌, subst, ℕ, zero, suc, ◌+◌, ◌-◌, ◌*◌, ◌/◌, ◌%◌, ◌^◌, ◌<◌, ◌≤◌}
use Rattle.std.proofs.Common.{ℤ, pos, negsuc, neg_ℤ, ◌*ℤ◌, bit_or, bit_xor, arith}
use Rattle.std.specs.Prelude.{FitsSigned}
use Rattle.std.specs.Int.{w128}
use Rattle.std.specs.Int.Signed.{mag}
use Rattle.std.proofs.Math.Nat.{mod-eq_of_lt, div-eq_of_lt, pow-le-pow_right}
use Rattle.std.proofs.lemmas.Nat.{or_lt, xor_lt, pow_below}

pub or_below : (a b : ℕ) → a < 2 ^ 127 → b < 2 ^ 127 → bit_or a b < 2 ^ 127
or_below a b g h = or_lt 127 a b g h

pub xor_below : (a b : ℕ) → a < 2 ^ 127 → b < 2 ^ 127 → bit_xor a b < 2 ^ 127
xor_below a b g h = xor_lt 127 a b g h

pub ruleset below = (or_below, xor_below)

-- a power that is held
pub one_shifted : (k : ℕ) → k < 127 → 1 * 2 ^ k % 2 ^ 128 ≡ 2 ^ k
one_shifted k h =
    let e : 1 * 2 ^ k ≡ 2 ^ k = omega arith in
    let l : 2 ^ k < 2 ^ 128 = pow_below k 128 (omega arith) in
    ap (λ n. n % 2 ^ 128) e ∙ mod-eq_of_lt l

pub one_below : (k : ℕ) → k < 127 → 1 * 2 ^ k % 2 ^ 128 < 2 ^ 127
one_below k h = subst (λ n. n < 2 ^ 127) (sym (one_shifted k h)) (pow_below k 127 h)

pub ruleset held = (one_shifted, one_below)

least_power : (k : ℕ) → 127 ≤ k → 2 ^ 127 ≤ 2 ^ k
least_power k h = pow-le-pow_right (omega arith) h

-- nothing is left of a number below it
pub none_left : (n k : ℕ) → n < 2 ^ 127 → 127 ≤ k → 0 ≡ n / 2 ^ k
none_left n k g h = let l : 2 ^ 127 ≤ 2 ^ k = least_power k h in sym (div-eq_of_lt (omega arith))

at_least : (n m : ℕ) → m ≤ suc n * m
at_least n m = grind arith

twice : (n m : ℕ) → m + m ≤ suc (suc n) * m
twice n m = grind arith

mag-neg : (n : ℕ) → mag (neg_ℤ (pos n)) ≡ n - 1
mag-neg zero = refl
mag-neg (suc n) = omega arith

beyond_first : (k : ℕ) → 127 ≤ k → (k ≡ 127 → ⊥) → 128 ≤ k
beyond_first k h i = grind arith

-- a number other than 0 times a power that is not held, but for -1 times the first of them
pub past_power : (z : ℤ) (k : ℕ) → 127 ≤ k → (z ≡ pos 0 → ⊥) → (k ≡ 127 → z ≡ negsuc 0 → ⊥)
    → ¬ FitsSigned w128 (z *ℤ pos (2 ^ k))
past_power (pos zero) k h i j = λ f. i refl
past_power (pos (suc n)) k h i j = λ f.
    let l : suc n * 2 ^ k < 2 ^ 127 = f.sfits in
    omega (arith, least_power k h, at_least n (2 ^ k), l)
past_power (negsuc zero) k h i j = λ f.
    let g : 128 ≤ k = beyond_first k h (λ e. j e refl) in
    let l : mag (neg_ℤ (pos (1 * 2 ^ k))) < 2 ^ 127 = f.sfits in
    let p : 2 ^ 128 ≤ 2 ^ k = pow-le-pow_right (omega arith) g in
    omega (arith, mag-neg (1 * 2 ^ k), l, p)
past_power (negsuc (suc n)) k h i j = λ f.
    let l : mag (neg_ℤ (pos (suc (suc n) * 2 ^ k))) < 2 ^ 127 = f.sfits in
    omega (arith, mag-neg (suc (suc n) * 2 ^ k), l, least_power k h, twice n (2 ^ k))
