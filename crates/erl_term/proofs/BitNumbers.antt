-- The numbers that bits hold are read back.
use Rattle.std.proofs.Common.{◌≡◌, ℕ, zero, suc, ◌+◌, ◌*◌, ◌-◌, ◌/◌, ◌%◌, ◌^◌, ◌≤◌, ◌<◌, pos, negsuc, refl, sym, ap, ap₂, ◌∙◌, List, [], ◌∷◌, ◌++◌, length, take, drop, arith, Bool, true, false, not, ◌&&◌, eqb, leb, if◌then◌else◌, length-append}
use Rattle.std.proofs.Math.Nat.{pow-suc, div-eq_of_lt, mod-eq_of_lt}
use Rattle.std.proofs.Math.Seq.{drop-append_seam, take-append_seam}
use Rattle.std.proofs.lemmas.List.{take-append-drop, length-take-le, length-drop}
use borrow.Author.Tests.{leb-false, lt-leb}
use Rattle.erl_term.specs.BitString.{bits_of, flipped, low_bits, number_from, to_little, from_little, ordered, first_bit, number}
use Rattle.erl_term.proofs.BitOrder.{high_and_low, length-bits_of}

one_bit : (n h : ℕ) (bs : List Bool) → h < 2 → number_from n (eqb h 1 ∷ bs) ≡ number_from (2 * n + h) bs
one_bit n zero bs l = ap (λ k. number_from k bs) (omega arith)
one_bit n (suc zero) bs l = refl
one_bit n (suc (suc h)) bs l = absurd (omega (arith, l))

-- behind n, the lowest k bits of m
pub number_from-bits_of : (k n m : ℕ) → number_from n (bits_of k m) ≡ n * 2 ^ k + m % 2 ^ k
number_from-bits_of zero n m = omega arith
number_from-bits_of (suc k) n m =
    let q : ℕ = 2 ^ k in
    let h : ℕ = m / q % 2 in
    one_bit n h (bits_of k m) (omega arith)
    ∙ number_from-bits_of k (2 * n + h) m
    ∙ joined q n h (m % q) (m % (q * 2)) (high_and_low m q)
    ∙ ap (λ p. n * p + m % p) (sym (pow-suc 2 k))
  where
    joined : (q n h r s : ℕ) → s ≡ h * q + r → (2 * n + h) * q + r ≡ n * (q * 2) + s
    joined q n h r s e = omega (arith, e)

-- bits and the flipped ones hold numbers that add up to all ones
flipped_sum : (a b : ℕ) (bs : List Bool)
    → number_from a (flipped bs) + number_from b bs + 1 ≡ (a + b + 1) * 2 ^ length bs
flipped_sum a b [] = omega arith
flipped_sum a b (true ∷ bs) =
    flipped_sum (2 * a) (2 * b + 1) bs ∙ twice (a + b + 1) (2 * a + (2 * b + 1) + 1) (2 ^ length bs) (omega arith)
    ∙ ap (λ p. (a + b + 1) * p) (sym (pow-suc 2 (length bs)))
  where
    twice : (x y p : ℕ) → y ≡ 2 * x → y * p ≡ x * (p * 2)
    twice x y p e = ap (λ z. z * p) e ∙ omega arith
flipped_sum a b (false ∷ bs) =
    flipped_sum (2 * a + 1) (2 * b) bs ∙ twice (a + b + 1) (2 * a + 1 + 2 * b + 1) (2 ^ length bs) (omega arith)
    ∙ ap (λ p. (a + b + 1) * p) (sym (pow-suc 2 (length bs)))
  where
    twice : (x y p : ℕ) → y ≡ 2 * x → y * p ≡ x * (p * 2)
    twice x y p e = ap (λ z. z * p) e ∙ omega arith

flipped-flipped : (bs : List Bool) → flipped (flipped bs) ≡ bs
flipped-flipped [] = refl
flipped-flipped (true ∷ bs) = ap (λ cs. true ∷ cs) (flipped-flipped bs)
flipped-flipped (false ∷ bs) = ap (λ cs. false ∷ cs) (flipped-flipped bs)

-- without a sign: the number modulo the power
pub unsigned_read : (k n : ℕ) → number false false (low_bits k (pos n)) ≡ pos (n % 2 ^ k)
unsigned_read k n = ap pos (number_from-bits_of k 0 n ∙ omega arith)

-- a negative number is as far below the power as it is below 0
pub negative_read : (k n : ℕ) → number false false (low_bits k (negsuc n)) ≡ pos (2 ^ k - 1 - n % 2 ^ k)
negative_read k n =
    ap pos (below (number_from 0 (flipped (bits_of k n))) (n % 2 ^ k) (2 ^ k)
    (ap (λ m. number_from 0 (flipped (bits_of k n)) + m + 1) (sym (number_from-bits_of k 0 n ∙ omega arith))
    ∙ flipped_sum 0 0 (bits_of k n)
    ∙ ap (λ l. (0 + 0 + 1) * 2 ^ l) (length-bits_of k n)))
  where
    below : (x y p : ℕ) → x + y + 1 ≡ (0 + 0 + 1) * p → x ≡ p - 1 - y
    below x y p e = omega (arith, e)

high_bit : (k n : ℕ) → n < 2 ^ k → first_bit (bits_of (suc k) n) ≡ false
high_bit k n h = ap (λ d. eqb (d % 2) 1) (div-eq_of_lt h)

within : (k n : ℕ) → n < 2 ^ k → n % 2 ^ suc k ≡ n
within k n h = mod-eq_of_lt (let e : 2 ^ suc k ≡ 2 ^ k * 2 = pow-suc 2 k in omega (arith, e))

-- the number of bits with a sign, once the first bit is known
by_sign : (bs : List Bool) (b : Bool) → first_bit bs ≡ b
    → number true false bs ≡ (if b then negsuc (number_from 0 (flipped bs)) else pos (number_from 0 bs))
by_sign bs b e = ap (λ c. if c then negsuc (number_from 0 (flipped bs)) else pos (number_from 0 bs)) e

-- with a sign: each number of k bits and a sign
pub positive_read : (k n : ℕ) → n < 2 ^ k → number true false (low_bits (suc k) (pos n)) ≡ pos n
positive_read k n h =
    by_sign (bits_of (suc k) n) false (high_bit k n h) ∙ unsigned_read (suc k) n ∙ ap pos (within k n h)

pub signed_read : (k n : ℕ) → n < 2 ^ k → number true false (low_bits (suc k) (negsuc n)) ≡ negsuc n
signed_read k n h =
    by_sign (flipped (bits_of (suc k) n)) true (ap not (high_bit k n h))
    ∙ ap (λ bs. negsuc (number_from 0 bs)) (flipped-flipped (bits_of (suc k) n))
    ∙ ap negsuc (number_from-bits_of (suc k) 0 n ∙ zero_first (2 ^ suc k) (n % 2 ^ suc k) ∙ within k n h)
  where
    zero_first : (p m : ℕ) → 0 * p + m ≡ m
    zero_first p m = omega arith

-- the bits of one turn of each of the two ways
abbrev turned : ℕ → List Bool → Bool → List Bool
turned f bs b = elim b [ true ↦ bs | false ↦ drop (length bs - 8) bs ++ to_little f (take (length bs - 8) bs) ]

abbrev turned_back : ℕ → List Bool → Bool → List Bool
turned_back g bs b = elim b [ true ↦ bs | false ↦ from_little g (drop 8 bs) ++ take 8 bs ]

few_back : (g : ℕ) (bs : List Bool) → leb (length bs) 8 ≡ true → from_little g bs ≡ bs
few_back zero bs e = refl
few_back (suc g) bs e = ap (turned_back g bs) e

many : (n : ℕ) → leb n 8 ≡ false → 8 < n
many n e = leb-false n 8 e

length-to_little : (f : ℕ) (bs : List Bool) → length (to_little f bs) ≡ length bs
length-to_little zero bs = refl
length-to_little (suc f) bs = by (leb (length bs) 8) refl (length-to_little f (take (length bs - 8) bs))
  where
    by : (b : Bool) → leb (length bs) 8 ≡ b
        → length (to_little f (take (length bs - 8) bs)) ≡ length (take (length bs - 8) bs)
        → length (turned f bs b) ≡ length bs
    by true e h = refl
    by false e h =
        length-append (drop (length bs - 8) bs) (to_little f (take (length bs - 8) bs))
        ∙ (let l : 8 < length bs = many (length bs) e in
        omega (arith, h, length-drop (length bs - 8) bs, length-take-le (length bs - 8) bs (omega arith)))

-- eight bits in front of others
eight_first : (g : ℕ) (xs ys : List Bool) → length xs ≡ 8 → 0 < length ys
    → from_little (suc g) (xs ++ ys) ≡ from_little g ys ++ xs
eight_first g xs ys e h =
    ap (turned_back g (xs ++ ys)) (more_than_eight (length (xs ++ ys)) (omega (arith, length-append xs ys)))
    ∙ ap₂ (λ as' bs. from_little g as' ++ bs)
    (ap (λ n. drop n (xs ++ ys)) (sym e) ∙ drop-append_seam xs ys)
    (ap (λ n. take n (xs ++ ys)) (sym e) ∙ take-append_seam xs ys)
  where
    more_than_eight : (n : ℕ) → 8 < n → leb n 8 ≡ false
    more_than_eight n h = lt-leb n 8 h

-- the lowest eight bits first, and back
little_back : (f g : ℕ) (bs : List Bool) → length bs ≤ f → length bs ≤ g → from_little g (to_little f bs) ≡ bs
little_back zero zero [] h l = refl
little_back zero (suc g) [] h l = refl
little_back zero g (b ∷ bs) h l = absurd (omega (arith, h))
little_back (suc f) zero bs h l = by (leb (length bs) 8) refl
  where
    by : (b : Bool) → leb (length bs) 8 ≡ b → turned f bs b ≡ bs
    by true e = refl
    by false e = absurd (let m : 8 < length bs = many (length bs) e in omega (arith, l))
little_back (suc f) (suc g) bs h l =
    by (leb (length bs) 8) refl
    (λ m. little_back f g (take (length bs - 8) bs) (omega (arith, length-take-le (length bs - 8) bs (omega arith)))
    (omega (arith, length-take-le (length bs - 8) bs (omega arith))))
  where
    by : (b : Bool) → leb (length bs) 8 ≡ b
        → (8 < length bs → from_little g (to_little f (take (length bs - 8) bs)) ≡ take (length bs - 8) bs)
        → from_little (suc g) (turned f bs b) ≡ bs
    by true e r = few_back (suc g) bs e
    by false e r =
        let m : 8 < length bs = many (length bs) e in
        let n : length bs - 8 ≤ length bs = omega arith in
        eight_first g (drop (length bs - 8) bs) (to_little f (take (length bs - 8) bs))
        (omega (arith, length-drop (length bs - 8) bs))
        (omega (arith, length-to_little f (take (length bs - 8) bs), length-take-le (length bs - 8) bs n))
        ∙ ap (λ xs. xs ++ drop (length bs - 8) bs) (r m)
        ∙ take-append-drop (length bs - 8) bs

-- what is written with the lowest bits first is read so
pub little_read : (signed : Bool) (bs : List Bool) → number signed true (ordered true bs) ≡ number signed false bs
little_read signed bs =
    ap (λ big. if signed && first_bit big then negsuc (number_from 0 (flipped big)) else pos (number_from 0 big))
    (little_back (length bs) (length (to_little (length bs) bs)) bs (omega arith)
    (omega (arith, length-to_little (length bs) bs)))

pub ruleset reads = (unsigned_read, negative_read, positive_read, signed_read, little_read)
