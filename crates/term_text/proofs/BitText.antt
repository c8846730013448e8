-- The printed bits of bytes, byte by byte.
use Rattle.std.proofs.Common.{◌≡◌, ℕ, zero, suc, ◌+◌, ◌*◌, ◌-◌, ◌/◌, ◌%◌, ◌^◌, ◌≤◌, ◌<◌, refl, sym, ap, ap₂, ◌∙◌, List, ◌∷◌, ◌++◌, length, get_or, take, drop, arith, Bool, false, codes, eqb}
use Rattle.std.proofs.Math.Nat.{div-div-eq-div-mul, mod-eq_of_lt, pow-suc, div-lt_iff_lt-mul}
use Rattle.std.proofs.Math.Pow.{suc_ones}
use Rattle.std.proofs.Math.Seq.{take-append-add, take-append_seam}
use Rattle.std.proofs.lemmas.List.{drop_more, take-append-le}
use borrow.Author.Tests.{ne_eqb}
use Rattle.erl_term.specs.BitString.{bits_of, byte_bits, number_from}
use Rattle.term_text.specs.Decimal.{decimal_on}
use Rattle.term_text.specs.TermText.{bits_on, comma}
use Rattle.term_text.specs.Printing.{Adds}
use Rattle.term_text.proofs.Growth.{adds}
use Rattle.erl_term.specs.declared.term.Bits.{Bits}
use Rattle.erl_term.specs.WellFormed.{IsFull}
use Rattle.erl_term.proofs.BitOrder.{length-bits_of, byte_is, count_of_full}
use Rattle.erl_term.proofs.BitNumbers.{number_from-bits_of}

-- the first m bits of these bytes
abbrev pub row_at : Bool → ℕ → List ℕ → List ℕ → List ℕ
row_at f m bs r = bits_on f (take m (byte_bits bs)) r

no_zero : (p m : ℕ) → 0 * p + m ≡ m
no_zero p m = omega arith

byte_number : (b : ℕ) → b < 256 → number_from 0 (bits_of 8 b) ≡ b
byte_number b h = number_from-bits_of 8 0 b ∙ no_zero (2 ^ 8) (b % 2 ^ 8) ∙ byte_is b h

byte_taken : (m b : ℕ) (r : List Bool) → 8 ≤ m → take m (bits_of 8 b ++ r) ≡ bits_of 8 b ++ take (m - 8) r
byte_taken m b r h = ap (λ k. take k (bits_of 8 b ++ r)) (eight m h) ∙ take-append-add (bits_of 8 b) r (m - 8)
  where
    eight : (m : ℕ) → 8 ≤ m → m ≡ 8 + (m - 8)
    eight m h = omega (arith, h)

first_byte : (f : Bool) (m b : ℕ) (bs r : List ℕ) → 8 ≤ m → b < 256
    → row_at f m (b ∷ bs) r ≡ comma f ++ decimal_on b (row_at false (m - 8) bs r)
unfolding byte_bits
first_byte f m b bs r h g =
    ap (λ x. bits_on f x r) (byte_taken m b (byte_bits bs) h)
    ∙ ap (λ n. comma f ++ decimal_on n (row_at false (m - 8) bs r)) (byte_number b g)

-- the byte at i in front of those behind it
byte_step : (f : Bool) (m : ℕ) (bs r : List ℕ) (i : ℕ) → i < length bs → 8 ≤ m → get_or bs i 0 < 256
    → row_at f m (drop i bs) r ≡ comma f ++ decimal_on (get_or bs i 0) (row_at false (m - 8) (drop (i + 1) bs) r)
byte_step f m bs r i h g b =
    ap (λ l. row_at f m l r) (drop_more bs i 0 h) ∙ first_byte f m (get_or bs i 0) (drop (i + 1) bs) r g b

powers : (j n : ℕ) → 2 ^ j * 2 ^ n ≡ 2 ^ (n + j)
powers j zero = (let e : 2 ^ j * 2 ^ 0 ≡ 2 ^ j = omega arith in e)
    ∙ ap (λ k. 2 ^ k) (let e : j ≡ 0 + j = omega arith in e)
powers j (suc n) =
    ap (λ p. 2 ^ j * p) (pow-suc 2 n) ∙ regroup (2 ^ j) (2 ^ n) ∙ ap (λ p. p * 2) (powers j n) ∙ sym (pow-suc 2 (n + j))
    ∙ ap (λ k. 2 ^ k) (one_more n j)
  where
    regroup : (a b : ℕ) → a * (b * 2) ≡ a * b * 2
    regroup a b = omega arith

    one_more : (n j : ℕ) → suc (n + j) ≡ suc n + j
    one_more n j = omega arith

-- the highest n of n + j bits
pub high_bits : (n j m : ℕ) → bits_of (n + j) m ≡ bits_of n (m / 2 ^ j) ++ bits_of j m
high_bits zero j m = ap (λ k. bits_of k m) (let e : 0 + j ≡ j = omega arith in e)
high_bits (suc n) j m =
    ap (λ k. bits_of k m) (add_first n j)
    ∙ ap₂ (λ d bs. eqb (d % 2) 1 ∷ bs) (sym (div-div-eq-div-mul m (2 ^ j) (2 ^ n) ∙ ap (λ p. m / p) (powers j n)))
    (high_bits n j m)
  where
    add_first : (n j : ℕ) → suc n + j ≡ suc (n + j)
    add_first n j = omega arith

few : (f : Bool) (m x : ℕ) (r : List ℕ) → 0 < m → m < 8
    → bits_on f (bits_of m x) r ≡ comma f ++ decimal_on (number_from 0 (bits_of m x)) (codes ":" ++ decimal_on m r)
few f zero x r h g = absurd (omega (arith, h))
few f (suc zero) x r h g = refl
few f (suc (suc zero)) x r h g = refl
few f (suc (suc (suc zero))) x r h g = refl
few f (suc (suc (suc (suc zero)))) x r h g = refl
few f (suc (suc (suc (suc (suc zero))))) x r h g = refl
few f (suc (suc (suc (suc (suc (suc zero)))))) x r h g = refl
few f (suc (suc (suc (suc (suc (suc (suc zero))))))) x r h g = refl
few f (suc (suc (suc (suc (suc (suc (suc (suc m)))))))) x r h g = absurd (omega (arith, g))

-- the bits of the last byte
last_part : (f : Bool) (m b : ℕ) (bs r : List ℕ) → 0 < m → m < 8 → b < 256
    → row_at f m (b ∷ bs) r ≡ comma f ++ decimal_on (b / 2 ^ (8 - m)) (codes ":" ++ decimal_on m r)
unfolding byte_bits
last_part f m b bs r h g l =
    ap (λ y. bits_on f y r)
    (take-append-le m (bits_of 8 b) (byte_bits bs)
    (let e : length (bits_of 8 b) ≡ 8 = length-bits_of 8 b in omega arith)
    ∙ ap (λ k. take m (bits_of k b)) (let e : 8 ≡ m + (8 - m) = omega arith in e)
    ∙ ap (take m) (high_bits m (8 - m) b)
    ∙ ap (λ k. take k (bits_of m x ++ bits_of (8 - m) b)) (sym (length-bits_of m x))
    ∙ take-append_seam (bits_of m x) (bits_of (8 - m) b))
    ∙ few f m x r h g
    ∙ ap (λ n. comma f ++ decimal_on n (codes ":" ++ decimal_on m r))
    (number_from-bits_of m 0 x ∙ no_zero (2 ^ m) (x % 2 ^ m) ∙ mod-eq_of_lt small)
  where
    x : ℕ
    x = b / 2 ^ (8 - m)

    small : b / 2 ^ (8 - m) < 2 ^ m
    small =
        let e : 2 ^ (8 - m) * 2 ^ m ≡ 2 ^ (m + (8 - m)) = powers (8 - m) m in
        let d : 2 ^ (m + (8 - m)) ≡ 256 = ap (λ k. 2 ^ k) (let k : m + (8 - m) ≡ 8 = omega arith in k) in
        let p : 0 < 2 ^ (8 - m) = omega (arith, suc_ones (8 - m)) in
        (div-lt_iff_lt-mul p).1 (omega (arith, e, d))

last_at : (f : Bool) (m : ℕ) (bs r : List ℕ) (i : ℕ) → i < length bs → 0 < m → m < 8 → get_or bs i 0 < 256
    → row_at f m (drop i bs) r ≡ comma f ++ decimal_on (get_or bs i 0 / 2 ^ (8 - m)) (codes ":" ++ decimal_on m r)
last_at f m bs r i h g l b =
    ap (λ y. row_at f m y r) (drop_more bs i 0 h) ∙ last_part f m (get_or bs i 0) (drop (i + 1) bs) r g l b

later : (i : ℕ) → eqb (i + 1) 0 ≡ false
later i = ne_eqb (i + 1) 0 (λ e. absurd (omega (arith, e)))

-- the text with what is still to come, before a byte and behind it
pub step_kept : (out o1 o2 : List ℕ) (all : List ℕ → List ℕ) (bs : List ℕ) (i n : ℕ) → o1 ≡ out ++ comma (eqb i 0)
    → Adds o1 o2 (decimal_on (get_or bs i 0))
    → i < length bs → 8 * i + 8 ≤ n → get_or bs i 0 < 256
    → ((r : List ℕ) → out ++ row_at (eqb i 0) (n - 8 * i) (drop i bs) r ≡ all r)
    → (r : List ℕ) → o2 ++ row_at (eqb (i + 1) 0) (n - 8 * (i + 1)) (drop (i + 1) bs) r ≡ all r
step_kept out o1 o2 all bs i n e f h g b k r =
    ap₂ (λ c m. o2 ++ row_at c m (drop (i + 1) bs) r) (later i)
    (let d : n - 8 * (i + 1) ≡ n - 8 * i - 8 = omega arith in d)
    ∙ f _ ∙ adds out o1 (comma (eqb i 0)) e _
    ∙ ap (λ x. out ++ x) (sym (byte_step (eqb i 0) (n - 8 * i) bs r i h (omega arith) b))
    ∙ k r

-- the text once the last part is written
pub ended : (out o : List ℕ) (all : List ℕ → List ℕ) (f : Bool) (bs : List ℕ) (i n m : ℕ) → f ≡ eqb i 0 → m ≡ n % 8
    → i ≡ n / 8 → 0 < m → i < length bs → get_or bs i 0 < 256
    → Adds out o (λ r. comma f ++ decimal_on (get_or bs i 0 / 2 ^ (8 - m)) (codes ":" ++ decimal_on m r))
    → ((r : List ℕ) → out ++ row_at (eqb i 0) (n - 8 * i) (drop i bs) r ≡ all r) → (r : List ℕ) → o ++ r ≡ all r
ended out o all f bs i n m g d q p h b e k r =
    e r
    ∙ ap (λ c. out ++ (comma c ++ decimal_on (get_or bs i 0 / 2 ^ (8 - m)) (codes ":" ++ decimal_on m r))) g
    ∙ ap (λ x. out ++ x) (sym (last_at (eqb i 0) m bs r i h p (omega arith) b))
    ∙ ap (λ l. out ++ row_at (eqb i 0) l (drop i bs) r) (let e : m ≡ n - 8 * i = omega arith in e)
    ∙ k r

-- the text where no part is left
pub ended_whole : (out : List ℕ) (all : List ℕ → List ℕ) (bs : List ℕ) (i n : ℕ) → n % 8 ≡ 0 → i ≡ n / 8
    → ((r : List ℕ) → out ++ row_at (eqb i 0) (n - 8 * i) (drop i bs) r ≡ all r) → (r : List ℕ) → out ++ r ≡ all r
ended_whole out all bs i n d q k r =
    ap (λ m. out ++ row_at (eqb i 0) m (drop i bs) r) (let e : 0 ≡ n - 8 * i = omega arith in e) ∙ k r

pub full : (b : Bits) (bs : List ℕ) → IsFull b → bs ≡ b.bytes → length bs ≡ (b.length + 7) / 8
full b bs h e = ap length e ∙ count_of_full b h
