-- Bit strings in bytes are compared by their bytes and then by their lengths.
use Rattle.std.proofs.Common.{◌≡◌, ◌≢◌, ℕ, zero, suc, ◌+◌, ◌*◌, ◌/◌, ◌%◌, ◌^◌, ◌≤◌, ◌<◌, min, refl, sym, ap, ap₂, ◌∙◌, subst, List, [], ◌∷◌, ◌++◌, length, get_or, drop, arith, IsTrue, Bool, true, false, not, eqb, length-append}
use Rattle.std.specs.declared.cmp.Ordering.{Ordering}
use Rattle.std.specs.declared.cmp.Ordering.TheVariants.{Less, Equal, Greater}
use Rattle.std.specs.Ordering.{nat_cmp, bool_cmp, ordering_then, MatchOrdering}
use Rattle.std.specs.Cmp.{nat_cmp_is}
use Rattle.std.specs.Cmp.Lexicographic.{slice_cmp}
use Rattle.std.specs.List.{list_all}
use Rattle.std.proofs.lemmas.Cmp.{ranked}
use Rattle.std.proofs.Math.Nat.{mod-add-div, div-div-eq-div-mul, pow-suc}
use Rattle.std.proofs.Math.Pow.{suc_ones}
use borrow.Author.Tests.{eqb-true}
use Rattle.std.proofs.lemmas.List.{drop_more, take-append-drop, length-take-le, length-drop}
use Rattle.erl_term.specs.declared.term.Bits.{Bits}
use Rattle.erl_term.specs.BitString.{bits_of, byte_bits}
use Rattle.erl_term.specs.View.{bits_view}
use Rattle.erl_term.specs.WellFormed.{IsFull, bits_fit}
use Rattle.erl_term.proofs.Comparing.{then-assoc, both_longer, first_shorter, first_longer, decided}
use Rattle.erl_term.proofs.Forms.{left_true, right_true}

-- the highest of k + 1 bits, and the others
pub high_and_low : (x q : ℕ) → x % (q * 2) ≡ (x / q) % 2 * q + x % q
high_and_low x q =
    let d : x / q / 2 ≡ x / (q * 2) = div-div-eq-div-mul x q 2 in
    let e : x % (q * 2) + q * 2 * (x / (q * 2)) ≡ x = mod-add-div x (q * 2) in
    let f : x % q + q * (x / q) ≡ x = mod-add-div x q in
    let g : x / q % 2 + 2 * (x / q / 2) ≡ x / q = mod-add-div (x / q) 2 in
    let f' : x % q + q * (x / q % 2 + 2 * (x / q / 2)) ≡ x = subst (λ n. x % q + q * n ≡ x) (sym g) f in
    let e' : x % (q * 2) + q * 2 * (x / q / 2) ≡ x = subst (λ n. x % (q * 2) + q * 2 * n ≡ x) (sym d) e in
    omega (arith, e', f')

-- q is the weight of the highest bit
ordered_by_high : (a b q x y : ℕ) → a < 2 → b < 2 → x < q → y < q
    → nat_cmp (a * q + x) (b * q + y) ≡ ordering_then (bool_cmp (eqb a 1) (eqb b 1)) (nat_cmp x y)
ordered_by_high zero zero q x y h g e f =
    let u : 0 * q + x ≡ x = omega arith in let v : 0 * q + y ≡ y = omega arith in ap₂ nat_cmp u v
ordered_by_high zero (suc zero) q x y h g e f = sym (nat_cmp_is (0 * q + x) (1 * q + y) Less (omega arith))
ordered_by_high (suc zero) zero q x y h g e f = sym (nat_cmp_is (1 * q + x) (0 * q + y) Greater (omega arith))
ordered_by_high (suc zero) (suc zero) q x y h g e f =
    sym (nat_cmp_is (1 * q + x) (1 * q + y) (nat_cmp x y) (shifted q x y (nat_cmp x y) (ranked x y (nat_cmp x y) refl)))
  where
    shifted : (q x y : ℕ) (o : Ordering) → MatchOrdering o (x < y) (x ≡ y) (y < x)
        → MatchOrdering o (1 * q + x < 1 * q + y) (1 * q + x ≡ 1 * q + y) (1 * q + y < 1 * q + x)
    shifted q x y Less h = omega (arith, h)
    shifted q x y Equal h = ap (λ z. 1 * q + z) h
    shifted q x y Greater h = omega (arith, h)
ordered_by_high (suc (suc a)) b q x y h g e f = absurd (omega (arith, h))
ordered_by_high zero (suc (suc b)) q x y h g e f = absurd (omega (arith, g))
ordered_by_high (suc zero) (suc (suc b)) q x y h g e f = absurd (omega (arith, g))

bits_ordered : (k x y : ℕ) (r s : List Bool)
    → slice_cmp bool_cmp (bits_of k x ++ r) (bits_of k y ++ s)
    ≡ ordering_then (nat_cmp (x % 2 ^ k) (y % 2 ^ k)) (slice_cmp bool_cmp r s)
bits_ordered zero x y r s =
    ap (λ o. ordering_then o (slice_cmp bool_cmp r s)) (nat_cmp_is (x % 1) (y % 1) Equal (omega arith))
bits_ordered (suc k) x y r s =
    let q : ℕ = 2 ^ k in
    let p : 0 < q = omega (arith, suc_ones k) in
    ap (ordering_then (bool_cmp (eqb (x / q % 2) 1) (eqb (y / q % 2) 1))) (bits_ordered k x y r s)
    ∙ then-assoc (bool_cmp (eqb (x / q % 2) 1) (eqb (y / q % 2) 1)) (nat_cmp (x % q) (y % q)) (slice_cmp bool_cmp r s)
    ∙ ap (λ o. ordering_then o (slice_cmp bool_cmp r s))
    (sym (ordered_by_high (x / q % 2) (y / q % 2) q (x % q) (y % q) (omega arith) (omega arith)
    (omega arith) (omega arith))
    ∙ ap₂ nat_cmp (sym (high_and_low x q) ∙ ap (λ m. x % m) (sym (pow-suc 2 k)))
    (sym (high_and_low y q) ∙ ap (λ m. y % m) (sym (pow-suc 2 k))))

pub byte_is : (x : ℕ) → x < 256 → x % 2 ^ 8 ≡ x
byte_is x h = omega arith

abbrev bytes_cmp : List ℕ → List ℕ → Ordering
bytes_cmp as' bs = slice_cmp bool_cmp (byte_bits as') (byte_bits bs)

bytes_first : (a b : ℕ) (as' bs : List ℕ) → a < 256 → b < 256
    → bytes_cmp (a ∷ as') (b ∷ bs) ≡ ordering_then (nat_cmp a b) (bytes_cmp as' bs)
unfolding byte_bits
bytes_first a b as' bs h g =
    bits_ordered 8 a b (byte_bits as') (byte_bits bs)
    ∙ ap (λ o. ordering_then o (bytes_cmp as' bs)) (ap₂ nat_cmp (byte_is a h) (byte_is b g))

-- the bytes at i in front of those behind them
pub bytes_step : (as' bs : List ℕ) (i : ℕ) → i < length as' → i < length bs → get_or as' i 0 < 256 → get_or bs i 0 < 256
    → bytes_cmp (drop i as') (drop i bs)
    ≡ ordering_then (nat_cmp (get_or as' i 0) (get_or bs i 0)) (bytes_cmp (drop (i + 1) as') (drop (i + 1) bs))
bytes_step as' bs i h g u v =
    ap₂ bytes_cmp (drop_more as' i 0 h) (drop_more bs i 0 g)
    ∙ bytes_first (get_or as' i 0) (get_or bs i 0) (drop (i + 1) as') (drop (i + 1) bs) u v

-- one of the rows is at its end
pub bytes_end : (as' bs : List ℕ) (i : ℕ) → i ≤ length as' → i ≤ length bs → min (length as') (length bs) ≤ i
    → bytes_cmp (drop i as') (drop i bs) ≡ nat_cmp (length as') (length bs)
unfolding byte_bits
bytes_end [] [] zero h g m = refl
bytes_end [] (b ∷ bs) zero h g m = sym (first_shorter (length bs))
bytes_end (a ∷ as') [] zero h g m = sym (first_longer (length as'))
bytes_end (a ∷ as') (b ∷ bs) zero h g m = absurd (omega (arith, m))
bytes_end [] bs (suc i) h g m = absurd (omega (arith, h))
bytes_end (a ∷ as') [] (suc i) h g m = absurd (omega (arith, g))
bytes_end (a ∷ as') (b ∷ bs) (suc i) h g m =
    bytes_end as' bs i (omega (arith, h)) (omega (arith, g)) (omega (arith, m))
    ∙ sym (both_longer (length as') (length bs))

pub bytes_over : (as' bs : List ℕ) (o : Ordering) → o ≢ Equal → (i : ℕ) → i < length as' → i < length bs
    → get_or as' i 0 < 256 → get_or bs i 0 < 256
    → o ≡ nat_cmp (get_or as' i 0) (get_or bs i 0) → o ≡ bytes_cmp (drop i as') (drop i bs)
bytes_over as' bs o n i h g u v e =
    sym (decided o (bytes_cmp (drop (i + 1) as') (drop (i + 1) bs)) n)
    ∙ ap (λ p. ordering_then p (bytes_cmp (drop (i + 1) as') (drop (i + 1) bs))) e
    ∙ sym (bytes_step as' bs i h g u v)

pub length-bits_of : (k m : ℕ) → length (bits_of k m) ≡ k
length-bits_of zero m = refl
length-bits_of (suc k) m = ap suc (length-bits_of k m)

pub length-byte_bits : (bs : List ℕ) → length (byte_bits bs) ≡ 8 * length bs
unfolding byte_bits
length-byte_bits [] = refl
length-byte_bits (b ∷ bs) =
    length-append (bits_of 8 b) (byte_bits bs) ∙ omega (arith, length-bits_of 8 b, length-byte_bits bs)

-- bits that are all zero
abbrev Zero : List Bool → Type 0
Zero bs = IsTrue (list_all not bs)

zero_tail : (b : Bool) (bs : List Bool) → Zero (b ∷ bs) → Zero bs
zero_tail b bs h = right_true (not b) (list_all not bs) h

pub ruleset bytes = (bytes_step, bytes_end, bytes_over)

zeros_first : (z bs : List Bool) → Zero z → length z ≤ length bs → ordering_then (slice_cmp bool_cmp z bs) Less ≡ Less
zeros_first [] [] h l = refl
zeros_first [] (b ∷ bs) h l = refl
zeros_first (true ∷ z) bs h l = cc
zeros_first (false ∷ z) [] h l = absurd (omega (arith, l))
zeros_first (false ∷ z) (true ∷ bs) h l = refl
zeros_first (false ∷ z) (false ∷ bs) h l = zeros_first z bs h (omega (arith, l))

zeros_last : (z bs : List Bool) → Zero z → length z ≤ length bs
    → ordering_then (slice_cmp bool_cmp bs z) Greater ≡ Greater
zeros_last [] [] h l = refl
zeros_last [] (b ∷ bs) h l = refl
zeros_last (true ∷ z) bs h l = cc
zeros_last (false ∷ z) [] h l = absurd (omega (arith, l))
zeros_last (false ∷ z) (true ∷ bs) h l = refl
zeros_last (false ∷ z) (false ∷ bs) h l = zeros_last z bs h (omega (arith, l))

zeros_same : (y z : List Bool) → Zero y → Zero z → length y ≡ length z → slice_cmp bool_cmp y z ≡ Equal
zeros_same [] [] g h e = refl
zeros_same [] (b ∷ z) g h e = absurd (omega (arith, e))
zeros_same (a ∷ y) [] g h e = absurd (omega (arith, e))
zeros_same (true ∷ y) z g h e = cc
zeros_same (false ∷ y) (true ∷ z) g h e = cc
zeros_same (false ∷ y) (false ∷ z) g h e = zeros_same y z g h (omega (arith, e))

-- y and z fill a and b up, the longer of them to no less than the other
filled : (a b y z : List Bool) → Zero y → Zero z
    → (length a ≤ length b → length a + length y ≤ length b + length z)
    → (length b ≤ length a → length b + length z ≤ length a + length y)
    → slice_cmp bool_cmp a b ≡ ordering_then (slice_cmp bool_cmp (a ++ y) (b ++ z)) (nat_cmp (length a) (length b))
filled [] [] y z g h m n =
    ap (λ o. ordering_then o Equal) (sym (zeros_same y z g h (omega (arith, m (omega arith), n (omega arith)))))
filled [] (b ∷ bs) y z g h m n =
    sym (zeros_first y (b ∷ bs ++ z) g (omega (arith, length-append bs z, m (omega arith))))
    ∙ ap (ordering_then (slice_cmp bool_cmp y (b ∷ bs ++ z))) (sym (first_shorter (length bs)))
filled (a ∷ as') [] y z g h m n =
    sym (zeros_last z (a ∷ as' ++ y) h (omega (arith, length-append as' y, n (omega arith))))
    ∙ ap (ordering_then (slice_cmp bool_cmp (a ∷ as' ++ y) z)) (sym (first_longer (length as')))
filled (a ∷ as') (b ∷ bs) y z g h m n =
    ap (ordering_then (bool_cmp a b))
    (filled as' bs y z g h (λ l. omega (arith, m (omega (arith, l)))) (λ l. omega (arith, n (omega (arith, l)))))
    ∙ then-assoc (bool_cmp a b) (slice_cmp bool_cmp (as' ++ y) (bs ++ z)) (nat_cmp (length as') (length bs))
    ∙ ap (ordering_then (ordering_then (bool_cmp a b) (slice_cmp bool_cmp (as' ++ y) (bs ++ z))))
    (sym (both_longer (length as') (length bs)))

pub count_of_full : (b : Bits) → IsFull b → length b.bytes ≡ (b.length + 7) / 8
unfolding bits_fit
count_of_full b h = eqb-true (length b.bytes) ((b.length + 7) / 8)
    (left_true (eqb (length b.bytes) ((b.length + 7) / 8)) _ h)

zero_of_full : (b : Bits) → IsFull b → Zero (drop b.length (byte_bits b.bytes))
unfolding bits_fit
zero_of_full b h = right_true (eqb (length b.bytes) ((b.length + 7) / 8)) _ h

length-bits_view : (b : Bits) → IsFull b → length (bits_view b) ≡ b.length
length-bits_view b h = length-take-le b.length (byte_bits b.bytes)
    (omega (arith, length-byte_bits b.bytes, count_of_full b h))

length-unused : (b : Bits) → IsFull b → b.length + length (drop b.length (byte_bits b.bytes)) ≡ 8 * ((b.length + 7) / 8)
length-unused b h = omega (arith, length-drop b.length (byte_bits b.bytes), length-byte_bits b.bytes, count_of_full b h)

pub bits_compared : (a b : Bits) → IsFull a → IsFull b
    → slice_cmp bool_cmp (bits_view a) (bits_view b)
    ≡ ordering_then (slice_cmp bool_cmp (byte_bits a.bytes) (byte_bits b.bytes)) (nat_cmp a.length b.length)
bits_compared a b g h =
    let p : length (bits_view a) ≡ a.length = length-bits_view a g in
    let q : length (bits_view b) ≡ b.length = length-bits_view b h in
    let u : a.length + length (drop a.length (byte_bits a.bytes)) ≡ 8 * ((a.length + 7) / 8) = length-unused a g in
    let v : b.length + length (drop b.length (byte_bits b.bytes)) ≡ 8 * ((b.length + 7) / 8) = length-unused b h in
    filled (bits_view a) (bits_view b) (drop a.length (byte_bits a.bytes)) (drop b.length (byte_bits b.bytes))
    (zero_of_full a g) (zero_of_full b h) (λ l. omega arith) (λ l. omega arith)
    ∙ ap₂ ordering_then
    (ap₂ (slice_cmp bool_cmp) (take-append-drop a.length (byte_bits a.bytes))
    (take-append-drop b.length (byte_bits b.bytes)))
    (ap₂ nat_cmp p q)
