-- The bits of the parts of a bit string, byte by byte.
use Rattle.std.proofs.Common.{◌≡◌, ℕ, zero, suc, ◌+◌, ◌*◌, ◌-◌, ◌/◌, ◌%◌, ◌^◌, ◌≤◌, ◌<◌, refl, sym, ap, ap₂, ◌∙◌, subst, List, [], ◌∷◌, ◌++◌, map, length, take, drop, arith, IsTrue, Bool, true, false, not, ◌&&◌, eqb, nat_le, nat_lt, append-nil, append_assoc}
use Rattle.std.specs.List.{list_all}
use Rattle.std.proofs.Math.Nat.{pow-suc, mul-div_cancel, mul-lt-mul_of_pos_left, mul_comm}
use Rattle.std.proofs.Math.Pow.{suc_ones}
use Rattle.std.proofs.Math.Seq.{take-append-add, take-append_seam, drop-append_seam}
use Rattle.std.proofs.lemmas.Bool.Decides.{nat_tests}
use borrow.Author.Tests.{eqb-true, eq-eqb, ltb-true}
use Rattle.erl_term.specs.declared.term.Bits.{Bits}
use Rattle.erl_term.specs.BitString.{bits_of, byte_bits}
use Rattle.erl_term.specs.WellFormed.{IsFull, bits_fit}
use Rattle.erl_term.proofs.Forms.{left_true, right_true, both_true}
use Rattle.erl_term.proofs.BitOrder.{length-bits_of, length-byte_bits}
use Rattle.term_read.specs.declared.flat.Part.{Part}
use Rattle.term_read.specs.TermGrammar.{whole_before_last, bits_in}
use Rattle.term_read.specs.BitParts.{is_part, AreParts}
use Rattle.term_text.proofs.BitText.{high_bits}

-- the byte that holds a part in its highest bits
abbrev pub shifted : Part → ℕ
shifted p = p.number * 2 ^ (8 - p.size)

abbrev pub total : List Part → ℕ
total [] = 0
total (p ∷ ps) = p.size + total ps

-- Whole bytes.

pub whole_view : (bs : List ℕ) (n : ℕ) → n ≡ 8 * length bs → take n (byte_bits bs) ≡ byte_bits bs
whole_view bs n e = ap (λ k. take k (byte_bits bs)) (e ∙ sym (length-byte_bits bs)) ∙ all_of (byte_bits bs)
  where
    all_of : (xs : List Bool) → take (length xs) xs ≡ xs
    all_of [] = refl
    all_of (x ∷ xs) = ap (λ ys. x ∷ ys) (all_of xs)

none_left : (xs : List Bool) → drop (length xs) xs ≡ []
none_left [] = refl
none_left (x ∷ xs) = none_left xs

-- the bits below a shifted number are zero
zeros : (j x : ℕ) → list_all not (bits_of j (x * 2 ^ j)) ≡ true
zeros zero x = refl
zeros (suc k) x =
    ap₂ (λ d m. not (eqb (d % 2) 1) && list_all not (bits_of k m))
    (halved (2 ^ k) (2 ^ suc k) (pow-suc 2 k) (omega (arith, suc_ones k)))
    (ap (λ p. x * p) (pow-suc 2 k) ∙ regroup x (2 ^ k))
    ∙ ap₂ (λ b c. not b && c) (even x) (zeros k (x * 2))
  where
    twice : (p : ℕ) → p * 2 ≡ 2 * p
    twice p = omega arith

    regrouped : (a b : ℕ) → a * (2 * b) ≡ a * 2 * b
    regrouped a b = omega arith

    halved : (p q : ℕ) → q ≡ p * 2 → 0 < p → x * q / p ≡ x * 2
    halved p q e h = ap (λ r. x * r / p) (e ∙ twice p) ∙ ap (λ r. r / p) (regrouped x p) ∙ mul-div_cancel (x * 2) h

    regroup : (a b : ℕ) → a * (b * 2) ≡ a * 2 * b
    regroup a b = omega arith

    even : (x : ℕ) → eqb (x * 2 % 2) 1 ≡ false
    even x = grind (arith, nat_tests)

-- Parts.

part_size : (p : Part) → IsTrue (is_part p) → (0 < p.size) × (p.size ≤ 8) × (p.number < 2 ^ p.size)
part_size p h =
    let low = left_true (nat_le 1 p.size) (nat_le p.size 8)
    (left_true (nat_le 1 p.size && nat_le p.size 8) (nat_lt p.number (2 ^ p.size)) h) in
    let high = right_true (nat_le 1 p.size) (nat_le p.size 8)
    (left_true (nat_le 1 p.size && nat_le p.size 8) (nat_lt p.number (2 ^ p.size)) h) in
    let fits = right_true (nat_le 1 p.size && nat_le p.size 8) (nat_lt p.number (2 ^ p.size)) h in
    (grind (arith, nat_tests, low), grind (arith, nat_tests, high), ltb-true p.number (2 ^ p.size) fits)

powers_of : (k : ℕ) → 0 < k → k ≤ 8 → 2 ^ k * 2 ^ (8 - k) ≡ 256
powers_of zero h g = absurd (omega arith)
powers_of (suc zero) h g = refl
powers_of (suc (suc zero)) h g = refl
powers_of (suc (suc (suc zero))) h g = refl
powers_of (suc (suc (suc (suc zero)))) h g = refl
powers_of (suc (suc (suc (suc (suc zero))))) h g = refl
powers_of (suc (suc (suc (suc (suc (suc zero)))))) h g = refl
powers_of (suc (suc (suc (suc (suc (suc (suc zero))))))) h g = refl
powers_of (suc (suc (suc (suc (suc (suc (suc (suc zero)))))))) h g = refl
powers_of (suc (suc (suc (suc (suc (suc (suc (suc (suc k))))))))) h g = absurd (omega arith)

lt_of_le : (n a b : ℕ) → n < a → 0 < b → n * b < a * b
lt_of_le n a b h g = subst (λ x. x < a * b) (mul_comm b n)
    (subst (λ x. b * n < x) (mul_comm b a) (mul-lt-mul_of_pos_left h g))

below_256 : (n a b : ℕ) → n < a → 0 < b → a * b ≡ 256 → n * b < 256
below_256 n a b h g e = omega (arith, e, lt_of_le n a b h g)

pub high_bytes : (n k : ℕ) → 0 < k → k ≤ 8 → n < 2 ^ k → n * 2 ^ (8 - k) < 256
high_bytes n k h g l = below_256 n (2 ^ k) (2 ^ (8 - k)) l (omega (arith, suc_ones (8 - k))) (powers_of k h g)

-- a part's bits are the highest of its byte, and the others are zero
part_bits : (p : Part) → IsTrue (is_part p)
    → bits_of 8 (shifted p) ≡ bits_of p.size p.number ++ bits_of (8 - p.size) (shifted p)
part_bits p h =
    let s = part_size p h in
    ap (λ k. bits_of k (shifted p)) (let e : 8 ≡ p.size + (8 - p.size) = omega (arith, s.1) in e)
    ∙ high_bits p.size (8 - p.size) (shifted p)
    ∙ ap (λ m. bits_of p.size m ++ bits_of (8 - p.size) (shifted p))
    (mul-div_cancel p.number (omega (arith, suc_ones (8 - p.size))))

byte_part : (p : Part) → eqb p.size 8 ≡ true → shifted p ≡ p.number
byte_part p e = let s : p.size ≡ 8 = eqb-true p.size 8 e in ap (λ k. p.number * 2 ^ (8 - k)) s ∙ one p.number
  where
    one : (n : ℕ) → n * 1 ≡ n
    one n = omega arith

taken_part : (p : Part) (r : List Bool) → take p.size (bits_of p.size p.number ++ r) ≡ bits_of p.size p.number
taken_part p r = ap (λ k. take k (bits_of p.size p.number ++ r)) (sym (length-bits_of p.size p.number))
    ∙ take-append_seam (bits_of p.size p.number) r

parts_view : (ps : List Part) → IsTrue (whole_before_last ps) → AreParts ps
    → take (total ps) (byte_bits (map shifted ps)) ≡ bits_in ps
unfolding byte_bits
parts_view [] w h = refl
parts_view (p ∷ []) w h =
    let f = left_true (is_part p) true h in
    ap₂ take (let e : p.size + 0 ≡ p.size = omega arith in e) (append-nil (bits_of 8 (shifted p)) ∙ part_bits p f)
    ∙ taken_part p (bits_of (8 - p.size) (shifted p)) ∙ sym (append-nil (bits_of p.size p.number))
parts_view (p ∷ q ∷ ps) w h =
    let whole = left_true (eqb p.size 8) (whole_before_last (q ∷ ps)) w in
    let eight : p.size ≡ 8 = eqb-true p.size 8 whole in
    ap₂ take (ap (λ k. k + total (q ∷ ps)) eight)
    (ap (λ n. bits_of 8 n ++ byte_bits (map shifted (q ∷ ps))) (byte_part p whole))
    ∙ take-append-add (bits_of 8 p.number) (byte_bits (map shifted (q ∷ ps))) (total (q ∷ ps))
    ∙ ap₂ (λ k r. bits_of k p.number ++ r) (sym eight)
    (parts_view (q ∷ ps) (right_true (eqb p.size 8) (whole_before_last (q ∷ ps)) w) (right_true (is_part p) _ h))

none_more : (xs : List Bool) → list_all not (drop (length xs) xs) ≡ true
none_more xs = ap (list_all not) (none_left xs)

drop_part : (p : Part) (r : List Bool) → drop p.size (bits_of p.size p.number ++ r) ≡ r
drop_part p r = ap (λ k. drop k (bits_of p.size p.number ++ r)) (sym (length-bits_of p.size p.number))
    ∙ drop-append_seam (bits_of p.size p.number) r

drop-append-add : (xs ys : List Bool) (n : ℕ) → drop (length xs + n) (xs ++ ys) ≡ drop n ys
drop-append-add [] ys n = ap (λ k. drop k ys) (let e : 0 + n ≡ n = omega arith in e)
drop-append-add (x ∷ xs) ys n = ap (λ k. drop k (x ∷ (xs ++ ys)))
    (let e : suc (length xs) + n ≡ suc (length xs + n) = omega arith in e) ∙ drop-append-add xs ys n

parts_zero : (ps : List Part) → IsTrue (whole_before_last ps) → AreParts ps
    → IsTrue (list_all not (drop (total ps) (byte_bits (map shifted ps))))
unfolding byte_bits
parts_zero [] w h = refl
parts_zero (p ∷ []) w h =
    let f = left_true (is_part p) true h in
    ap (list_all not)
    (ap₂ drop (let e : p.size + 0 ≡ p.size = omega arith in e) (append-nil (bits_of 8 (shifted p)) ∙ part_bits p f)
    ∙ drop_part p (bits_of (8 - p.size) (shifted p)))
    ∙ zeros (8 - p.size) p.number
parts_zero (p ∷ q ∷ ps) w h =
    let whole = left_true (eqb p.size 8) (whole_before_last (q ∷ ps)) w in
    let eight : p.size ≡ 8 = eqb-true p.size 8 whole in
    ap (list_all not)
    (ap (λ k. drop (k + total (q ∷ ps)) (bits_of 8 (shifted p) ++ byte_bits (map shifted (q ∷ ps)))) eight
    ∙ drop-append-add (bits_of 8 (shifted p)) (byte_bits (map shifted (q ∷ ps))) (total (q ∷ ps)))
    ∙ parts_zero (q ∷ ps) (right_true (eqb p.size 8) (whole_before_last (q ∷ ps)) w) (right_true (is_part p) _ h)

parts_count : (ps : List Part) → IsTrue (whole_before_last ps) → AreParts ps
    → length (map shifted ps) ≡ (total ps + 7) / 8
parts_count [] w h = refl
parts_count (p ∷ []) w h = let s = part_size p (left_true (is_part p) true h) in omega (arith, s.0, s.1)
parts_count (p ∷ q ∷ ps) w h =
    let whole = left_true (eqb p.size 8) (whole_before_last (q ∷ ps)) w in
    let eight : p.size ≡ 8 = eqb-true p.size 8 whole in
    omega (
      arith,
      eight,
      parts_count (q ∷ ps) (right_true (eqb p.size 8) (whole_before_last (q ∷ ps)) w)
          (right_true (is_part p) _ h),
    )

pub parts_bits : (ps : List Part) (bs : List ℕ) (n : ℕ) → IsTrue (whole_before_last ps) → AreParts ps
    → bs ≡ map shifted ps → n ≡ total ps → take n (byte_bits bs) ≡ bits_in ps
parts_bits ps bs n w h e f = ap₂ (λ k xs. take k (byte_bits xs)) f e ∙ parts_view ps w h

full_of : (b : Bits) → length b.bytes ≡ (b.length + 7) / 8 → IsTrue (list_all not (drop b.length (byte_bits b.bytes)))
    → IsFull b
unfolding bits_fit
full_of b e h = both_true (eqb (length b.bytes) ((b.length + 7) / 8)) _
    (eq-eqb (length b.bytes) ((b.length + 7) / 8) e) h

pub parts_full : (ps : List Part) (b : Bits) → IsTrue (whole_before_last ps) → AreParts ps → b.bytes ≡ map shifted ps
    → b.length ≡ total ps → IsFull b
parts_full ps b w h e f =
    full_of b (ap length e ∙ parts_count ps w h ∙ ap (λ n. (n + 7) / 8) (sym f))
    (ap₂ (λ k xs. list_all not (drop k (byte_bits xs))) f e ∙ parts_zero ps w h)

pub whole_full : (b : Bits) → b.length ≡ 8 * length b.bytes → IsFull b
whole_full b e =
    full_of b (omega (arith, e))
    (ap (λ k. list_all not (drop k (byte_bits b.bytes))) (e ∙ sym (length-byte_bits b.bytes))
    ∙ none_more (byte_bits b.bytes))

-- Steps of the loop over parts.

pub bytes_step : (ps rest : List Part) (p : Part) (bytes new all : List ℕ) (byte : ℕ) → ps ≡ p ∷ rest
    → new ≡ bytes ++ byte ∷ [] → byte ≡ shifted p
    → bytes ++ map shifted ps ≡ all → new ++ map shifted rest ≡ all
bytes_step ps rest p bytes new all byte e f g h =
    ap (λ xs. xs ++ map shifted rest) (f ∙ ap (λ x. bytes ++ x ∷ []) g)
    ∙ append_assoc bytes (shifted p ∷ []) (map shifted rest) ∙ ap (λ xs. bytes ++ map shifted xs) (sym e) ∙ h

pub total_step : (ps rest : List Part) (p : Part) (n k all : ℕ) → ps ≡ p ∷ rest → k ≡ p.size → n + total ps ≡ all
    → n + k + total rest ≡ all
total_step ps rest p n k all e f h = omega (arith, ap total e, f, h)

pub rest_parts : (ps rest : List Part) (p : Part) → ps ≡ p ∷ rest → AreParts ps → AreParts rest
rest_parts ps rest p e h = right_true (is_part p) _ (subst AreParts e h)

pub first_part : (ps rest : List Part) (p : Part) → ps ≡ p ∷ rest → AreParts ps → (0 < p.size) × (p.size ≤ 8)
    × (p.number < 2 ^ p.size)
first_part ps rest p e h = part_size p (left_true (is_part p) (list_all is_part rest) (subst AreParts e h))

pub no_parts_left : (ps : List Part) (bytes all : List ℕ) → ps ≡ [] → bytes ++ map shifted ps ≡ all → bytes ≡ all
no_parts_left ps bytes all e h = sym (append-nil bytes) ∙ ap (λ xs. bytes ++ map shifted xs) (sym e) ∙ h

pub no_bits_left : (ps : List Part) (n all : ℕ) → ps ≡ [] → n + total ps ≡ all → n ≡ all
no_bits_left ps n all e h = omega (arith, ap total e, h)
