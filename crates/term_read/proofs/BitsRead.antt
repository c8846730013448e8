-- Bits as they are printed are read again.
use Rattle.std.proofs.Common.{◌≡◌, ℕ, suc, ◌+◌, ◌*◌, ◌/◌, ◌%◌, ◌^◌, ◌<◌, refl, sym, ap, ap₂, ◌∙◌, subst, List, [], ◌∷◌, ◌++◌, length, codes, Option, Some, None, Bool, true, false, if◌then◌else◌, eqb, leb, ltb, IsTrue, arith, lit≤, append-nil}
use Rattle.std.proofs.Math.Nat.{pow-suc}
use Rattle.std.proofs.lemmas.Nat.{div-mul-add}
use Rattle.std.proofs.lemmas.Bool.{lt-ltb, le-leb}
use Rattle.erl_term.proofs.Forms.{both_true}
use Rattle.erl_term.specs.BitString.{bits_of, number_from}
use Rattle.term_text.specs.Decimal.{decimal_on}
use Rattle.term_text.specs.TermText.{bits_on}
use Rattle.term_read.specs.Lexemes.{◌>>=◌, behind_blanks, mark_at}
use Rattle.term_read.specs.TermGrammar as G
use Rattle.term_read.specs.TermGrammar.{Row, Items, PartOf, of_size, part_sized, part_at, whole_before_last, bits_in}
use Rattle.term_read.specs.declared.flat.Part.{Part}
use Rattle.term_read.specs.Printed.{Ends}
use Rattle.term_read.proofs.NumbersRead.{number_read}

-- The number of bits and its bits.

one_added : (n p x q : ℕ) → q ≡ p * 2 → (2 * n + 1) * p + x ≡ n * q + (1 * p + x)
one_added n p x q e = spread n p x ∙ ap (λ y. n * y + (1 * p + x)) (sym e)
  where
    spread : (n p x : ℕ) → (2 * n + 1) * p + x ≡ n * (p * 2) + (1 * p + x)
    spread n p x = omega arith

none_added : (n p x q : ℕ) → q ≡ p * 2 → 2 * n * p + x ≡ n * q + x
none_added n p x q e = spread n p x ∙ ap (λ y. n * y + x) (sym e)
  where
    spread : (n p x : ℕ) → 2 * n * p + x ≡ n * (p * 2) + x
    spread n p x = omega arith

number_split : (n : ℕ) (bs : List Bool) → number_from n bs ≡ n * 2 ^ length bs + number_from 0 bs
number_split n [] = omega arith
number_split n (true ∷ bs) =
    number_split (2 * n + 1) bs
    ∙ one_added n (2 ^ length bs) (number_from 0 bs) (2 ^ suc (length bs)) (pow-suc 2 (length bs))
    ∙ ap (λ y. n * 2 ^ suc (length bs) + y) (sym (number_split 1 bs))
number_split n (false ∷ bs) = number_split (2 * n) bs
    ∙ none_added n (2 ^ length bs) (number_from 0 bs) (2 ^ suc (length bs)) (pow-suc 2 (length bs))

number_below : (bs : List Bool) → number_from 0 bs < 2 ^ length bs
number_below [] = omega arith
number_below (true ∷ bs) = omega (arith, number_split 1 bs, number_below bs, pow-suc 2 (length bs))
number_below (false ∷ bs) = omega (arith, number_below bs, pow-suc 2 (length bs))

first_bit_of : (n k : ℕ) (bs : List Bool) → number_from n bs / 2 ^ length bs ≡ n
first_bit_of n k bs = ap (λ m. m / 2 ^ length bs) (number_split n bs)
    ∙ div-mul-add n (2 ^ length bs) (number_from 0 bs) (number_below bs)

odd : (n : ℕ) → (2 * n + 1) % 2 ≡ 1
odd n = omega arith

even : (n : ℕ) → 2 * n % 2 ≡ 0
even n = omega arith

bits_back : (n : ℕ) (bs : List Bool) → bits_of (length bs) (number_from n bs) ≡ bs
bits_back n [] = refl
bits_back n (true ∷ bs) = ap₂ (λ q xs. eqb (q % 2) 1 ∷ xs) (first_bit_of (2 * n + 1) 0 bs) (bits_back (2 * n + 1) bs)
    ∙ ap (λ r. eqb r 1 ∷ bs) (odd n)
bits_back n (false ∷ bs) = ap₂ (λ q xs. eqb (q % 2) 1 ∷ xs) (first_bit_of (2 * n) 0 bs) (bits_back (2 * n) bs)
    ∙ ap (λ r. eqb r 1 ∷ bs) (even n)

-- Parts.

colon_there : (r : List ℕ) → mark_at (codes ":") (58 ∷ r) ≡ Some r
unfolding mark_at behind_blanks
colon_there r = refl

angles_there : (r : List ℕ) → (mark_at (codes ",") (62 ∷ 62 ∷ r) ≡ None) × (mark_at (codes ":") (62 ∷ 62 ∷ r) ≡ None)
    × (mark_at (codes ">>") (62 ∷ 62 ∷ r) ≡ Some r)
unfolding mark_at behind_blanks
angles_there r = (refl, refl, refl)

comma_no_colon : (r : List ℕ) → (mark_at (codes ",") (44 ∷ r) ≡ Some r) × (mark_at (codes ":") (44 ∷ r) ≡ None)
unfolding mark_at behind_blanks
comma_no_colon r = (refl, refl)

abbrev eight : (a b c d e f g i : Bool) → List Bool
eight a b c d e f g i = a ∷ b ∷ c ∷ d ∷ e ∷ f ∷ g ∷ i ∷ []

abbrev whole_part : ℕ → Part
whole_part n = record { number = n; size = 8 }

abbrev part_of : ℕ → ℕ → Part
part_of n k = record { number = n; size = k }

abbrev then_sized : ℕ × List ℕ → Option (Part × List ℕ)
then_sized n = part_sized n (mark_at (codes ":") n.1)

byte_there : (n : ℕ) (r : List ℕ) → n < 256 → Ends r → mark_at (codes ":") r ≡ None
    → part_at (decimal_on n r) ≡ Some (whole_part n, r)
unfolding part_at
byte_there n r l h e = ap (λ x. x >>= then_sized) (number_read 256 n r h l (lit≤ tt)) ∙ ap (part_sized (n, r)) e

part_there : (n k : ℕ) (r : List ℕ) → n < 2 ^ k → 0 < k → k < 8 → n < 256
    → part_at (decimal_on n (58 ∷ decimal_on k (62 ∷ r))) ≡ Some (part_of n k, 62 ∷ r)
unfolding part_at
part_there n k r l p q m =
    ap (λ x. x >>= then_sized) (number_read 256 n (58 ∷ decimal_on k (62 ∷ r)) refl m (lit≤ tt))
    ∙ ap (part_sized (n, 58 ∷ decimal_on k (62 ∷ r))) (colon_there (decimal_on k (62 ∷ r)))
    ∙ ap (of_size n) (number_read 8 k (62 ∷ r) refl q (lit≤ tt))
    ∙ ap (λ b. if b then Some given else None)
    (both_true (leb 1 k) (ltb n (2 ^ k)) (le-leb 1 k (omega (arith, p))) (lt-ltb n (2 ^ k) l))
  where
    given : Part × List ℕ
    given = (part_of n k, 62 ∷ r)

whole_more : (n : ℕ) (ps : List Part) → IsTrue (whole_before_last ps) → IsTrue (whole_before_last (whole_part n ∷ ps))
whole_more n [] h = refl
whole_more n (p ∷ ps) h = h

record BitsThere (bs : List Bool) (r : List ℕ) : Type 0 where
  parts : List Part
  read : Items PartOf (bits_on true bs (62 ∷ 62 ∷ r)) parts (62 ∷ 62 ∷ r)
  whole : IsTrue (whole_before_last parts)
  bits : bits_in parts ≡ bs

comma_first : (bs : List Bool) (r : List ℕ) → 0 < length bs → bits_on false bs r ≡ 44 ∷ bits_on true bs r
comma_first [] r h = absurd (omega (arith, h))
comma_first (a ∷ b ∷ c ∷ d ∷ e ∷ f ∷ g ∷ i ∷ bs) r h = refl
comma_first bs r h = refl

last_bits : (bs : List Bool) (r : List ℕ) → 0 < length bs → length bs < 8
    → bits_on true bs (62 ∷ 62 ∷ r) ≡ decimal_on (number_from 0 bs) (58 ∷ decimal_on (length bs) (62 ∷ 62 ∷ r))
    → number_from 0 bs < 256
    → BitsThere bs r
last_bits bs r h l e m = record {
  parts = part_of (number_from 0 bs) (length bs) ∷ [];
  read = subst (λ cs. Items PartOf cs (part_of (number_from 0 bs) (length bs) ∷ []) (62 ∷ 62 ∷ r)) (sym e)
      (G.one_item (decimal_on (number_from 0 bs) (58 ∷ decimal_on (length bs) (62 ∷ 62 ∷ r))) (62 ∷ 62 ∷ r)
      (part_of (number_from 0 bs) (length bs))
      (part_there (number_from 0 bs) (length bs) (62 ∷ r) (number_below bs) h l m) (angles_there r).0);
  whole = refl;
  bits = append-nil (bits_of (length bs) (number_from 0 bs)) ∙ bits_back 0 bs;
}

bits_there : (bs : List Bool) (r : List ℕ) → 0 < length bs → BitsThere bs r
bits_there [] r h = absurd (omega (arith, h))
bits_there (a ∷ b ∷ c ∷ d ∷ e ∷ f ∷ g ∷ i ∷ []) r h =
    let bs = eight a b c d e f g i in
    record {
      parts = whole_part (number_from 0 bs) ∷ [];
      read = G.one_item (decimal_on (number_from 0 bs) (62 ∷ 62 ∷ r)) (62 ∷ 62 ∷ r) (whole_part (number_from 0 bs))
          (byte_there (number_from 0 bs) (62 ∷ 62 ∷ r) (number_below bs) refl (angles_there r).1) (angles_there r).0;
      whole = refl;
      bits = append-nil (bits_of 8 (number_from 0 bs)) ∙ bits_back 0 bs;
    }
bits_there (a ∷ b ∷ c ∷ d ∷ e ∷ f ∷ g ∷ i ∷ x ∷ xs) r h =
    let bs = eight a b c d e f g i in
    let rest = bits_there (x ∷ xs) r (omega arith) in
    record {
      parts = whole_part (number_from 0 bs) ∷ rest.parts;
      read = subst (λ cs. Items PartOf (decimal_on (number_from 0 bs) cs) (whole_part (number_from 0 bs) ∷ rest.parts)
          (62 ∷ 62 ∷ r)) (sym (comma_first (x ∷ xs) (62 ∷ 62 ∷ r) (omega arith)))
          (G.more_items (decimal_on (number_from 0 bs) (44 ∷ bits_on true (x ∷ xs) (62 ∷ 62 ∷ r)))
          (44 ∷ bits_on true (x ∷ xs) (62 ∷ 62 ∷ r)) (bits_on true (x ∷ xs) (62 ∷ 62 ∷ r)) (62 ∷ 62 ∷ r)
          (whole_part (number_from 0 bs)) rest.parts
          (byte_there (number_from 0 bs) (44 ∷ bits_on true (x ∷ xs) (62 ∷ 62 ∷ r)) (number_below bs) refl
          (comma_no_colon (bits_on true (x ∷ xs) (62 ∷ 62 ∷ r))).1)
          (comma_no_colon (bits_on true (x ∷ xs) (62 ∷ 62 ∷ r))).0 rest.read);
      whole = whole_more (number_from 0 bs) rest.parts rest.whole;
      bits = ap₂ (λ ys zs. ys ++ zs) (bits_back 0 bs) rest.bits;
    }
bits_there bs r h = last_bits bs r h (omega arith) refl (omega (arith, number_below bs))

pub record BitsRow (bs : List Bool) (r : List ℕ) : Type 0 where
  pub parts : List Part
  pub read : Row PartOf (codes ">>") (bits_on true bs (62 ∷ 62 ∷ r)) parts r
  pub whole : IsTrue (whole_before_last parts)
  pub bits : bits_in parts ≡ bs

pub bits_row : (bs : List Bool) (r : List ℕ) → BitsRow bs r
bits_row [] r = record { parts = []; read = G.no_item (62 ∷ 62 ∷ r) r (angles_there r).2; whole = refl; bits = refl }
bits_row (b ∷ bs) r =
    let there = bits_there (b ∷ bs) r (omega arith) in
    record {
      parts = there.parts;
      read = G.some_items (bits_on true (b ∷ bs) (62 ∷ 62 ∷ r)) (62 ∷ 62 ∷ r) r there.parts there.read
          (angles_there r).2;
      whole = there.whole;
      bits = there.bits;
    }

pub ruleset trial_set = (bits_row)
