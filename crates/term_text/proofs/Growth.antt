-- How the printer's text grows.
use Rattle.std.proofs.Common.{◌≡◌, ◌<◌, ◌≤◌, ◌<ℤ◌, ◌+◌, ◌/◌, ◌%◌, ℕ, ℤ, pos, negsuc, List, [], ◌∷◌, ◌++◌, codes, sym, ap, ◌∙◌, append_assoc, arith, unsigned_abs, Result, Ok, Err, OnOk}
use Rattle.std.proofs.lemmas.Int.{ints}
use Rattle.term_text.specs.Decimal.{decimal_on, integer_on}
use Rattle.term_text.specs.Printing.{Adds}
use Rattle.term_text.proofs.Digits.{decimal-small, decimal-large}

-- what holds on success follows from what holds on success
pub on_ok : {A E : Type 0} (r : Result A E) {P Q : Type 0} → (P → Q) → OnOk r P → OnOk r Q
on_ok (Ok x) f h = f h
on_ok (Err e) f h = h

pub adds : (old new text : List ℕ) → new ≡ old ++ text → Adds old new (λ r. text ++ r)
adds old new text e r = ap (λ x. x ++ r) e ∙ append_assoc old text r

pub digit_added : (old new : List ℕ) (n : ℕ) → n < 10 → new ≡ old ++ (48 + n) ∷ [] → Adds old new (decimal_on n)
digit_added old new n h e r = adds old new ((48 + n) ∷ []) e r ∙ sym (ap (λ x. old ++ x) (decimal-small n r h))

pub last_digit_added : (old mid new : List ℕ) (n : ℕ) → 10 ≤ n → Adds old mid (decimal_on (n / 10))
    → new ≡ mid ++ (48 + n % 10) ∷ [] → Adds old new (decimal_on n)
last_digit_added old mid new n h f e r =
    adds mid new ((48 + n % 10) ∷ []) e r ∙ f ((48 + n % 10) ∷ r) ∙ sym (ap (λ x. old ++ x) (decimal-large n r h))

-- a negative integer: its sign, and then its magnitude
pub magnitude_added : (old mid new : List ℕ) (z : ℤ) (m : ℕ) → z <ℤ pos 0 → m ≡ unsigned_abs z → mid ≡ old ++ codes "-"
    → Adds mid new (decimal_on m) → Adds old new (integer_on z)
magnitude_added old mid new (pos n) m h e f g r = absurd (omega (arith, ints, h))
magnitude_added old mid new (negsuc n) m h e f g r =
    g r ∙ adds old mid (codes "-") f (decimal_on m r) ∙ ap (λ k. old ++ (codes "-" ++ decimal_on k r)) e
