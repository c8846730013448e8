-- Decimal digits: written one after another, and read again.
use Rattle.std.proofs.Common.{◌≡◌, ◌<◌, ◌≤◌, ◌+◌, ◌-◌, ◌*◌, ◌/◌, ◌%◌, ℕ, ℤ, pos, negsuc, zero, suc, List, [], ◌∷◌, Bool, true, false, ◌&&◌, leb, ltb, refl, sym, ap, ◌∙◌, arith}
use Rattle.std.proofs.lemmas.Bool.{lt-ltb, le-ltb, ltb-true, ltb-false}
use Rattle.std.proofs.lemmas.Bool.Decides.{nat_tests}
use Rattle.term_text.specs.Decimal.{digits_on, decimal_on, integer_on}

last_digit : (k n : ℕ) (r : List ℕ) → n < 10 → digits_on (suc k) n r ≡ (48 + n) ∷ r
last_digit k n r h = ap (λ b. elim b [ true ↦ (48 + n) ∷ r | false ↦ digits_on k (n / 10) ((48 + n % 10) ∷ r) ])
    (lt-ltb n 10 h)

more_digits : (k n : ℕ) (r : List ℕ) → 10 ≤ n → digits_on (suc k) n r ≡ digits_on k (n / 10) ((48 + n % 10) ∷ r)
more_digits k n r h = ap (λ b. elim b [ true ↦ (48 + n) ∷ r | false ↦ digits_on k (n / 10) ((48 + n % 10) ∷ r) ])
    (le-ltb n 10 h)

-- a bound above the number says no more
enough_digits : (j k n : ℕ) (r : List ℕ) → n < j → n < k → digits_on j n r ≡ digits_on k n r
enough_digits zero k n r h i = absurd (omega (arith, h))
enough_digits (suc j) zero n r h i = absurd (omega (arith, i))
enough_digits (suc j) (suc k) n r h i =
    elim (ltb n 10) as (λ b. ltb n 10 ≡ b → digits_on (suc j) n r ≡ digits_on (suc k) n r) [
      | true ↦ λ e. last_digit j n r (ltb-true n 10 e) ∙ sym (last_digit k n r (ltb-true n 10 e))
      | false ↦ λ e.
          let large : 10 ≤ n = ltb-false n 10 e in
          more_digits j n r large ∙ enough_digits j k (n / 10) ((48 + n % 10) ∷ r) (omega arith) (omega arith)
          ∙ sym (more_digits k n r large)
    ] refl

pub decimal-small : (n : ℕ) (r : List ℕ) → n < 10 → decimal_on n r ≡ (48 + n) ∷ r
unfolding decimal_on
decimal-small n r h = last_digit n n r h

pub decimal-large : (n : ℕ) (r : List ℕ) → 10 ≤ n → decimal_on n r ≡ decimal_on (n / 10) ((48 + n % 10) ∷ r)
unfolding decimal_on
decimal-large n r h = more_digits n n r h
    ∙ enough_digits n (suc (n / 10)) (n / 10) ((48 + n % 10) ∷ r) (omega arith) (omega arith)

-- Reading.

abbrev pub is_digit : ℕ → Bool
is_digit c = leb 48 c && leb c 57

-- the number that the digits in front continue, and what follows them
abbrev pub read_number : ℕ → List ℕ → ℕ × List ℕ
read_number n [] = (n, [])
read_number n (c ∷ cs) = elim (is_digit c) [ true ↦ read_number (10 * n + (c - 48)) cs | false ↦ (n, c ∷ cs) ]

reads_digit : (n d : ℕ) (r : List ℕ) → d < 10 → read_number n ((48 + d) ∷ r) ≡ read_number (10 * n + d) r
reads_digit n d r h =
    let digit : is_digit (48 + d) ≡ true = grind (arith, nat_tests) in
    let value : 10 * n + ((48 + d) - 48) ≡ 10 * n + d = omega arith in
    ap (λ b. elim b [ true ↦ read_number (10 * n + ((48 + d) - 48)) r | false ↦ (n, (48 + d) ∷ r) ]) digit
    ∙ ap (λ m. read_number m r) value

reads_digits : (k n : ℕ) (r : List ℕ) → n < k → read_number 0 (digits_on k n r) ≡ read_number n r
reads_digits zero n r h = absurd (omega (arith, h))
reads_digits (suc k) n r h =
    elim (ltb n 10) as (λ b. ltb n 10 ≡ b → read_number 0 (digits_on (suc k) n r) ≡ read_number n r) [
      | true ↦ λ e.
          let zero_more : 10 * 0 + n ≡ n = omega arith in
          ap (read_number 0) (last_digit k n r (ltb-true n 10 e)) ∙ reads_digit 0 n r (ltb-true n 10 e)
          ∙ ap (λ m. read_number m r) zero_more
      | false ↦ λ e.
          let large : 10 ≤ n = ltb-false n 10 e in
          let whole : 10 * (n / 10) + n % 10 ≡ n = omega arith in
          ap (read_number 0) (more_digits k n r large) ∙ reads_digits k (n / 10) ((48 + n % 10) ∷ r) (omega arith)
          ∙ reads_digit (n / 10) (n % 10) r (omega arith) ∙ ap (λ m. read_number m r) whole
    ] refl

reads_decimal : (n c : ℕ) (r : List ℕ) → is_digit c ≡ false → read_number 0 (decimal_on n (c ∷ r)) ≡ (n, c ∷ r)
unfolding decimal_on
reads_decimal n c r h = reads_digits (suc n) n (c ∷ r) (omega arith)
    ∙ ap (λ b. elim b [ true ↦ read_number (10 * n + (c - 48)) r | false ↦ (n, c ∷ r) ]) h

-- a number ends where no digit follows
pub decimal_unique : (m n c d : ℕ) (r s : List ℕ) → is_digit c ≡ false → is_digit d ≡ false
    → decimal_on m (c ∷ r) ≡ decimal_on n (d ∷ s) → (m ≡ n) × (c ∷ r ≡ d ∷ s)
decimal_unique m n c d r s h i e =
    let same : (m, c ∷ r) ≡ (n, d ∷ s) = sym (reads_decimal m c r h) ∙ ap (read_number 0) e ∙ reads_decimal n d s i in
    (ap (λ p. p.0) same, ap (λ p. p.1) same)

-- the same of an integer before a closing brace
unlike : (m n : ℕ) (r s : List ℕ) → decimal_on m (125 ∷ r) ≡ 45 ∷ decimal_on n (125 ∷ s) → ⊥
unlike m n r s e =
    let same : (m, 125 ∷ r) ≡ (0, 45 ∷ decimal_on n (125 ∷ s)) =
    sym (reads_decimal m 125 r refl) ∙ ap (read_number 0) e in
    differs _ _ (ap (λ p. p.1) same)
  where
    differs : (t u : List ℕ) → 125 ∷ t ≡ 45 ∷ u → ⊥
    differs t u e = cc

pub integer_unique : (y z : ℤ) (r s : List ℕ) → integer_on y (125 ∷ r) ≡ integer_on z (125 ∷ s) → (y ≡ z) × (r ≡ s)
integer_unique (pos m) (pos n) r s e =
    let split = decimal_unique m n 125 125 r s refl refl e in
    let rest : 125 ∷ r ≡ 125 ∷ s = split.1 in
    (ap pos split.0, cc)
integer_unique (pos m) (negsuc n) r s e = absurd (unlike m (suc n) r s e)
integer_unique (negsuc m) (pos n) r s e = absurd (unlike n (suc m) s r (sym e))
integer_unique (negsuc m) (negsuc n) r s e =
    let tails : decimal_on (suc m) (125 ∷ r) ≡ decimal_on (suc n) (125 ∷ s) = cc in
    let split = decimal_unique (suc m) (suc n) 125 125 r s refl refl tails in
    let rest : 125 ∷ r ≡ 125 ∷ s = split.1 in
    let number : m ≡ n = omega (arith, split.0) in
    (ap negsuc number, cc)
