-- Decimal digits. What ends in `_on` gives the characters of its subject, and then `r`.
use Rattle.std.specs.Prelude.{ℕ, ℤ, pos, negsuc, zero, suc, ◌+◌, ◌/◌, ◌%◌, List, ◌∷◌, ◌++◌, true, false, ltb, codes}

-- the decimal digits of n, at most as many as is said
abbrev pub digits_on : ℕ → ℕ → List ℕ → List ℕ
digits_on zero n r = r
digits_on (suc k) n r = elim (ltb n 10) [ true ↦ (48 + n) ∷ r | false ↦ digits_on k (n / 10) ((48 + n % 10) ∷ r) ]

-- the digits of a number, before what follows
unfoldable pub decimal_on : ℕ → List ℕ → List ℕ
decimal_on n r = digits_on (suc n) n r

-- the same with its sign
abbrev pub integer_on : ℤ → List ℕ → List ℕ
integer_on (pos n) r = decimal_on n r
integer_on (negsuc n) r = codes "-" ++ decimal_on (suc n) r
