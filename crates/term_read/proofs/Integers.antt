-- An integer of digits whose number is kept under a ceiling.
use Rattle.std.proofs.Common.{◌≡◌, ℕ, ◌≤◌, min, arith, Bool, true, false, ap}
use Rattle.std.proofs.lemmas.Bool.Decides.{nat_tests}
use Rattle.std.proofs.lemmas.Bool.{cases_lt}
use Rattle.std.proofs.Common.{inl, inr}
use Rattle.term_read.specs.Lexemes.{integer_of}

past : (minus : Bool) (n m : ℕ) → 170141183460469231731687303715884105729 ≤ n
    → 170141183460469231731687303715884105729 ≤ m → integer_of minus n ≡ integer_of minus m
past true n m h g = grind (arith, nat_tests)
past false n m h g = grind (arith, nat_tests)

pub capped_integer : (minus : Bool) (n m : ℕ) → m ≡ min n 170141183460469231731687303715884105729
    → integer_of minus m ≡ integer_of minus n
capped_integer minus n m e = elim (cases_lt n 170141183460469231731687303715884105729) [
  | inl lt ↦ let same : m ≡ n = omega (arith, e) in ap (integer_of minus) same
  | inr le ↦ past minus m n (omega (arith, e)) le
]
