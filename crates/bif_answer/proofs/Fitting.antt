-- Numbers of 128 signed bits, and those past them.
use Rattle.std.proofs.Common.{◌≡◌, refl, ap, ℕ, ◌<◌, ◌^◌, Bool, true, false}
use Rattle.std.proofs.Common.{if◌then◌else◌, ltb, ℤ, pos, negsuc, arith}
use Rattle.std.specs.Prelude.{FitsSigned}
use Rattle.std.specs.Int.{w128}
use Rattle.erl_term.specs.Ranges.{is_within_128}
use Rattle.erl_term.specs.Term as T
use Rattle.erl_term.specs.Term.{Term}
use Rattle.bif_table.specs.BuiltinAnswer as B
use Rattle.bif_table.specs.Kinds.{is_int}
use Rattle.bif_answer.specs.Answers.{Bounded, bounded, value, wide}

below : (n m : ℕ) → n < m → ltb n m ≡ true
below n m h = grind arith

not_below : (n m : ℕ) → ¬ (n < m) → ltb n m ≡ false
not_below n m h = grind arith

-- the bound of terms is that of the program's integers
within : (z : ℤ) → FitsSigned w128 z → is_within_128 z ≡ true
within (pos n) h = below n (2 ^ 127) h.sfits
within (negsuc n) h = below n (2 ^ 127) h.sfits

past : (z : ℤ) → ¬ FitsSigned w128 z → is_within_128 z ≡ false
past (pos n) h = not_below n (2 ^ 127) (λ l. h (record { sfits = l }))
past (negsuc n) h = not_below n (2 ^ 127) (λ l. h (record { sfits = l }))

abbrev pub choice : ℤ → Bool → Bounded
choice z b = if b then value (T.int z) else wide

pub bounded_within : (z : ℤ) → FitsSigned w128 z → bounded (B.value (T.int z)) ≡ value (T.int z)
bounded_within z h = ap (choice z) (within z h)

pub bounded_past : (z : ℤ) → ¬ FitsSigned w128 z → bounded (B.value (T.int z)) ≡ wide
bounded_past z h = ap (choice z) (past z h)

-- what is no integer is as it is
pub bounded_other : (t : Term) → is_int t ≡ false → bounded (B.value t) ≡ value t
bounded_other (T.int z) e = absurd cc
bounded_other t e = refl
