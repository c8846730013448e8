use Rattle.std.proofs.Common.{◌≡◌, ◌≤◌, drop, min}
use Rattle.core_chars.specs.Characters.{value_from}
use Rattle.core_chars.proofs.digits.magnitude_of.Given as goal

abbrev pub invariant-loop-c : goal.invariant-loop-c
invariant-loop-c l = record {
  rest : min (value_from 10 l.value (drop l.c-index l.digits)) 170141183460469231731687303715884105729
      ≡ min (value_from 10 0 l.digits) 170141183460469231731687303715884105729;
  bound : l.value ≤ 170141183460469231731687303715884105729;
}
