use Rattle.std.proofs.Common.{◌≡◌, ◌≤◌, drop, min}
use Rattle.core_chars.specs.Characters.{value_from}
use Rattle.core_chars.proofs.escape.code_of.Given as goal

abbrev pub invariant-loop-c : goal.invariant-loop-c
invariant-loop-c l = record {
  bound : l.value ≤ 1114112;
  rest : min (value_from l.base l.value (drop l.c-index l.digits)) 1114112 ≡ min (value_from l.base 0 l.digits) 1114112;
}
