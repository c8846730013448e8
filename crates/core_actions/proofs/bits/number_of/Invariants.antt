use Rattle.std.proofs.Common.{◌≡◌, ◌<◌, ◌^◌, drop}
use Rattle.erl_term.specs.BitString.{number_from}
use Rattle.core_actions.proofs.bits.number_of.Given as goal

abbrev pub invariant-loop-bit : goal.invariant-loop-bit
invariant-loop-bit l = record {
  read : number_from l.number (drop l.bit-index l.bits) ≡ number_from 0 l.bits;
  bound : l.number < 2 ^ l.bit-index;
}
