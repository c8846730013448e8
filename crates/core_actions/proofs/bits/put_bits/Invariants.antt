use Rattle.std.proofs.Common.{◌≡◌, ◌++◌, drop}
use Rattle.core_actions.proofs.bits.put_bits.Given as goal

abbrev pub invariant-loop-bit : goal.invariant-loop-bit
invariant-loop-bit l = l.out ++ drop l.bit-index l.bits ≡ l.fn.out ++ l.bits
