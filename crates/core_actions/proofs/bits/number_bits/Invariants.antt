use Rattle.std.proofs.Common.{◌≡◌, ◌++◌}
use Rattle.erl_term.specs.BitString.{bits_of}
use Rattle.core_actions.specs.SegmentBits.{turned}
use Rattle.core_actions.proofs.bits.number_bits.Given as goal

abbrev pub invariant-loop-left : goal.invariant-loop-left
invariant-loop-left l = l.bits ++ turned l.fn.over (bits_of l.left l.fn.number)
    ≡ turned l.fn.over (bits_of l.fn.count l.fn.number)

abbrev pub decreases-loop-left : goal.decreases-loop-left
decreases-loop-left l = l.left
