use Rattle.core_actions.proofs.BitRows.{bit_added}
use Rattle.core_actions.proofs.bits.number_bits.Goals as goal

pub loop-left-preserved : goal.loop-left-preserved
loop-left-preserved c =
    bit_added c.args.over c.args.number c.loop-left.left _ _ _ _ _ c.loop-left-test.true c.in_ok-push.ensures.ok
    c.turned_bit.ensures c.bit.ensures c.loop-left.invariant
