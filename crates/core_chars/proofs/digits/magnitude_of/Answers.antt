use Rattle.std.proofs.Common.{arith}
use Rattle.core_chars.proofs.Values.{capped_more, drop_item}
use Rattle.core_chars.proofs.digits.magnitude_of.Goals as goal

pub loop-c-preserved : goal.loop-c-preserved
loop-c-preserved c = record {
  rest = capped_more _ _ _ _ _ _ _ _ (omega arith)
      (drop_item _ _ _ c.loop-c-test.true c.c-item.is)
      c.next_magnitude-value.ensures c.loop-c.invariant.rest;
  bound = omega arith;
}
