use Rattle.std.proofs.Common.{arith, rules}
use Rattle.core_chars.proofs.Values.{capped_more, drop_item}
use Rattle.core_chars.proofs.escape.code_of.Goals as goal

pub loop-c-preserved : goal.loop-c-preserved
loop-c-preserved c = record {
  bound = omega arith;
  rest = capped_more _ _ _ _ _ _ _ _ c.requires.least
      (drop_item _ _ _ c.loop-c-test.true c.c-item.is)
      (search (rules, c.min-value.ensures, c.digit.ensures.value)) c.loop-c.invariant.rest;
}
