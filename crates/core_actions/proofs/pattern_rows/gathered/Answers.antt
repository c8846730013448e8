use Rattle.core_actions.proofs.Appending.{row_taken}
use Rattle.core_actions.proofs.pattern_rows.gathered.Goals as goal

pub loop-row-preserved : goal.loop-row-preserved
loop-row-preserved c =
    row_taken _ _ _ _ _ _ c.in-Some-pop.ensures c.in_ok-all.ensures c.loop-row.invariant
