use Rattle.std.proofs.Common.{◌≡◌, ◌++◌, length}
use Rattle.core_actions.specs.View.{all_items}
use Rattle.core_actions.proofs.rows.gathered.Given as goal

abbrev pub invariant-loop-row : goal.invariant-loop-row
invariant-loop-row l = l.all ++ all_items l.rows ≡ all_items l.fn.rows

abbrev pub decreases-loop-row : goal.decreases-loop-row
decreases-loop-row l = length l.rows
