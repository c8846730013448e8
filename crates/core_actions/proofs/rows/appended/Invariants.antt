use Rattle.std.proofs.Common.{◌≡◌, ◌++◌, length}
use Rattle.core_actions.proofs.rows.appended.Given as goal

abbrev pub invariant-loop-item : goal.invariant-loop-item
invariant-loop-item l = l.all ++ l.left.items ≡ l.fn.items ++ l.fn.more

abbrev pub decreases-loop-item : goal.decreases-loop-item
decreases-loop-item l = length l.left.items
