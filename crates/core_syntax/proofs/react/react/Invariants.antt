use Rattle.std.proofs.Common.{◌≡◌, length}
use Rattle.core_syntax.specs.Reactions.{react}
use Rattle.core_syntax.proofs.react.react.Given as goal

abbrev pub invariant-loop-entry : goal.invariant-loop-entry
invariant-loop-entry l = react l.token l.stack l.last ≡ react l.fn.token l.fn.stack l.fn.shape

abbrev pub decreases-loop-entry : goal.decreases-loop-entry
decreases-loop-entry l = length l.stack
