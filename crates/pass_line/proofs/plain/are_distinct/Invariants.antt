use Rattle.std.proofs.Common.{◌≡◌, length}
use Rattle.pass_line.specs.PlainModule.{are_distinct}
use Rattle.pass_line.proofs.plain.are_distinct.Given as goal

abbrev pub invariant-loop-rest : goal.invariant-loop-rest
invariant-loop-rest l = are_distinct l.rest ≡ are_distinct l.fn.xs

abbrev pub decreases-loop-rest : goal.decreases-loop-rest
decreases-loop-rest l = length l.rest
