use Rattle.std.proofs.Common.{◌≡◌, [], length}
use Rattle.pass_line.specs.PlainText.{names_from}
use Rattle.pass_line.proofs.reader.names_from.Given as goal

abbrev pub invariant-loop-rest : goal.invariant-loop-rest
invariant-loop-rest l = names_from l.found l.rest ≡ names_from [] l.fn.tokens

abbrev pub decreases-loop-rest : goal.decreases-loop-rest
decreases-loop-rest l = length l.rest
