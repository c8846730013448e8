use Rattle.std.proofs.Common.{◌≡◌, [], length, map}
use Rattle.core_form.specs.View.{def_view}
use Rattle.pass_line.specs.PlainText.{defs}
use Rattle.pass_line.proofs.reader.defs.Given as goal

abbrev pub invariant-loop-rest : goal.invariant-loop-rest
invariant-loop-rest l = defs (map def_view l.found) l.rest ≡ defs [] l.fn.tokens

abbrev pub decreases-loop-rest : goal.decreases-loop-rest
decreases-loop-rest l = length l.rest
