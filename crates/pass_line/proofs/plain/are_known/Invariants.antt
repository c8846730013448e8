use Rattle.std.proofs.Common.{◌≡◌, drop}
use Rattle.pass_line.specs.PlainModule.{are_known}
use Rattle.pass_line.proofs.plain.are_known.Given as goal

abbrev pub invariant-loop-export : goal.invariant-loop-export
invariant-loop-export l = are_known l.known (drop l.export-index l.exports) ≡ are_known l.known l.exports
