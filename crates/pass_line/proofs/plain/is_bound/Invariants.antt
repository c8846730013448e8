use Rattle.std.proofs.Common.{◌≡◌, drop}
use Rattle.pass_line.specs.PlainModule.{is_bound}
use Rattle.pass_line.proofs.plain.is_bound.Given as goal

abbrev pub invariant-loop-x : goal.invariant-loop-x
invariant-loop-x l = is_bound l.name (drop l.x-index l.xs) ≡ is_bound l.name l.xs
