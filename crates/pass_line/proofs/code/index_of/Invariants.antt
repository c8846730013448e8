use Rattle.std.proofs.Common.{◌≡◌, ◌+◌, drop}
use Rattle.pass_line.specs.PlainCode.{index_of}
use Rattle.pass_line.proofs.code.index_of.Given as goal

abbrev pub invariant-loop-i : goal.invariant-loop-i
invariant-loop-i l = l.i + index_of l.name (drop l.i l.items) ≡ index_of l.name l.items
