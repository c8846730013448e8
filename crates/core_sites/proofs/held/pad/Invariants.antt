use Rattle.std.proofs.Common.{◌≡◌, ◌++◌, None, replicate}
use Rattle.core_sites.proofs.held.pad.Given as goal

abbrev pub invariant-loop-i : goal.invariant-loop-i
invariant-loop-i l = l.held ≡ l.initial.held ++ replicate l.i None
