use Rattle.std.proofs.Common.{◌≡◌, ◌-◌, length, take}
use Rattle.core_sites.proofs.held.shorten.Given as goal

abbrev pub invariant-loop-i : goal.invariant-loop-i
invariant-loop-i l = l.held ≡ take (length l.initial.held - l.i) l.initial.held
