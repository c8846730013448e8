use Rattle.std.proofs.Common.{◌≡◌, take}
use Rattle.core_sites.proofs.putting.copy_uses.Given as goal

abbrev pub invariant-loop-item : goal.invariant-loop-item
invariant-loop-item l = l.copy ≡ take l.item-index l.items
