use Rattle.std.proofs.Common.{◌≡◌, take}
use Rattle.core_sites.proofs.told.copy_params.Given as goal

abbrev pub invariant-loop-item : goal.invariant-loop-item
invariant-loop-item l = l.copy ≡ take l.item-index l.items
