use Rattle.std.proofs.Common.{◌≡◌, ◌++◌, drop}
use Rattle.core_sites.specs.Listing.{binders_of}
use Rattle.core_sites.proofs.told.binders_of.Given as goal

abbrev pub invariant-loop-item : goal.invariant-loop-item
invariant-loop-item l = l.binders ++ binders_of (drop l.item-index l.items) ≡ binders_of l.items
