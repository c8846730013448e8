use Rattle.std.proofs.Common.{◌≡◌, drop, map}
use Rattle.core_form.specs.View.{def_view, defs}
use Rattle.core_sites.specs.Listing.{own_listings}
use Rattle.core_sites.proofs.told.list_own.Given as goal

abbrev pub invariant-loop-item : goal.invariant-loop-item
invariant-loop-item l =
    own_listings (defs (map def_view (drop l.item-index l.items))) l.out
    ≡ own_listings (defs (map def_view l.items)) l.initial.out
