use Rattle.std.proofs.Common.{◌≡◌, drop, map}
use Rattle.core_form.specs.View.{def_view, defs}
use Rattle.core_sites.specs.Listing.{with_group}
use Rattle.core_sites.proofs.held.hold.Given as goal

abbrev pub invariant-loop-item : goal.invariant-loop-item
invariant-loop-item l =
    with_group (defs (map def_view (drop l._item-index l.items))) l.captures l.held
    ≡ with_group (defs (map def_view l.items)) l.captures l.initial.held
