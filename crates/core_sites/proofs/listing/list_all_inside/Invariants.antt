use Rattle.std.proofs.Common.{◌≡◌, drop, map}
use Rattle.core_form.specs.View.{def_view, defs}
use Rattle.core_sites.specs.Listing.{all_inside}
use Rattle.core_sites.proofs.listing.list_all_inside.Given as goal

abbrev pub invariant-loop-item : goal.invariant-loop-item
invariant-loop-item l = record {
  names : l.names ≡ l.initial.names;
  held : l.held ≡ l.initial.held;
  state : all_inside (defs (map def_view (drop l.item-index l.items))) l.names l.held l.state
      ≡ all_inside (defs (map def_view l.items)) l.initial.names l.initial.held l.initial.state;
}
