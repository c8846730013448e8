use Rattle.std.proofs.Common.{◌≡◌, drop, map}
use Rattle.core_form.specs.View.{view, part_view, segment_view, def_view, clause_view, exprs, parts, segments, defs, clauses}
use Rattle.core_sites.specs.Listing.{listed_all, listed_parts, listed_segments, listed_defs, listed_clauses}
use Rattle.core_sites.proofs.listing.+list.Given as goal

abbrev pub invariant-list_exprs-loop-item : goal.invariant-list_exprs-loop-item
invariant-list_exprs-loop-item l = record {
  names : l.names ≡ l.initial.names;
  held : l.held ≡ l.initial.held;
  state : listed_all (exprs (map view (drop l.item-index l.items))) l.names l.held l.state
      ≡ listed_all (exprs (map view l.items)) l.initial.names l.initial.held l.initial.state;
}

abbrev pub invariant-list_parts-loop-item : goal.invariant-list_parts-loop-item
invariant-list_parts-loop-item l = record {
  names : l.names ≡ l.initial.names;
  held : l.held ≡ l.initial.held;
  state : listed_parts (parts (map part_view (drop l.item-index l.items))) l.names l.held l.state
      ≡ listed_parts (parts (map part_view l.items)) l.initial.names l.initial.held l.initial.state;
}

abbrev pub invariant-list_segments-loop-item : goal.invariant-list_segments-loop-item
invariant-list_segments-loop-item l = record {
  names : l.names ≡ l.initial.names;
  held : l.held ≡ l.initial.held;
  state : listed_segments (segments (map segment_view (drop l.item-index l.items))) l.names l.held l.state
      ≡ listed_segments (segments (map segment_view l.items)) l.initial.names l.initial.held l.initial.state;
}

abbrev pub invariant-list_clauses-loop-item : goal.invariant-list_clauses-loop-item
invariant-list_clauses-loop-item l = record {
  names : l.names ≡ l.initial.names;
  held : l.held ≡ l.initial.held;
  state : listed_clauses (clauses (map clause_view (drop l.item-index l.items))) l.names l.held l.state
      ≡ listed_clauses (clauses (map clause_view l.items)) l.initial.names l.initial.held l.initial.state;
}

abbrev pub invariant-list_defs-loop-item : goal.invariant-list_defs-loop-item
invariant-list_defs-loop-item l = record {
  names : l.names ≡ l.initial.names;
  held : l.held ≡ l.initial.held;
  state : listed_defs (defs (map def_view (drop l.item-index l.items))) l.names l.held l.captures l.state
      ≡ listed_defs (defs (map def_view l.items)) l.initial.names l.initial.held l.captures l.initial.state;
}
