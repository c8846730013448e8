use Rattle.std.proofs.Common.{◌≡◌, drop, map}
use Rattle.core_form.specs.Scope.{with_names, bound_segs}
use Rattle.core_form.specs.View.{view, part_view, segment_view, def_view, clause_view, pattern_view, exprs, parts, segments, defs, clauses, patterns, keys, segs}
use Rattle.core_names.specs.Readings.{key_view, seg_view}
use Rattle.core_sites.specs.Gathering.{walked_all, walked_parts, walked_segments, walked_defs, walked_clauses, walked_patterns, walked_keys, walked_segs}
use Rattle.core_sites.proofs.gather.+gather.Given as goal

abbrev pub invariant-gather_exprs-loop-item : goal.invariant-gather_exprs-loop-item
invariant-gather_exprs-loop-item l = record {
  names : l.names ≡ l.initial.names;
  state : walked_all (exprs (map view (drop l.item-index l.items))) l.names l.limit l.state
      ≡ walked_all (exprs (map view l.items)) l.initial.names l.limit l.initial.state;
}

abbrev pub invariant-gather_parts-loop-item : goal.invariant-gather_parts-loop-item
invariant-gather_parts-loop-item l = record {
  names : l.names ≡ l.initial.names;
  state : walked_parts (parts (map part_view (drop l.item-index l.items))) l.names l.limit l.state
      ≡ walked_parts (parts (map part_view l.items)) l.initial.names l.limit l.initial.state;
}

abbrev pub invariant-gather_segments-loop-item : goal.invariant-gather_segments-loop-item
invariant-gather_segments-loop-item l = record {
  names : l.names ≡ l.initial.names;
  state : walked_segments (segments (map segment_view (drop l.item-index l.items))) l.names l.limit l.state
      ≡ walked_segments (segments (map segment_view l.items)) l.initial.names l.limit l.initial.state;
}

abbrev pub invariant-gather_defs-loop-item : goal.invariant-gather_defs-loop-item
invariant-gather_defs-loop-item l = record {
  names : l.names ≡ l.initial.names;
  state : walked_defs (defs (map def_view (drop l.item-index l.items))) l.names l.limit l.state
      ≡ walked_defs (defs (map def_view l.items)) l.initial.names l.limit l.initial.state;
}

abbrev pub invariant-gather_clauses-loop-item : goal.invariant-gather_clauses-loop-item
invariant-gather_clauses-loop-item l = record {
  names : l.names ≡ l.initial.names;
  state : walked_clauses (clauses (map clause_view (drop l.item-index l.items))) l.names l.limit l.state
      ≡ walked_clauses (clauses (map clause_view l.items)) l.initial.names l.limit l.initial.state;
}

abbrev pub invariant-gather_patterns-loop-item : goal.invariant-gather_patterns-loop-item
invariant-gather_patterns-loop-item l = record {
  names : l.names ≡ l.initial.names;
  state : walked_patterns (patterns (map pattern_view (drop l.item-index l.items))) l.names l.limit l.state
      ≡ walked_patterns (patterns (map pattern_view l.items)) l.initial.names l.limit l.initial.state;
}

abbrev pub invariant-gather_keys-loop-item : goal.invariant-gather_keys-loop-item
invariant-gather_keys-loop-item l = record {
  names : l.names ≡ l.initial.names;
  state : walked_keys (keys (map key_view (drop l.item-index l.items))) l.names l.limit l.state
      ≡ walked_keys (keys (map key_view l.items)) l.initial.names l.limit l.initial.state;
}

abbrev pub invariant-gather_segs-loop-item : goal.invariant-gather_segs-loop-item
invariant-gather_segs-loop-item l = record {
  names : with_names l.names (bound_segs (segs (map seg_view (drop l.item-index l.items))))
      ≡ with_names l.initial.names (bound_segs (segs (map seg_view l.items)));
  state : walked_segs (segs (map seg_view (drop l.item-index l.items))) l.names l.limit l.state
      ≡ walked_segs (segs (map seg_view l.items)) l.initial.names l.limit l.initial.state;
}
