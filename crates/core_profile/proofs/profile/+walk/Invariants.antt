use Rattle.std.proofs.Common.{◌≡◌, drop, map}
use Rattle.core_form.specs.View.{view, part_view, segment_view, def_view, clause_view, pattern_view, exprs, parts, segments, defs, clauses, patterns, keys, segs}
use Rattle.core_names.specs.Readings.{key_view, seg_view}
use Rattle.core_profile.specs.ProfileWalk.{met_in_exprs, met_in_parts, met_in_segments, met_in_defs, met_in_clauses, met_in_patterns, met_in_keys, met_in_segs}
use Rattle.core_profile.proofs.profile.+walk.Given as goal

abbrev pub invariant-in_exprs-loop-item : goal.invariant-in_exprs-loop-item
invariant-in_exprs-loop-item l =
    met_in_exprs (exprs (map view (drop l.item-index l.items))) l.first
    ≡ met_in_exprs (exprs (map view l.items)) l.initial.first

abbrev pub invariant-in_parts-loop-item : goal.invariant-in_parts-loop-item
invariant-in_parts-loop-item l =
    met_in_parts (parts (map part_view (drop l.item-index l.items))) l.first
    ≡ met_in_parts (parts (map part_view l.items)) l.initial.first

abbrev pub invariant-in_segments-loop-item : goal.invariant-in_segments-loop-item
invariant-in_segments-loop-item l =
    met_in_segments (segments (map segment_view (drop l.item-index l.items))) l.first
    ≡ met_in_segments (segments (map segment_view l.items)) l.initial.first

abbrev pub invariant-in_defs-loop-item : goal.invariant-in_defs-loop-item
invariant-in_defs-loop-item l =
    met_in_defs (defs (map def_view (drop l.item-index l.items))) l.first
    ≡ met_in_defs (defs (map def_view l.items)) l.initial.first

abbrev pub invariant-in_clauses-loop-item : goal.invariant-in_clauses-loop-item
invariant-in_clauses-loop-item l =
    met_in_clauses (clauses (map clause_view (drop l.item-index l.items))) l.first
    ≡ met_in_clauses (clauses (map clause_view l.items)) l.initial.first

abbrev pub invariant-in_patterns-loop-item : goal.invariant-in_patterns-loop-item
invariant-in_patterns-loop-item l =
    met_in_patterns (patterns (map pattern_view (drop l.item-index l.items))) l.first
    ≡ met_in_patterns (patterns (map pattern_view l.items)) l.initial.first

abbrev pub invariant-in_keys-loop-item : goal.invariant-in_keys-loop-item
invariant-in_keys-loop-item l =
    met_in_keys (keys (map key_view (drop l.item-index l.items))) l.first
    ≡ met_in_keys (keys (map key_view l.items)) l.initial.first

abbrev pub invariant-in_segs-loop-item : goal.invariant-in_segs-loop-item
invariant-in_segs-loop-item l =
    met_in_segs (segs (map seg_view (drop l.item-index l.items))) l.first
    ≡ met_in_segs (segs (map seg_view l.items)) l.initial.first
