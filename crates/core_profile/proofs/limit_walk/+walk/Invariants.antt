use Rattle.std.proofs.Common.{◌≡◌, drop, map}
use Rattle.core_form.specs.View.{view, part_view, segment_view, def_view, clause_view, pattern_view, exprs, parts, segments, defs, clauses, patterns, keys, segs}
use Rattle.core_profile.specs.Counted.{counted}
use Rattle.core_names.specs.Readings.{key_view, seg_view}
use Rattle.core_profile.specs.LimitWalk.{walk_exprs, walk_parts, walk_segments, walk_defs, walk_clauses, walk_patterns, walk_keys, walk_segs}
use Rattle.core_profile.proofs.limit_walk.+walk.Given as goal

abbrev pub invariant-walk_exprs-loop-item : goal.invariant-walk_exprs-loop-item
invariant-walk_exprs-loop-item l =
    walk_exprs (counted l.counts) l.told (exprs (map view (drop l.item-index l.items))) l.progress
    ≡ walk_exprs (counted l.counts) l.told (exprs (map view l.items)) l.initial.progress

abbrev pub invariant-walk_parts-loop-item : goal.invariant-walk_parts-loop-item
invariant-walk_parts-loop-item l =
    walk_parts (counted l.counts) l.told (parts (map part_view (drop l.item-index l.items))) l.progress
    ≡ walk_parts (counted l.counts) l.told (parts (map part_view l.items)) l.initial.progress

abbrev pub invariant-walk_segments-loop-item : goal.invariant-walk_segments-loop-item
invariant-walk_segments-loop-item l =
    walk_segments (counted l.counts) l.told (segments (map segment_view (drop l.item-index l.items))) l.progress
    ≡ walk_segments (counted l.counts) l.told (segments (map segment_view l.items)) l.initial.progress

abbrev pub invariant-walk_defs-loop-item : goal.invariant-walk_defs-loop-item
invariant-walk_defs-loop-item l =
    walk_defs (counted l.counts) l.told (defs (map def_view (drop l.item-index l.items))) l.progress
    ≡ walk_defs (counted l.counts) l.told (defs (map def_view l.items)) l.initial.progress

abbrev pub invariant-walk_clauses-loop-item : goal.invariant-walk_clauses-loop-item
invariant-walk_clauses-loop-item l =
    walk_clauses (counted l.counts) l.told (clauses (map clause_view (drop l.item-index l.items))) l.inside
    ≡ walk_clauses (counted l.counts) l.told (clauses (map clause_view l.items)) l.initial.inside

abbrev pub invariant-walk_patterns-loop-item : goal.invariant-walk_patterns-loop-item
invariant-walk_patterns-loop-item l =
    walk_patterns (counted l.counts) (patterns (map pattern_view (drop l.item-index l.items))) l.progress
    ≡ walk_patterns (counted l.counts) (patterns (map pattern_view l.items)) l.initial.progress

abbrev pub invariant-walk_keys-loop-item : goal.invariant-walk_keys-loop-item
invariant-walk_keys-loop-item l =
    walk_keys (counted l.counts) (keys (map key_view (drop l.item-index l.items))) l.progress
    ≡ walk_keys (counted l.counts) (keys (map key_view l.items)) l.initial.progress

abbrev pub invariant-walk_segs-loop-item : goal.invariant-walk_segs-loop-item
invariant-walk_segs-loop-item l =
    walk_segs (counted l.counts) (segs (map seg_view (drop l.item-index l.items))) l.progress
    ≡ walk_segs (counted l.counts) (segs (map seg_view l.items)) l.initial.progress
