use Rattle.std.proofs.Common.{◌≡◌, drop, map}
use Rattle.core_form.specs.View.{view, part_view, segment_view, def_view, clause_view, exprs, parts, segments, defs, clauses}
use Rattle.core_scope.specs.ScopeWalk.{judge_elements, judge_parts, judge_segments, judge_defs, judge_clauses}
use Rattle.core_scope.proofs.walk.+walk.Given as goal

abbrev pub invariant-in_elements-loop-item : goal.invariant-in_elements-loop-item
invariant-in_elements-loop-item l = record {
  first : judge_elements (exprs (map view (drop l.item-index l.items))) l.initial.names l.guard l.first
      ≡ judge_elements (exprs (map view l.items)) l.initial.names l.guard l.initial.first;
  names : l.names ≡ l.initial.names;
}

abbrev pub invariant-in_parts-loop-item : goal.invariant-in_parts-loop-item
invariant-in_parts-loop-item l = record {
  first : judge_parts (parts (map part_view (drop l.item-index l.items))) l.initial.names l.guard l.first
      ≡ judge_parts (parts (map part_view l.items)) l.initial.names l.guard l.initial.first;
  names : l.names ≡ l.initial.names;
}

abbrev pub invariant-in_segments-loop-item : goal.invariant-in_segments-loop-item
invariant-in_segments-loop-item l = record {
  first : judge_segments (segments (map segment_view (drop l.item-index l.items))) l.initial.names l.guard l.first
      ≡ judge_segments (segments (map segment_view l.items)) l.initial.names l.guard l.initial.first;
  names : l.names ≡ l.initial.names;
}

abbrev pub invariant-in_defs-loop-item : goal.invariant-in_defs-loop-item
invariant-in_defs-loop-item l = record {
  first : judge_defs (defs (map def_view (drop l.item-index l.items))) l.initial.names l.guard l.first
      ≡ judge_defs (defs (map def_view l.items)) l.initial.names l.guard l.initial.first;
  names : l.names ≡ l.initial.names;
}

abbrev pub invariant-in_clauses-loop-item : goal.invariant-in_clauses-loop-item
invariant-in_clauses-loop-item l = record {
  judged :
      judge_clauses (clauses (map clause_view (drop l.item-index l.items))) l.degree l.initial.names l.guard l.judged
      ≡ judge_clauses (clauses (map clause_view l.items)) l.degree l.initial.names l.guard l.initial.judged;
  names : l.names ≡ l.initial.names;
}
