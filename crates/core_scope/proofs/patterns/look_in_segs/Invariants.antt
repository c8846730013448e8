use Rattle.std.proofs.Common.{◌≡◌, drop, map}
use Rattle.core_form.specs.View.{segs}
use Rattle.core_names.specs.Readings.{seg_view}
use Rattle.core_scope.specs.ScopeWalk.{segs_uses_met, segs_scope}
use Rattle.core_scope.proofs.patterns.look_in_segs.Given as goal

abbrev pub invariant-loop-item : goal.invariant-loop-item
invariant-loop-item l = record {
  first : segs_uses_met (segs (map seg_view (drop l.item-index l.items))) l.names l.first
      ≡ segs_uses_met (segs (map seg_view l.items)) l.initial.names l.initial.first;
  names : segs_scope (segs (map seg_view (drop l.item-index l.items))) l.names
      ≡ segs_scope (segs (map seg_view l.items)) l.initial.names;
}
