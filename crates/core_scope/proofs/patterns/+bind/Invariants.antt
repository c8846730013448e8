use Rattle.std.proofs.Common.{◌≡◌, drop, map}
use Rattle.core_form.specs.View.{pattern_view, patterns, keys, segs}
use Rattle.core_names.specs.Readings.{key_view, seg_view}
use Rattle.core_scope.specs.ScopeWalk.{patterns_met, keys_met, segs_met, patterns_scope, keys_scope, segs_scope}
use Rattle.core_scope.proofs.patterns.+bind.Given as goal

abbrev pub invariant-bind_patterns-loop-item : goal.invariant-bind_patterns-loop-item
invariant-bind_patterns-loop-item l = record {
  first : patterns_met (patterns (map pattern_view (drop l.item-index l.items))) l.base l.names l.first
      ≡ patterns_met (patterns (map pattern_view l.items)) l.base l.initial.names l.initial.first;
  names : patterns_scope (patterns (map pattern_view (drop l.item-index l.items))) l.names
      ≡ patterns_scope (patterns (map pattern_view l.items)) l.initial.names;
}

abbrev pub invariant-bind_keys-loop-item : goal.invariant-bind_keys-loop-item
invariant-bind_keys-loop-item l = record {
  first : keys_met (keys (map key_view (drop l.item-index l.items))) l.base l.names l.first
      ≡ keys_met (keys (map key_view l.items)) l.base l.initial.names l.initial.first;
  names : keys_scope (keys (map key_view (drop l.item-index l.items))) l.names
      ≡ keys_scope (keys (map key_view l.items)) l.initial.names;
}

abbrev pub invariant-bind_segs-loop-item : goal.invariant-bind_segs-loop-item
invariant-bind_segs-loop-item l = record {
  first : segs_met (segs (map seg_view (drop l.item-index l.items))) l.base l.names l.first
      ≡ segs_met (segs (map seg_view l.items)) l.base l.initial.names l.initial.first;
  names : segs_scope (segs (map seg_view (drop l.item-index l.items))) l.names
      ≡ segs_scope (segs (map seg_view l.items)) l.initial.names;
}
