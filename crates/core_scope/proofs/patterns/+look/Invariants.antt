use Rattle.std.proofs.Common.{◌≡◌, drop, map}
use Rattle.core_form.specs.View.{pattern_view, patterns, keys}
use Rattle.core_names.specs.Readings.{key_view}
use Rattle.core_scope.specs.ScopeWalk.{patterns_uses_met, keys_uses_met}
use Rattle.core_scope.proofs.patterns.+look.Given as goal

abbrev pub invariant-look_in_patterns-loop-item : goal.invariant-look_in_patterns-loop-item
invariant-look_in_patterns-loop-item l = record {
  first : patterns_uses_met (patterns (map pattern_view (drop l.item-index l.items))) l.initial.names l.first
      ≡ patterns_uses_met (patterns (map pattern_view l.items)) l.initial.names l.initial.first;
  names : l.names ≡ l.initial.names;
}

abbrev pub invariant-look_in_keys-loop-item : goal.invariant-look_in_keys-loop-item
invariant-look_in_keys-loop-item l = record {
  first : keys_uses_met (keys (map key_view (drop l.item-index l.items))) l.initial.names l.first
      ≡ keys_uses_met (keys (map key_view l.items)) l.initial.names l.initial.first;
  names : l.names ≡ l.initial.names;
}
