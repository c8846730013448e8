use Rattle.std.proofs.Common.{◌≡◌, drop, map}
use Rattle.core_form.specs.Scope.{with_names, bound_all, bound_keys, bound_segs}
use Rattle.core_form.specs.View.{pattern_view, patterns, keys, segs}
use Rattle.core_names.specs.Readings.{key_view, seg_view}
use Rattle.core_sites.proofs.bind.+bind.Given as goal

abbrev pub invariant-bind_patterns-loop-item : goal.invariant-bind_patterns-loop-item
invariant-bind_patterns-loop-item l =
    with_names l.names (bound_all (patterns (map pattern_view (drop l.item-index l.items))))
    ≡ with_names l.initial.names (bound_all (patterns (map pattern_view l.items)))

abbrev pub invariant-bind_keys-loop-item : goal.invariant-bind_keys-loop-item
invariant-bind_keys-loop-item l =
    with_names l.names (bound_keys (keys (map key_view (drop l.item-index l.items))))
    ≡ with_names l.initial.names (bound_keys (keys (map key_view l.items)))

abbrev pub invariant-bind_segs-loop-item : goal.invariant-bind_segs-loop-item
invariant-bind_segs-loop-item l =
    with_names l.names (bound_segs (segs (map seg_view (drop l.item-index l.items))))
    ≡ with_names l.initial.names (bound_segs (segs (map seg_view l.items)))
