use Rattle.std.proofs.Common.{◌≡◌, drop, map}
use Rattle.core_form.specs.View.{def_view, defs}
use Rattle.core_scope.specs.ScopeWalk.{defs_met, defs_scope}
use Rattle.core_scope.proofs.bindings.bind_defs.Given as goal

abbrev pub invariant-loop-item : goal.invariant-loop-item
invariant-loop-item l = record {
  first : defs_met (defs (map def_view (drop l.item-index l.items))) l.base l.names l.first
      ≡ defs_met (defs (map def_view l.items)) l.base l.initial.names l.initial.first;
  names : defs_scope (defs (map def_view (drop l.item-index l.items))) l.names
      ≡ defs_scope (defs (map def_view l.items)) l.initial.names;
}
