use Rattle.std.proofs.Common.{◌≡◌, drop}
use Rattle.core_form.specs.Scope.{with_names, names_of}
use Rattle.core_scope.specs.ScopeWalk.{variables_met}
use Rattle.core_scope.proofs.bindings.bind_variables.Given as goal

abbrev pub invariant-loop-var : goal.invariant-loop-var
invariant-loop-var l = record {
  first : variables_met (drop l.var-index l.vars) l.base l.names l.first
      ≡ variables_met l.vars l.base l.initial.names l.initial.first;
  names : with_names l.names (names_of (drop l.var-index l.vars)) ≡ with_names l.initial.names (names_of l.vars);
}
