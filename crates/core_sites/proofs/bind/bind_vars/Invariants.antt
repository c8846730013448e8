use Rattle.std.proofs.Common.{◌≡◌, drop}
use Rattle.core_form.specs.Scope.{with_names, names_of}
use Rattle.core_sites.proofs.bind.bind_vars.Given as goal

abbrev pub invariant-loop-var : goal.invariant-loop-var
invariant-loop-var l =
    with_names l.names (names_of (drop l.var-index l.vars)) ≡ with_names l.initial.names (names_of l.vars)
