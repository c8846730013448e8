use Rattle.std.proofs.Common.{◌≡◌, drop}
use Rattle.core_scope.specs.ScopeWalk.{exports_met}
use Rattle.core_scope.proofs.bindings.keep_exports.Given as goal

abbrev pub invariant-loop-export : goal.invariant-loop-export
invariant-loop-export l =
    exports_met (drop l.export-index l.exports) l.names l.first ≡ exports_met l.exports l.names l.initial.first
