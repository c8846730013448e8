use Rattle.core_form.specs.View.{module_view}
use Rattle.core_scope.proofs.Judging.{none_found, first_found}
use Rattle.core_scope.proofs.check.check_scope.Goals as goal

pub returns-in-Ok-clause-ok : goal.returns-in-Ok-clause-ok
returns-in-Ok-clause-ok c =
    none_found (module_view c.args.tree.now) c.in_ok-first.first c.in_ok-first.ensures c.in-Ok.ensures.ok

pub returns-in-Err-clause-refused : goal.returns-in-Err-clause-refused
returns-in-Err-clause-refused c =
    first_found (module_view c.args.tree.now) c.in_ok-first.first c.in-Err.fault c.in_ok-first.ensures
    c.in-Err.ensures.refused
