use Rattle.std.proofs.Common.{sym, ◌∙◌}
use Rattle.core_scope.proofs.Counted.{exprs_counted}
use Rattle.core_scope.proofs.walk.expr_count.Goals as goal

pub returns : goal.returns
returns c = c.len.ensures.value ∙ sym (exprs_counted c.args.items.now)
