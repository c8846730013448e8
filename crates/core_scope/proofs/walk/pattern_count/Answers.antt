use Rattle.std.proofs.Common.{sym, ◌∙◌}
use Rattle.core_scope.proofs.Counted.{patterns_counted}
use Rattle.core_scope.proofs.walk.pattern_count.Goals as goal

pub returns : goal.returns
returns c = c.len.ensures.value ∙ sym (patterns_counted c.args.items.now)
