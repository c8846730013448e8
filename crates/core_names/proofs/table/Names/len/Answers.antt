use Rattle.std.proofs.Common.{sym, ap, ◌∙◌, length}
use Rattle.core_names.proofs.Rows.{scope_length}
use Rattle.core_names.proofs.table.Names.len.Goals as goal

pub returns-clause-value : goal.returns-clause-value
returns-clause-value c = c.len.ensures.value ∙ sym (scope_length c.self.inside.bindings) ∙ ap length c.self.view_is
