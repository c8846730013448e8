use Rattle.std.proofs.Common.{ap, ◌∙◌}
use Rattle.bif_table.specs.Builtins.{lookup}
use Rattle.core_scope.proofs.words.listed.Goals as goal

pub returns : goal.returns
returns c = c.lookup.ensures ∙ ap (λ n. lookup n c.args.count) c.in_ok-from_text.ensures
