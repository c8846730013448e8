use Rattle.std.proofs.Common.{ap, ◌∙◌}
use Rattle.bif_table.specs.Builtins.{lookup}
use Rattle.insn_read.proofs.agreement.listed.Goals as goal

pub returns : goal.returns
returns c = c.lookup.ensures ∙ ap (lookup c.args.name) c.len.ensures.value
