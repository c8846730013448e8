use Rattle.std.proofs.Common.{◌∙◌, sym}
use Rattle.bif_table.specs.View.{bif_view}
use Rattle.bif_table.proofs.Names.{row_named}
use Rattle.bif_table.proofs.table.Bif.is_named.Goals as goal

pub returns-then-arity-key : goal.returns-then-arity-key
returns-then-arity-key c = row_named (bif_view c.args.self) _ _ _ _ c.is_text.ensures c.name.ensures
    (sym c.arity.ensures ∙ c.if-arity-key.true)
