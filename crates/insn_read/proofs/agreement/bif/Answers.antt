use Rattle.std.proofs.Common.{sym, ◌∙◌, map, length}
use Rattle.std.proofs.lemmas.List.{length-map}
use Rattle.bif_table.specs.View.{bif_view}
use Rattle.beam_table.specs.View.{source_view, reg_view, label_view}
use Rattle.insn_read.proofs.Listed.{bif_missing, bif_by}
use Rattle.insn_read.proofs.agreement.bif.Goals as goal

pub returns-in-None : goal.returns-in-None
returns-in-None c =
    bif_missing c.args.name (label_view c.args.label) (length c.args.arguments)
    (map source_view c.args.arguments) (reg_view c.args.to)
    (sym (length-map c.args.arguments source_view)) c.in-None.ensures

pub returns-then-not-is_plain : goal.returns-then-not-is_plain
returns-then-not-is_plain c =
    bif_by c.args.name (label_view c.args.label) (length c.args.arguments)
    (map source_view c.args.arguments) (reg_view c.args.to) (bif_view c.in-Some.bif) _
    (sym (length-map c.args.arguments source_view)) c.in-Some.ensures
    (sym c.is_plain.ensures ∙ c.if-not-is_plain.true)

pub returns-else-not-is_plain : goal.returns-else-not-is_plain
returns-else-not-is_plain c =
    bif_by c.args.name (label_view c.args.label) (length c.args.arguments)
    (map source_view c.args.arguments) (reg_view c.args.to) (bif_view c.in-Some.bif) _
    (sym (length-map c.args.arguments source_view)) c.in-Some.ensures
    (sym c.is_plain.ensures ∙ c.if-not-is_plain.false)
