use Rattle.std.proofs.Common.{ap, ◌∙◌, ◌++◌, codes}
use Rattle.std.specs.Str.{chars}
use Rattle.term_text.specs.TermText.{term_on}
use Rattle.term_text.proofs.Growth.{on_ok}
use Rattle.beam_table.specs.InstructionText.{form}
use Rattle.beam_table.specs.View.{insn_view}
use Rattle.asm_text.proofs.printer.put_line.Goals as goal

pub returns : goal.returns
unfolding chars
returns c =
    on_ok c.put_str-2.result
    (λ e r. e r ∙ c.in_ok-put_insn.ensures _ ∙ c.in_ok-put_str.ensures _
    ∙ ap (λ x. c.args.out.now ++ (x ++ term_on (form (insn_view c.args.insn.now)) (codes ".\n" ++ r)))
    c.indent_of.ensures)
    c.put_str-2.ensures
