use Rattle.std.proofs.Common.{map, sym, ap, ◌∙◌, rules}
use Rattle.beam_table.specs.View.{insn_view}
use Rattle.pass_line.proofs.Literals.{gives_literal-list}
use Rattle.pass_line.proofs.code.+gives_literal.Goals as goal

pub returns-else-is_empty : goal.returns-else-is_empty
returns-else-is_empty t c =
    ap (map insn_view) c.new-else-is_empty.ensures
    ∙ sym (gives_literal-list _ _ _ c.in-List.is (λ e. search (rules, e)))
