use Rattle.std.proofs.Common.{◌∙◌, ap, ◌++◌}
use Rattle.std.specs.Str.{chars}
use Rattle.term_text.proofs.Growth.{on_ok}
use Rattle.insn_text.specs.Rows.{items_terms}
use Rattle.insn_text.proofs.Loops.{list_text}
use Rattle.std.proofs.Common.{sym}
use Rattle.insn_text.proofs.items.put_bare_list.Goals as goal

pub returns : goal.returns
unfolding chars
returns c =
    on_ok c.put_str-2.result
    (λ e r. e r ∙ c.in_ok-put_items.ensures _ ∙ c.in_ok-put_str.ensures _
    ∙ ap (λ x. c.args.out.now ++ x) (sym (list_text (items_terms c.args.items.now) r)))
    c.put_str-2.ensures
