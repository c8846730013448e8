use Rattle.std.proofs.Common.{◌∙◌}
use Rattle.std.specs.Str.{chars}
use Rattle.term_text.specs.TermText.{texts}
use Rattle.term_text.proofs.Growth.{on_ok}
use Rattle.insn_text.proofs.singles.put_field_flags.Goals as goal

pub returns : goal.returns
unfolding chars texts
returns c = on_ok c.put_str-2.result (λ e r. e r ∙ c.in_ok-put_flags.ensures _
    ∙ c.in_ok-put_str.ensures _) c.put_str-2.ensures
