use Rattle.std.proofs.Common.{◌∙◌}
use Rattle.std.specs.Str.{chars}
use Rattle.term_text.specs.TermText.{texts}
use Rattle.term_text.proofs.Growth.{on_ok}
use Rattle.asm_text.proofs.printer.put_function_form.Goals as goal

pub returns : goal.returns
unfolding chars texts
returns c =
    on_ok c.put_str-4.result
    (λ e r. e r ∙ c.in_ok-put_u32-2.ensures _ ∙ c.in_ok-put_str-3.ensures _ ∙ c.in_ok-put_u32.ensures _
    ∙ c.in_ok-put_str-2.ensures _ ∙ c.in_ok-put_name.ensures _ ∙ c.in_ok-put_str.ensures _)
    c.put_str-4.ensures
