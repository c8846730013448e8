use Rattle.std.proofs.Common.{◌∙◌}
use Rattle.term_text.proofs.Growth.{on_ok}
use Rattle.asm_text.proofs.printer.put_function.Goals as goal

pub put_code-requires : goal.put_code-requires
put_code-requires c = rw c.as_slice.ensures c.requires

pub returns : goal.returns
returns c =
    let code = rw c.as_slice.ensures at c.put_code.ensures in
    on_ok c.put_code.result
    (λ e r. e r ∙ c.in_ok-put_label-2.ensures _ ∙ c.in_ok-put_func_info.ensures _ ∙ c.in_ok-put_label.ensures _
    ∙ c.in_ok-put_function_form.ensures _)
    code
