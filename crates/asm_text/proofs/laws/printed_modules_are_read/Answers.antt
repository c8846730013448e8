use Rattle.asm_text.proofs.ModuleLines.{printed_is_read}
use Rattle.asm_text.proofs.laws.printed_modules_are_read.Goals as goal

pub returns : goal.returns
returns c a v n =
    printed_is_read
    (record { read = c.printed_lines_have_their_module.ensures; sane = c.printed_forms_are_in_range.ensures }) a v n
