use Rattle.asm_forms.proofs.PrintedTexts.{printed_forms}
use Rattle.asm_forms.proofs.laws.printed_forms_have_their_module.Goals as goal

pub returns : goal.returns
returns c a v = printed_forms (record { read = c.printed_instructions_are_read.ensures }) a v
