use Rattle.asm_forms.proofs.PrintedLines.{printed_lines}
use Rattle.asm_forms.proofs.laws.printed_lines_have_their_module.Goals as goal

pub returns : goal.returns
returns c ls a v g e = printed_lines ls a g e (c.printed_forms_have_their_module.ensures a v)
