use Rattle.asm_forms.proofs.PrintedRanges.{forms_sane}
use Rattle.asm_forms.proofs.laws.printed_forms_are_in_range.Goals as goal

pub returns : goal.returns
returns c a v = forms_sane a v
