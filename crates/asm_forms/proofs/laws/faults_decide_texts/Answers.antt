use Rattle.asm_forms.proofs.Faults.{faultless, faultless_texts}
use Rattle.asm_forms.proofs.laws.faults_decide_texts.Goals as goal

pub returns-clause-none : goal.returns-clause-none
returns-clause-none c bytes e = faultless bytes e

pub returns-clause-read : goal.returns-clause-read
returns-clause-read c bytes a x = faultless_texts bytes a x
