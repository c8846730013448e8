use Rattle.operand_read.proofs.TermForms.{no_int}
use Rattle.operand_read.proofs.terms.integer_of.Goals as goal

pub returns-in_default : goal.returns-in_default
returns-in_default c = no_int _ c.requires c.in_default.not-Int
