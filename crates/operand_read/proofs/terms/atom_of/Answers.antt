use Rattle.std.proofs.Common.{refl}
use Rattle.operand_read.proofs.TermForms.{no_atom}
use Rattle.operand_read.proofs.terms.atom_of.Goals as goal

pub returns-in_default : goal.returns-in_default
returns-in_default c = record { value = no_atom _ c.requires c.in_default.not-Atom; syntax = refl }
