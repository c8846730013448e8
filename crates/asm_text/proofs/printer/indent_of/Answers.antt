use Rattle.std.specs.Str.{chars}
use Rattle.std.proofs.Common.{refl}
use Rattle.asm_text.proofs.ModuleLines.{other_indent}
use Rattle.asm_text.proofs.printer.indent_of.Goals as goal

pub returns-in-Label : goal.returns-in-Label
unfolding chars
returns-in-Label c = rw c.in-Label.is refl

pub returns-in_default : goal.returns-in_default
unfolding chars
returns-in_default c = other_indent c.args.insn.now c.in_default.not-Label
