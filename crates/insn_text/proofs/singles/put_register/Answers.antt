use Rattle.std.proofs.Common.{rules}
use Rattle.std.specs.Str.{chars}
use Rattle.term_text.specs.TermText.{texts}
use Rattle.insn_text.proofs.singles.put_register.Goals as goal

pub returns-in-X : goal.returns-in-X
unfolding chars texts
returns-in-X c = search rules

pub returns-in-Y : goal.returns-in-Y
unfolding chars texts
returns-in-Y c = search rules
