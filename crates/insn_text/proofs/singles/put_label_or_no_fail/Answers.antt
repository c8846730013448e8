use Rattle.std.specs.Str.{chars}
use Rattle.term_text.specs.TermText.{texts}
use Rattle.insn_text.proofs.singles.put_label_or_no_fail.Goals as goal

pub returns-in-None : goal.returns-in-None
unfolding chars texts
returns-in-None c = rw c.in-None.is c.put_str.ensures
