use Rattle.std.specs.Str.{chars}
use Rattle.term_text.specs.TermText.{texts}
use Rattle.insn_text.proofs.singles.put_source.Goals as goal

pub returns-in-Integer : goal.returns-in-Integer
unfolding chars texts
returns-in-Integer c = rw c.in-Integer.is c.put_whole.ensures

pub returns-in-Nil : goal.returns-in-Nil
unfolding chars texts
returns-in-Nil c = rw c.in-Nil.is c.put_str.ensures
