use Rattle.std.specs.Str.{chars}
use Rattle.term_text.specs.TermText.{texts}
use Rattle.insn_text.proofs.singles.put_kind.Goals as goal

pub returns-in-Integer : goal.returns-in-Integer
unfolding chars texts
returns-in-Integer c = rw c.in-Integer.is c.put_str.ensures

pub returns-in-Binary : goal.returns-in-Binary
unfolding chars texts
returns-in-Binary c = rw c.in-Binary.is c.put_str-in-Binary.ensures
