use Rattle.std.proofs.Common.{rules}
use Rattle.std.specs.Str.{chars}
use Rattle.term_text.specs.TermText.{texts}
use Rattle.insn_text.proofs.singles.put_comma.Goals as goal

pub returns : goal.returns
unfolding chars texts
returns c = search rules
