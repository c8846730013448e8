use Rattle.std.proofs.Common.{rules}
use Rattle.std.specs.Str.{chars}
use Rattle.asm_text.proofs.first.put_comma.Goals as goal

pub returns : goal.returns
unfolding chars
returns c = search rules
