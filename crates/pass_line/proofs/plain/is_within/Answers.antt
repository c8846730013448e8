use Rattle.std.proofs.Common.{sym}
use Rattle.pass_line.proofs.Plainness.{is_within_128-fits}
use Rattle.pass_line.proofs.plain.is_within.Goals as goal

pub returns : goal.returns
returns c = sym (is_within_128-fits _ c.ranges._number)
