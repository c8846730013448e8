use Rattle.std.proofs.Common.{take}
use Rattle.core_syntax.proofs.Accepting.{Reading}
use Rattle.core_syntax.proofs.check.check_syntax.Given as goal

abbrev pub invariant-loop-token : goal.invariant-loop-token
invariant-loop-token l = Reading (take l.token-index l.tokens) l.stack l.shape
