use Rattle.std.proofs.Common.{◌≡◌, [], drop}
use Rattle.insn_read.proofs.Distinct.{new_after}
use Rattle.insn_read.proofs.forms.are_distinct.Given as goal

abbrev pub invariant-loop-key : goal.invariant-loop-key
invariant-loop-key l = new_after [] l.keys ≡ new_after l.seen (drop l.key-index l.keys)
