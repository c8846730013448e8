use Rattle.std.proofs.Common.{◌≡◌, length}
use Rattle.term_read.specs.TermGrammar.{whole_before_last}
use Rattle.term_read.proofs.bitstrings.whole_before_last.Given as goal

abbrev pub invariant-loop-rest : goal.invariant-loop-rest
invariant-loop-rest l = whole_before_last l.rest ≡ whole_before_last l.fn.parts

abbrev pub decreases-loop-rest : goal.decreases-loop-rest
decreases-loop-rest l = length l.rest
