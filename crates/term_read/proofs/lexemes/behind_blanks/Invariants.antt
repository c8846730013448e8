use Rattle.std.proofs.Common.{◌≡◌, ◌≤◌, length}
use Rattle.term_read.specs.Lexemes.{blanks_skipped, behind_blanks}
use Rattle.term_read.proofs.lexemes.behind_blanks.Given as goal

abbrev pub invariant-loop-rest : goal.invariant-loop-rest
invariant-loop-rest l = record {
  left : blanks_skipped l.in_comment l.rest ≡ behind_blanks l.fn.cs;
  fits : length l.rest ≤ length l.fn.cs;
}

abbrev pub decreases-loop-rest : goal.decreases-loop-rest
decreases-loop-rest l = length l.rest
