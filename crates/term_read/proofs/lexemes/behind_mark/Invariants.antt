use Rattle.std.proofs.Common.{◌≡◌, ◌≤◌, ◌+◌, length, drop}
use Rattle.term_read.specs.Lexemes.{behind_mark}
use Rattle.term_read.proofs.lexemes.behind_mark.Given as goal

abbrev pub invariant-loop-m : goal.invariant-loop-m
invariant-loop-m l = record {
  left : behind_mark (drop l.m-index l.mark) l.rest ≡ behind_mark l.mark l.fn.cs;
  fits : length l.rest + l.m-index ≤ length l.fn.cs;
}
