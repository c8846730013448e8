use Rattle.std.proofs.Common.{◌≡◌, ◌++◌, drop, IsTrue}
use Rattle.std.specs.List.{list_all}
use Rattle.term_read.specs.TermGrammar.{is_byte}
use Rattle.term_read.proofs.bitstrings.bytes_of.Given as goal

abbrev pub invariant-loop-c : goal.invariant-loop-c
invariant-loop-c l = record {
  bytes : l.bytes ++ drop l.c-index l.text ≡ l.text;
  small : IsTrue (list_all is_byte (drop l.c-index l.text));
}
