use Rattle.std.proofs.Common.{◌≡◌, false, chars, IsUtf8}
use Rattle.term_text.proofs.Walks.{goes_on}
use Rattle.term_text.proofs.atoms.is_plain_word.Given as goal

abbrev pub invariant-loop-c : goal.invariant-loop-c
invariant-loop-c l = record {
  named : goes_on l.begun (chars l.c-iterator.rest.now) ≡ goes_on false (chars l.word);
  utf8 : IsUtf8 l.c-iterator.rest.now;
}
