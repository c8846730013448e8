use Rattle.std.proofs.Common.{◌≡◌, ◌++◌, chars, IsUtf8}
use Rattle.term_text.proofs.bytes.push_str.Given as goal

abbrev pub invariant-loop-c : goal.invariant-loop-c
invariant-loop-c l = record {
  utf8 : IsUtf8 l.c-iterator.rest.now;
  added : l.out ++ chars l.c-iterator.rest.now ≡ l.initial.out ++ chars l.text;
}
