use Rattle.std.proofs.Common.{◌≡◌, ◌≤◌, ◌+◌, length, chars, IsUtf8}
use Rattle.utf8_text.specs.Places.{start, place_after}
use Rattle.utf8_text.proofs.pieces.end_of.Given as goal

abbrev pub invariant-loop-c : goal.invariant-loop-c
invariant-loop-c l = record {
  rest : place_after (chars l.c-iterator.rest.now) l.place ≡ place_after (chars l.text) start;
  utf8 : IsUtf8 l.c-iterator.rest.now;
  line : l.place.line ≤ 1 + length l.yielded;
  column : l.place.column ≤ 1 + length l.yielded;
}
