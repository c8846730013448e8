use Rattle.std.proofs.Common.{◌≡◌, ◌≤◌, ◌+◌, drop}
use Rattle.utf8_text.specs.Places.{place_after}
use Rattle.utf8_text.proofs.place.place_after.Given as goal

abbrev pub invariant-loop-c : goal.invariant-loop-c
invariant-loop-c l = record {
  rest : place_after (drop l.c-index l.chars) l.at ≡ place_after l.chars l.fn.place;
  line : l.at.line ≤ l.fn.place.line + l.c-index;
  column : l.at.column ≤ l.fn.place.column + l.c-index;
  counted : 1 ≤ l.at.column;
}
