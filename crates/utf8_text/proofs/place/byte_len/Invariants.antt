use Rattle.std.proofs.Common.{◌≡◌, ◌≤◌, ◌+◌, ◌*◌, drop}
use Rattle.utf8_text.specs.Places.{byte_len}
use Rattle.utf8_text.proofs.place.byte_len.Given as goal

abbrev pub invariant-loop-c : goal.invariant-loop-c
invariant-loop-c l = record {
  rest : l.bytes + byte_len (drop l.c-index l.chars) ≡ byte_len l.chars;
  bound : l.bytes ≤ 4 * l.c-index;
}
