use Rattle.std.proofs.Common.{◌≡◌, ◌-◌, ◌+◌, ◌*◌, ◌≤◌, ◌++◌, length, drop}
use Rattle.utf8_text.specs.Places.{start}
use Rattle.core_lex.specs.LexerState.{AreOpen}
use Rattle.core_lex.specs.Tokens.{tokens_from}
use Rattle.core_lex.proofs.scan.scan.Given as goal

abbrev pub invariant-loop-at : goal.invariant-loop-at
invariant-loop-at l = record {
  fits : l.at ≤ length l.text;
  rest : l.found ++ tokens_from (drop l.at l.text) 0 l.place l.byte ≡ tokens_from l.text 0 start 0;
  byte : l.byte ≤ 4 * l.at;
  line : l.place.line ≤ 1 + l.at;
  column : l.place.column ≤ 1 + l.at;
  counted : 1 ≤ l.place.column;
  open_so_far : AreOpen l.found;
}

abbrev pub decreases-loop-at : goal.decreases-loop-at
decreases-loop-at l = length l.text - l.at
