use Rattle.std.proofs.Common.{◌≡◌, ◌≤◌, length, drop, chars, IsUtf8}
use Rattle.erl_base.specs.Names.{same_name}
use Rattle.term_text.proofs.atoms.is_spelled.Given as goal

abbrev pub invariant-loop-c : goal.invariant-loop-c
invariant-loop-c l = record {
  same : same_name (drop l.at l.word) (chars l.c-iterator.rest.now) ≡ same_name l.word (chars l.name);
  within : l.at ≤ length l.word;
  utf8 : IsUtf8 l.c-iterator.rest.now;
}
