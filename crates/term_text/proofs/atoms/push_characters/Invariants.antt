use Rattle.std.proofs.Common.{◌≡◌, ◌++◌, chars, IsUtf8}
use Rattle.term_text.specs.Atoms.{quoted_characters}
use Rattle.term_text.proofs.atoms.push_characters.Given as goal

abbrev pub invariant-loop-c : goal.invariant-loop-c
invariant-loop-c l = record {
  utf8 : IsUtf8 l.c-iterator.rest.now;
  added : l.out ++ quoted_characters (chars l.c-iterator.rest.now) ≡ l.initial.out ++ quoted_characters (chars l.name);
}
