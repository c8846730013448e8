use Rattle.std.proofs.Common.{◌≡◌, take}
use Rattle.core_lex.proofs.quoted.codes_of.Given as goal

abbrev pub invariant-loop-c : goal.invariant-loop-c
invariant-loop-c l = l.codes ≡ take l.c-index l.text
