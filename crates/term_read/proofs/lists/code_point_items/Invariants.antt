use Rattle.std.proofs.Common.{◌≡◌, ◌++◌, map, drop, length}
use Rattle.erl_term.specs.View.{view}
use Rattle.term_read.specs.TermGrammar.{code_point}
use Rattle.erl_term.specs.WellRows.{AreWellFormed}
use Rattle.term_read.proofs.lists.code_point_items.Given as goal

abbrev pub invariant-loop-c : goal.invariant-loop-c
invariant-loop-c l = record {
  read : map view l.items ++ map code_point (drop l.c-index l.text) ≡ map code_point l.text;
  well_formed : AreWellFormed l.items;
  number : length l.items ≡ l.c-index;
}
