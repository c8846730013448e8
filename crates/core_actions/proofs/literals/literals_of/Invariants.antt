use Rattle.std.proofs.Common.{◌≡◌, Some, map, IsTrue, length}
use Rattle.erl_term.specs.View as Terms
use Rattle.erl_term.specs.WellRows.{AreWellFormed}
use Rattle.core_form.specs.SourceTree.{are_literals}
use Rattle.core_form.specs.View.{view, exprs}
use Rattle.core_actions.specs.Joining.{literal_terms}
use Rattle.core_actions.specs.SoundTerms.{all_sound, expr_sound}
use Rattle.core_actions.proofs.OptionRows.{both_rows}
use Rattle.core_actions.proofs.literals.literals_of.Given as goal

abbrev pub invariant-loop-item : goal.invariant-loop-item
invariant-loop-item l = record {
  value : both_rows (Some (map Terms.view l.terms)) (literal_terms (exprs (map view l.left.items)))
      ≡ literal_terms (exprs (map view l.fn.items));
  literals : IsTrue (are_literals (exprs (map view l.left.items)));
  sound : IsTrue (all_sound (map expr_sound l.left.items));
  well_formed : AreWellFormed l.terms;
}

abbrev pub decreases-loop-item : goal.decreases-loop-item
decreases-loop-item l = length l.left.items
