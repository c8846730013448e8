use Rattle.std.proofs.Common.{◌≡◌, Some, map, IsTrue, length}
use Rattle.erl_term.specs.View as Terms
use Rattle.erl_term.specs.WellRows.{AreWellFormed}
use Rattle.core_form.specs.SourceTree.{are_known}
use Rattle.core_form.specs.View.{pattern_view, patterns}
use Rattle.core_actions.specs.Joining.{known_terms}
use Rattle.core_actions.specs.SoundTerms.{all_sound, pattern_sound}
use Rattle.core_actions.proofs.OptionRows.{both_rows}
use Rattle.core_actions.proofs.known.terms_of_known.Given as goal

abbrev pub invariant-loop-item : goal.invariant-loop-item
invariant-loop-item l = record {
  value : both_rows (Some (map Terms.view l.terms)) (known_terms (patterns (map pattern_view l.left.items)))
      ≡ known_terms (patterns (map pattern_view l.fn.items));
  known : IsTrue (are_known (patterns (map pattern_view l.left.items)));
  sound : IsTrue (all_sound (map pattern_sound l.left.items));
  well_formed : AreWellFormed l.terms;
}

abbrev pub decreases-loop-item : goal.decreases-loop-item
decreases-loop-item l = length l.left.items
