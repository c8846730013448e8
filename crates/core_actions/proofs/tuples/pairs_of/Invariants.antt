use Rattle.std.proofs.Common.{◌≡◌, Some, map, IsTrue, length}
use Rattle.erl_term.specs.View as Terms
use Rattle.erl_term.specs.WellRows.{PairsWellFormed}
use Rattle.core_form.specs.SourceTree.{are_constant_pairs}
use Rattle.core_form.specs.View.{part_view, parts}
use Rattle.core_actions.specs.Joining.{literal_pairs}
use Rattle.core_actions.specs.SoundTerms.{all_sound, part_sound}
use Rattle.core_actions.proofs.OptionRows.{both_rows}
use Rattle.core_actions.proofs.tuples.pairs_of.Given as goal

abbrev pub invariant-loop-part : goal.invariant-loop-part
invariant-loop-part l = record {
  value : both_rows (Some (map Terms.pair_view l.found)) (literal_pairs (parts (map part_view l.left.items)))
      ≡ literal_pairs (parts (map part_view l.fn.pairs));
  constant : IsTrue (are_constant_pairs (parts (map part_view l.left.items)));
  sound : IsTrue (all_sound (map part_sound l.left.items));
  well_formed : PairsWellFormed l.found;
}

abbrev pub decreases-loop-part : goal.decreases-loop-part
decreases-loop-part l = length l.left.items
