use Rattle.std.proofs.Common.{◌≡◌, drop, map}
use Rattle.core_form.specs.SourceTree.{are_constant_pairs}
use Rattle.core_form.specs.View.{part_view, parts}
use Rattle.core_actions.proofs.tuples.are_constant_pairs.Given as goal

abbrev pub invariant-loop-pair : goal.invariant-loop-pair
invariant-loop-pair l = are_constant_pairs (parts (map part_view (drop l.pair-index l.pairs)))
    ≡ are_constant_pairs (parts (map part_view l.pairs))
