use Rattle.std.proofs.Common.{◌≡◌, drop, max}
use Rattle.erl_term.specs.Depth.{deepest_pair}
use Rattle.shared_term.specs.View.{pair_row}
use Rattle.shared_term.proofs.maps.deepest_of_pairs.Given as goal

abbrev pub invariant-loop-pair : goal.invariant-loop-pair
invariant-loop-pair l =
    max l.deepest (deepest_pair (pair_row (drop l.pair-index l.pairs))) ≡ deepest_pair (pair_row l.pairs)
