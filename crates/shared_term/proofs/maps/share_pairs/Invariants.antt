use Rattle.std.proofs.Common.{◌≡◌, ◌++◌, All, map, take}
use Rattle.shared_term.specs.View.{pair_view, IsPairWhole}
use Rattle.shared_term.proofs.maps.share_pairs.Given as goal

abbrev pub invariant-loop-pair : goal.invariant-loop-pair
invariant-loop-pair l = record {
  added : map pair_view l.all ≡ map pair_view l.initial.all ++ map pair_view (take l.pair-index l.pairs);
  whole : All IsPairWhole l.all;
}
