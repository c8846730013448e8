use Rattle.std.proofs.Common.{◌≤◌, ◌↔◌, drop}
use Rattle.erl_term.specs.Depth.{deepest, deepest_pair}
use Rattle.erl_term.specs.Comparing.{row, pair_row, AllNormal, PairsNormal}
use Rattle.erl_term.proofs.+nests.Given as goal

abbrev pub invariant-depth::all_nest_within-loop-term :
    goal.invariant-depth::all_nest_within-loop-term
invariant-depth::all_nest_within-loop-term l = record {
  same : (deepest (row l.terms) ≤ l.limit) ↔ (deepest (row (drop l.term-index l.terms)) ≤ l.limit);
  normal : AllNormal (drop l.term-index l.terms);
}

abbrev pub invariant-depth::pairs_nest_within-loop-pair :
    goal.invariant-depth::pairs_nest_within-loop-pair
invariant-depth::pairs_nest_within-loop-pair l = record {
  same : (deepest_pair (pair_row l.pairs) ≤ l.limit) ↔ (deepest_pair (pair_row (drop l.pair-index l.pairs)) ≤ l.limit);
  normal : PairsNormal (drop l.pair-index l.pairs);
}
