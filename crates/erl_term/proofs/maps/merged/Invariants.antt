use Rattle.std.proofs.Common.{◌≡◌, ◌+◌, length}
use Rattle.erl_term.specs.Comparing.{PairsNormal}
use Rattle.erl_term.specs.Merging.{IsRun, merge}
use Rattle.erl_term.proofs.MapRuns.{in_front_of}
use Rattle.erl_term.proofs.maps.merged.Given as goal

abbrev pub invariant-loop-pair : goal.invariant-loop-pair
invariant-loop-pair l = record {
  merged : in_front_of l.all.items (merge l.first.items l.second.items) ≡ merge l.fn.first.items l.fn.second.items;
  normal : PairsNormal l.all.items;
  first : IsRun l.first.items;
  second : IsRun l.second.items;
}

abbrev pub decreases-loop-pair : goal.decreases-loop-pair
decreases-loop-pair l = length l.first.items + length l.second.items
