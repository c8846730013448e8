use Rattle.std.proofs.Common.{◌≡◌, ◌++◌, length}
use Rattle.erl_term.proofs.maps.map_of.Given as goal

abbrev pub invariant-loop-pair : goal.invariant-loop-pair
invariant-loop-pair l = l.all ++ l.merged.items ≡ l.initial.merged.items

abbrev pub decreases-loop-pair : goal.decreases-loop-pair
decreases-loop-pair l = length l.merged.items
