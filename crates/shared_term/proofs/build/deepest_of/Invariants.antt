use Rattle.std.proofs.Common.{◌≡◌, drop, map, max}
use Rattle.erl_term.specs.Depth.{deepest}
use Rattle.erl_term.specs.Terms.{terms}
use Rattle.shared_term.specs.View.{view}
use Rattle.shared_term.proofs.build.deepest_of.Given as goal

abbrev pub invariant-loop-value : goal.invariant-loop-value
invariant-loop-value l =
    max l.deepest (deepest (terms (map view (drop l.value-index l.values)))) ≡ deepest (terms (map view l.values))
