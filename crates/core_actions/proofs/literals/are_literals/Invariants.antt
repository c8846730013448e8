use Rattle.std.proofs.Common.{◌≡◌, drop, map}
use Rattle.core_form.specs.SourceTree.{are_literals}
use Rattle.core_form.specs.View.{view, exprs}
use Rattle.core_actions.proofs.literals.are_literals.Given as goal

abbrev pub invariant-loop-item : goal.invariant-loop-item
invariant-loop-item l = are_literals (exprs (map view (drop l.item-index l.items)))
    ≡ are_literals (exprs (map view l.items))
