use Rattle.std.proofs.Common.{◌≡◌, drop, map}
use Rattle.core_form.specs.SourceTree.{are_known}
use Rattle.core_form.specs.View.{pattern_view, patterns}
use Rattle.core_actions.proofs.known.are_known.Given as goal

abbrev pub invariant-loop-item : goal.invariant-loop-item
invariant-loop-item l = are_known (patterns (map pattern_view (drop l.item-index l.items)))
    ≡ are_known (patterns (map pattern_view l.items))
