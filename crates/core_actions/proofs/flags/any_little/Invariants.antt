use Rattle.std.proofs.Common.{◌≡◌, drop, map}
use Rattle.std.specs.List.{list_any}
use Rattle.erl_term.specs.View.{view}
use Rattle.core_actions.specs.SegmentBits.{is_little}
use Rattle.core_actions.proofs.flags.any_little.Given as goal

abbrev pub invariant-loop-item : goal.invariant-loop-item
invariant-loop-item l = list_any is_little (map view (drop l.item-index l.items))
    ≡ list_any is_little (map view l.items)
