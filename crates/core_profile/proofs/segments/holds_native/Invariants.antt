use Rattle.std.proofs.Common.{◌≡◌, drop, map}
use Rattle.std.specs.List.{list_any}
use Rattle.erl_term.specs.View.{view}
use Rattle.core_profile.specs.ProfileFaults.{is_native}
use Rattle.core_profile.proofs.segments.holds_native.Given as goal

abbrev pub invariant-loop-item : goal.invariant-loop-item
invariant-loop-item l = list_any is_native (map view (drop l.item-index l.items))
    ≡ list_any is_native (map view l.items)
