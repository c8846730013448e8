use Rattle.std.proofs.Common.{◌≡◌, drop, map}
use Rattle.std.specs.List.{list_all}
use Rattle.erl_term.specs.View.{view}
use Rattle.core_form.specs.SourceTree.{is_flag}
use Rattle.core_actions.proofs.flags.all_flags.Given as goal

abbrev pub invariant-loop-item : goal.invariant-loop-item
invariant-loop-item l = list_all is_flag (map view (drop l.item-index l.items)) ≡ list_all is_flag (map view l.items)
