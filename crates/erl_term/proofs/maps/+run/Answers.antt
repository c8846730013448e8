use Rattle.std.proofs.Common.{◌∙◌, ap, ◌-◌, ◌/◌, arith, length, length-drop}
use Rattle.erl_term.proofs.MapRuns.{halves_merged, left_well_formed}
use Rattle.erl_term.proofs.maps.+run.Goals as goal

pub run-requires-2 : goal.run-requires-2
run-requires-2 t c = (
  omega arith,
  (
    omega (
      arith,
      ap length c.in_ok-first.ensures.left,
      length-drop (c.args.count / 2) c.args.left.now.items,
    ),
    left_well_formed _ _ _ c.in_ok-first.ensures.left c.requires.well_formed,
  ),
)

pub returns-clause-value : goal.returns-clause-value
returns-clause-value t c =
    c.in_ok-all.ensures.value
    ∙ halves_merged (c.args.count / 2) (c.args.count - c.args.count / 2) c.args.count _ _ _ _
    (omega arith) c.in_ok-first.ensures.left c.requires.well_formed c.in_ok-first.ensures.value
    c.in_ok-second.ensures.value
