use Rattle.std.proofs.Common.{◌≡◌, take}
use Rattle.ssa_form.proofs.block.copy_choices.Given as goal

abbrev pub invariant-loop-choice : goal.invariant-loop-choice
invariant-loop-choice l = l.copy ≡ take l.choice-index l.choices
