use Rattle.beam_table.proofs.StepLaws.{step_fine}
use Rattle.beam_table.proofs.laws.steps_keep_the_stack.Goals as goal

pub returns : goal.returns
returns c = λ a m. step_fine a m
