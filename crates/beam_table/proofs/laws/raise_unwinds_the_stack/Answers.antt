use Rattle.beam_table.proofs.StepLaws.{raise_unwinds}
use Rattle.beam_table.proofs.laws.raise_unwinds_the_stack.Goals as goal

pub returns : goal.returns
returns c = λ a. raise_unwinds a
