use Rattle.beam_table.proofs.StepLaws.{entries_bound}
use Rattle.beam_table.proofs.laws.steps_enter_at_most_one.Goals as goal

pub returns : goal.returns
returns c = λ a k m rs log. entries_bound a k m rs log
