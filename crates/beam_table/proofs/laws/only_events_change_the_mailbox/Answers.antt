use Rattle.beam_table.proofs.StepLaws.{step_by_events}
use Rattle.beam_table.proofs.laws.only_events_change_the_mailbox.Goals as goal

pub returns : goal.returns
returns c = λ a m. step_by_events a m
