use Rattle.beam_table.proofs.LocalCalls.{local_calls_enter_one}
use Rattle.beam_table.proofs.laws.local_call_adds_one_entry.Goals as goal

pub returns : goal.returns
returns c = λ a. local_calls_enter_one a
