use Rattle.step_machine.proofs.RunLaws.{stays_ended}
use Rattle.step_machine.proofs.laws.ended_run_stays_ended.Goals as goal

pub returns : goal.returns
returns g c = λ step k j m rs log le h. stays_ended step k j m rs log le h
