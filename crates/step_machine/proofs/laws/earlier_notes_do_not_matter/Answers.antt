use Rattle.step_machine.proofs.RunLaws.{runs_under}
use Rattle.step_machine.proofs.laws.earlier_notes_do_not_matter.Goals as goal

pub returns : goal.returns
returns g c = λ step k m rs log base. runs_under step k m rs log base
