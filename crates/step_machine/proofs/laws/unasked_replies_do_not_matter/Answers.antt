use Rattle.step_machine.proofs.RunLaws.{runs_further}
use Rattle.step_machine.proofs.laws.unasked_replies_do_not_matter.Goals as goal

pub returns : goal.returns
returns g c = λ step k m rs more log w. runs_further step k m rs more log w
