use Rattle.step_machine.proofs.FrameLaws.{listed}
use Rattle.step_machine.proofs.laws.listed_registers_agree.Goals as goal

pub returns : goal.returns
returns g c = listed
