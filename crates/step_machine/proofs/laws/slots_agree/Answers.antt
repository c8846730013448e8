use Rattle.step_machine.proofs.FrameLaws.{slots}
use Rattle.step_machine.proofs.laws.slots_agree.Goals as goal

pub returns : goal.returns
returns g c = slots
