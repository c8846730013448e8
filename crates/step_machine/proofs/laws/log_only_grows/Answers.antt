use Rattle.step_machine.proofs.RunLaws.{log_grows}
use Rattle.step_machine.proofs.laws.log_only_grows.Goals as goal

pub returns : goal.returns
returns g c = λ step k j m rs log le. log_grows step k j m rs log le
