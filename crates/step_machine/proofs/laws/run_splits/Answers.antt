use Rattle.step_machine.proofs.RunLaws.{splits}
use Rattle.step_machine.proofs.laws.run_splits.Goals as goal

pub returns : goal.returns
returns g c = λ step j k m rs log. splits step j k m rs log
