use Rattle.step_machine.specs.Steps.{run}
use Rattle.step_machine.proofs.OneWayLaws.{both_ways, run_once}
use Rattle.step_machine.proofs.laws.one_direction_suffices.Goals as goal

pub returns : goal.returns
returns g c = λ step m rs log eval way. both_ways (λ k. run step k m rs log) eval (λ k. run_once step k m rs log) way
