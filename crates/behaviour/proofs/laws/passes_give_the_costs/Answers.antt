use Rattle.behaviour.proofs.Modules.{passes_give_costs}
use Rattle.behaviour.proofs.laws.passes_give_the_costs.Goals as goal

pub returns : goal.returns
returns c = passes_give_costs
