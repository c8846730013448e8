use Rattle.world_model.proofs.Receiving.{takes_first}
use Rattle.world_model.proofs.laws.receiving_takes_the_first_accepted.Goals as goal

pub returns : goal.returns
returns c = takes_first
