use Rattle.first_fault.proofs.First.{found}
use Rattle.first_fault.proofs.laws.first_is_found.Goals as goal

pub returns : goal.returns
returns c = found
