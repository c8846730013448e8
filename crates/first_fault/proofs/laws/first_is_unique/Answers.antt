use Rattle.first_fault.proofs.First.{unique}
use Rattle.first_fault.proofs.laws.first_is_unique.Goals as goal

pub returns : goal.returns
returns c = unique
