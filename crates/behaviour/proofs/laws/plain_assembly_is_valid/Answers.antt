use Rattle.behaviour.proofs.PlainValid.{plain_valid}
use Rattle.behaviour.proofs.laws.plain_assembly_is_valid.Goals as goal

pub returns : goal.returns
returns c = λ m hs w t. plain_valid m hs w t
