use Rattle.behaviour.proofs.PlainModules.{plain_modules_behave}
use Rattle.behaviour.proofs.laws.plain_modules_behave_the_same.Goals as goal

pub returns : goal.returns
returns c = λ m hs w. plain_modules_behave m hs w
