use Rattle.behaviour.proofs.Modules.{functions_give_module}
use Rattle.behaviour.proofs.laws.functions_give_the_module.Goals as goal

pub returns : goal.returns
returns c = functions_give_module
