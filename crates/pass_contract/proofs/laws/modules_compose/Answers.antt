use Rattle.pass_contract.proofs.Modules.{compose}
use Rattle.pass_contract.proofs.laws.modules_compose.Goals as goal

pub returns : goal.returns
returns c = compose
