use Rattle.pass_contract.proofs.Modules.{at_once_agrees}
use Rattle.pass_contract.proofs.laws.results_make_agreement.Goals as goal

pub returns : goal.returns
returns c = at_once_agrees
