use Rattle.pass_examples.proofs.Refused as refused
use Rattle.pass_examples.proofs.wrong_passes_refused.Goals as goal

pub returns : goal.returns
returns c = refused.wrong_passes_refused
