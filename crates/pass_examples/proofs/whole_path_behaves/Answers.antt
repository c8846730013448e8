use Rattle.pass_examples.proofs.WholePath as path
use Rattle.pass_examples.proofs.whole_path_behaves.Goals as goal

pub returns : goal.returns
returns c = path.whole_path
