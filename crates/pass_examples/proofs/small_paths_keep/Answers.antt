use Rattle.pass_examples.proofs.SmallPath as path
use Rattle.pass_examples.proofs.small_paths_keep.Goals as goal

pub returns : goal.returns
returns c = path.small_paths_keep
