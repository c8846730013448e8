use Rattle.pass_examples.proofs.UpdatingGuard as guard
use Rattle.pass_examples.proofs.updating_guards_keep.Goals as goal

pub returns : goal.returns
returns c = guard.updating_guards_keep
