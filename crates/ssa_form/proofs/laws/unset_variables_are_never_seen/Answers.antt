use Rattle.ssa_form.proofs.TwinRuns.{unset_is_never_seen}
use Rattle.ssa_form.proofs.laws.unset_variables_are_never_seen.Goals as goal

pub returns : goal.returns
returns c = unset_is_never_seen
