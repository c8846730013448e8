use Rattle.ssa_form.proofs.LiveSteps.{live_before_set}
use Rattle.ssa_form.proofs.laws.liveness_goes_over_a_set.Goals as goal

pub returns : goal.returns
returns c = live_before_set
