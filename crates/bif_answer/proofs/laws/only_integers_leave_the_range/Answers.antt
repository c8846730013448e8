use Rattle.bif_answer.proofs.Narrow.{narrow}
use Rattle.bif_answer.proofs.laws.only_integers_leave_the_range.Goals as goal

pub returns : goal.returns
returns c = narrow
