use Rattle.ssa_form.proofs.MoreBlocks.{one_result}
use Rattle.ssa_form.proofs.laws.body_has_one_result.Goals as goal

pub returns : goal.returns
returns c = λ around here b vs s r q g h. one_result around here b vs s r q g h
