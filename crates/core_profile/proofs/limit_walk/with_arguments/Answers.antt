use Rattle.std.proofs.Common.{sym, ◌∙◌}
use Rattle.core_profile.specs.LimitFaults.{over_arity}
use Rattle.core_profile.specs.LimitWalk.{meeting}
use Rattle.core_profile.proofs.Lengths.{expr_count-exprs}
use Rattle.core_profile.proofs.limit_walk.with_arguments.Goals as goal

pub returns : goal.returns
returns c = c.with_arity.ensures ∙ (λ i. meeting
    (over_arity c.args.place (sym (expr_count-exprs c.args.arguments.now) i)) (c.with_nodes.ensures i))
