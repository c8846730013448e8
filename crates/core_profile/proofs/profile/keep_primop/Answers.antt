use Rattle.std.proofs.Common.{not, sym, ap, ◌∙◌}
use Rattle.erl_base.specs.declared.refusal.Outside.TheVariants.{Primop}
use Rattle.core_profile.specs.ProfileFaults.{outside, is_primop}
use Rattle.core_profile.proofs.Lengths.{expr_count-exprs}
use Rattle.core_profile.proofs.profile.keep_primop.Goals as goal
use Rattle.first_fault.specs.FirstFault.{first_with}

pub returns : goal.returns
returns c = c.keep_if.ensures
    ∙ ap (λ b. first_with c.args.first (outside (not b) c.args.place Primop)) (c.is_primop-holds.ensures
    ∙ ap (is_primop c.args.name.now) (sym (expr_count-exprs c.args.arguments.now)))
