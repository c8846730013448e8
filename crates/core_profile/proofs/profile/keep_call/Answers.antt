use Rattle.std.proofs.Common.{◌&&◌, sym, ap, ◌∙◌, codes}
use Rattle.erl_base.specs.Names.{same_name}
use Rattle.erl_base.specs.declared.refusal.Outside.TheVariants.{FloatFunction}
use Rattle.core_form.specs.Walks.{literal_name}
use Rattle.core_form.specs.View.{view}
use Rattle.core_scope.specs.ScopeFaults.{is_float_function}
use Rattle.core_profile.specs.ProfileFaults.{outside}
use Rattle.core_profile.proofs.Lengths.{expr_count-exprs}
use Rattle.core_profile.proofs.profile.keep_call.Goals as goal
use Rattle.first_fault.specs.FirstFault.{first_with}

pub returns : goal.returns
returns c =
    let erlang = c.is_word-erlang.ensures ∙ ap (λ n. same_name n (codes "erlang"))
    (c.literal_name.ensures ∙ ap (λ e. literal_name (view e)) c.get.ensures) in
    let name = c.literal_name-2.ensures ∙ ap (λ e. literal_name (view e)) c.get-2.ensures in
    let count = sym (expr_count-exprs c.args.arguments.now) in
    c.keep_if.ensures
    ∙ (λ i. first_with c.args.first (outside (erlang i && (c.gives_float-float.ensures
    ∙ (λ j. is_float_function (name j) (count j))) i) c.args.place FloatFunction))
