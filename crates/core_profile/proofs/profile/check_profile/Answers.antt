use Rattle.std.proofs.Common.{◌≡◌, [], None, Some, map, sym, ap, ◌∙◌}
use Rattle.std.proofs.lemmas.Result.{IfOk-weaker, IfErr-weaker}
use Rattle.core_form.specs.View.{def_view, defs, module_view}
use Rattle.core_form.specs.Walks.{all_defs}
use Rattle.core_profile.specs.ProfileFaults.{outside_of, float_fault, profile_faults, IsFirstProfileFault}
use Rattle.core_profile.specs.ProfileWalk.{met_in_defs}
use Rattle.core_profile.proofs.Kept.{in_defs}
use Rattle.core_profile.proofs.profile.check_profile.Goals as goal
use Rattle.first_fault.specs.FirstFault.{first_with}
use Rattle.first_fault.proofs.First.{first_with_both, none_kept, first_kept}

pub returns : goal.returns
returns c =
    let m = module_view c.args.tree.now in
    let e : c.in_defs.result ≡ first_with None (profile_faults m) =
    c.in_defs.ensures ∙ ap (λ l. met_in_defs (defs (map def_view l)) c.keep_float.result) c.as_slice.ensures
    ∙ (in_defs m.defs).at c.keep_float.result
    ∙ ap (λ o. first_with o (all_defs outside_of m.defs)) c.keep_float.ensures
    ∙ sym (first_with_both None (float_fault m.floats) (all_defs outside_of m.defs)) in
    record {
      ok = IfOk-weaker c.answer.result (λ u. c.in_defs.result ≡ None) (λ u. profile_faults m ≡ [])
          (λ u n. none_kept (profile_faults m) c.in_defs.result e n) c.answer.ensures.ok;
      refused = IfErr-weaker c.answer.result (λ f. c.in_defs.result ≡ Some f) (IsFirstProfileFault m)
          (λ f n. first_kept (profile_faults m) c.in_defs.result f e n) c.answer.ensures.refused;
    }
