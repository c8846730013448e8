use Rattle.std.proofs.Common.{◌≡◌, [], None, Some, length, map, sym, ap, ◌∙◌, subst}
use Rattle.std.proofs.lemmas.Result.{IfOk-weaker, IfErr-weaker}
use Rattle.erl_base.specs.declared.refusal.LimitName.TheVariants.{Integer, Atom}
use Rattle.core_form.specs.Sites.{module_sites, def_count}
use Rattle.core_form.specs.View.{def_view, defs, module_view}
use Rattle.core_profile.specs.declared.progress.Progress.{Progress}
use Rattle.core_profile.specs.Counted.{counted}
use Rattle.core_profile.specs.LimitFaults.{capture_counts, counted_in_text, export_limits, limit_faults, IsFirstLimitFault}
use Rattle.core_profile.specs.LimitWalk.{walk_module}
use Rattle.core_profile.proofs.Same.{Same, first_of_same, none_of_same}
use Rattle.core_profile.proofs.WholeModule.{whole, def_count-defs}
use Rattle.core_profile.proofs.limits.limits_by.Goals as goal
use Rattle.first_fault.specs.FirstFault.{first_with}
use Rattle.first_fault.proofs.First.{none_kept, first_kept}

pub returns : goal.returns
returns c =
    let m = module_view c.args.tree.now in
    let kept = c.keep_exports-first.result in
    let s : Progress = record { first = kept; nodes = 0; site = c.len.result } in
    let before : kept ≡ first_with (first_with (first_with None (counted_in_text Integer m.wide))
    (counted_in_text Atom m.long)) (export_limits m.exports) =
    c.keep_exports-first.ensures
    ∙ ap (λ l. first_with c.keep_counted-first-2.result (export_limits l)) c.as_slice.ensures
    ∙ ap (λ o. first_with o (export_limits m.exports)) (c.keep_counted-first-2.ensures
    ∙ ap (λ o. first_with o (counted_in_text Atom m.long)) c.keep_counted-first.ensures) in
    let count : c.len.result ≡ def_count m.defs =
    c.len.ensures.value ∙ sym (def_count-defs c.args.tree.now.defs) in
    let v = whole m s before count in
    let end : c.definitions.result ≡ walk_module (capture_counts (module_sites m)) (def_count m.defs) 0 m.defs s =
    c.definitions.ensures
    ∙ ap (λ l. walk_module (counted c.args.counts) (length l) 0 (defs (map def_view l)) s) c.as_slice-2.ensures
    ∙ ap (λ n. walk_module (counted c.args.counts) n 0 m.defs s) (sym (def_count-defs c.args.tree.now.defs))
    ∙ ap (λ l. walk_module l (def_count m.defs) 0 m.defs s) c.requires.own in
    let e : c.definitions.result.first ≡ first_with None v.met = ap (λ r. r.first) end ∙ v.first in
    record {
      ok = IfOk-weaker c.answer.result (λ u. c.definitions.result.first ≡ None) (λ u. limit_faults m ≡ [])
          (λ u n. none_of_same (limit_faults m)
          (subst (λ l. Same l (limit_faults m)) (none_kept v.met c.definitions.result.first e n) v.same))
          c.answer.ensures.ok;
      refused = IfErr-weaker c.answer.result (λ f. c.definitions.result.first ≡ Some f) (IsFirstLimitFault m)
          (λ f n. first_of_same f v.same (first_kept v.met c.definitions.result.first f e n)) c.answer.ensures.refused;
    }
