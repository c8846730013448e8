use Rattle.std.proofs.Common.{◌≡◌, ◌&&◌, map, codes, sym, ◌∙◌}
use Rattle.std.proofs.lemmas.Result.{IfOk-weaker}
use Rattle.erl_base.specs.Names.{same_name}
use Rattle.bif_table.specs.Builtins.{never_returns}
use Rattle.core_form.specs.View.{view, exprs}
use Rattle.core_form.specs.Walks.{literal_name, expr_count}
use Rattle.core_scope.specs.ScopeFaults.{is_guard_function}
use Rattle.core_scope.specs.declared.words.Called.{Called}
use Rattle.core_scope.proofs.Counted.{exprs_counted}
use Rattle.core_scope.proofs.words.callee.Goals as goal

pub returns-clause-returns : goal.returns-clause-returns
returns-clause-returns c =
    let n = c.len.ensures.value ∙ sym (exprs_counted c.args.arguments.now) in
    IfOk-weaker c.callee_of.result
    (λ (x : Called). x.never_returns
    ≡ never_returns (literal_name (view c.get.result.now)) (literal_name (view c.get-2.result.now)) c.len.result)
    (λ (x : Called). x.never_returns ≡ never_returns (literal_name (view c.args.home.now))
    (literal_name (view c.args.function.now)) (expr_count (exprs (map view c.args.arguments.now))))
    (λ x e. e ∙ (λ i. never_returns (literal_name (view (c.get.ensures i))) (literal_name (view (c.get-2.ensures i)))
    (n i)))
    c.callee_of.ensures.returns

pub returns-clause-guards : goal.returns-clause-guards
returns-clause-guards c =
    let n = c.len.ensures.value ∙ sym (exprs_counted c.args.arguments.now) in
    IfOk-weaker c.callee_of.result
    (λ (x : Called). x.in_guards ≡ (same_name (literal_name (view c.get.result.now)) (codes "erlang")
    && is_guard_function (literal_name (view c.get-2.result.now)) c.len.result))
    (λ (x : Called). x.in_guards ≡ (same_name (literal_name (view c.args.home.now)) (codes "erlang")
    && is_guard_function (literal_name (view c.args.function.now))
    (expr_count (exprs (map view c.args.arguments.now)))))
    (λ x e. e ∙ (λ i. same_name (literal_name (view (c.get.ensures i))) (codes "erlang")
    && is_guard_function (literal_name (view (c.get-2.ensures i))) (n i)))
    c.callee_of.ensures.guards
