use Rattle.std.proofs.Common.{rules, ◌≡◌, ◌&&◌, true, codes, sym, ap, ◌∙◌, arith}
use Rattle.std.proofs.lemmas.Bool.{not-false}
use Rattle.std.proofs.lemmas.Result.{IfOk-weaker}
use Rattle.std.specs.Prelude.{chars}
use Rattle.erl_base.specs.Names.{same_name}
use Rattle.bif_table.specs.Builtins.{never_returns, raises_always}
use Rattle.core_form.specs.View.{view}
use Rattle.core_form.specs.Walks.{literal_name}
use Rattle.core_scope.specs.ScopeFaults.{is_guard_function}
use Rattle.core_scope.specs.declared.words.Called.{Called}
use Rattle.core_scope.proofs.words.callee_of.Goals as goal

pub returns-clause-returns : goal.returns-clause-returns
returns-clause-returns c =
    let r : c.is_word.result ≡ true = first_of (search (rules, not-false), grind arith) in
    let e : true ≡ same_name (literal_name (view c.args.home.now)) (codes "erlang") =
    sym r ∙ c.is_word.ensures ∙ ap (λ n. same_name n (codes "erlang")) c.literal_name.ensures in
    let n = c.literal_name-2.ensures in
    IfOk-weaker c.erlang_callee.result
    (λ (x : Called). x.never_returns
    ≡ never_returns (codes "erlang") (chars c.literal_name-2.result.now) c.args.count)
    (λ (x : Called). x.never_returns
    ≡ never_returns (literal_name (view c.args.home.now)) (literal_name (view c.args.function.now)) c.args.count)
    (λ x p. p ∙ (λ i. e i && raises_always (n i) c.args.count)) c.erlang_callee.ensures.returns

pub returns-clause-guards : goal.returns-clause-guards
returns-clause-guards c =
    let r : c.is_word.result ≡ true = first_of (search (rules, not-false), grind arith) in
    let e : true ≡ same_name (literal_name (view c.args.home.now)) (codes "erlang") =
    sym r ∙ c.is_word.ensures ∙ ap (λ n. same_name n (codes "erlang")) c.literal_name.ensures in
    let n = c.literal_name-2.ensures in
    IfOk-weaker c.erlang_callee.result
    (λ (x : Called). x.in_guards ≡ is_guard_function (chars c.literal_name-2.result.now) c.args.count)
    (λ (x : Called). x.in_guards ≡ (same_name (literal_name (view c.args.home.now)) (codes "erlang")
    && is_guard_function (literal_name (view c.args.function.now)) c.args.count))
    (λ x p. p ∙ (λ i. e i && is_guard_function (n i) c.args.count)) c.erlang_callee.ensures.guards
