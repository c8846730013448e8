use Rattle.std.proofs.Common.{rules, ◌≡◌, ◌-◌, ◌≤◌, ◌&&◌, not, length, drop, map, sym, ap, ap₂, ◌∙◌, arith}
use Rattle.std.proofs.lemmas.Result.{on_ok_weaker}
use Rattle.core_form.specs.declared.tree.ExprForm.{the_lemmas}
use Rattle.core_form.specs.Core.{call}
use Rattle.core_form.specs.View.{view, def_view, clause_view, exprs, defs}
use Rattle.core_scope.specs.declared.judged.Wanted.TheVariants.{Exactly}
use Rattle.core_scope.specs.Degrees.{one_unless}
use Rattle.core_scope.specs.ScopeFaults.{is_guard_form}
use Rattle.core_scope.specs.ScopeWalk.{judge, judge_part, judge_elements, leaf, with_first, unguarded}
use Rattle.core_scope.proofs.Growth.{names_fit, names_left, defs_fit, defs_left, clause_fits, clause_left}
use Rattle.core_scope.proofs.walk.+walk.Goals as goal

pub in_scope-leave-requires : goal.in_scope-leave-requires
in_scope-leave-requires t c =
    let e = c.len-base.ensures.value in
    let k = ap length (c.in_ok-after.ensures.names ∙ c.in_ok-first.ensures.names) in
    let f = names_fit c.args.vars.now c.args.names.now in
    omega (arith, e, k, f)

pub in_scope-returns-clause-names : goal.in_scope-returns-clause-names
in_scope-returns-clause-names t c =
    c.leave.ensures ∙ ap₂ (λ n l. drop (length l - n) l) c.len-base.ensures.value
    (c.in_ok-after.ensures.names ∙ c.in_ok-first.ensures.names)
    ∙ names_left c.args.vars.now c.args.names.now

pub in_clause-leave-requires : goal.in_clause-leave-requires
in_clause-leave-requires t c =
    let e = c.len-base.ensures.value in
    let k = ap length (c.in_ok-after.ensures.names ∙ c.in_ok-inner.ensures.names ∙ c.in_ok-first.ensures.names) in
    let f = clause_fits (clause_view c.args.clause.now) c.args.names.now in
    omega (arith, e, k, f)

pub in_clause-returns-clause-names : goal.in_clause-returns-clause-names
in_clause-returns-clause-names t c =
    c.leave.ensures ∙ ap₂ (λ n l. drop (length l - n) l) c.len-base.ensures.value
    (c.in_ok-after.ensures.names ∙ c.in_ok-inner.ensures.names ∙ c.in_ok-first.ensures.names)
    ∙ clause_left (clause_view c.args.clause.now) c.args.names.now

pub in_expr-in_left-requires : goal.in_expr-in_left-requires
in_expr-in_left-requires t c =
    let e = c.len-base.ensures.value in
    let k = ap length (c.in_ok-first-in-Letrec-2.ensures.names ∙ c.in_ok-first-in-Letrec.ensures.names) in
    let f = defs_fit (defs (map def_view c.as_slice-in-Letrec.result.now)) c.args.names.now in
    let l : c.len-base.result ≤ length c.in_defs.new.names = omega (arith, e, k, f) in
    search (rules, the_lemmas)

pub in_expr-returns-in_ok-first-in-Letrec-2-clause-names : goal.in_expr-returns-in_ok-first-in-Letrec-2-clause-names
in_expr-returns-in_ok-first-in-Letrec-2-clause-names t c =
    on_ok_weaker {P = c.in_left.new.names ≡ drop (length c.in_defs.new.names - c.len-base.result) c.in_defs.new.names}
    c.in_left.result
    (λ e. e ∙ ap₂ (λ n l. drop (length l - n) l) c.len-base.ensures.value
    (c.in_ok-first-in-Letrec-2.ensures.names ∙ c.in_ok-first-in-Letrec.ensures.names)
    ∙ defs_left (defs (map def_view c.as_slice-in-Letrec.result.now)) c.args.names.now)
    c.in_left.ensures.names

pub in_expr-returns-in_ok-first-in-Call-3-clause-judged : goal.in_expr-returns-in_ok-first-in-Call-3-clause-judged
in_expr-returns-in_ok-first-in-Call-3-clause-judged t c =
    let m = view c.in-Call.home in
    let f = view c.in-Call.function in
    let es = exprs (map view c.in-Call.arguments) in
    let g = c.args.names.now in
    let b = c.args.guard in
    let p = c.args.expr.now.place in
    let o = unguarded (b && not (is_guard_form (call p m f es))) p c.args.judged.first in
    let v : view c.args.expr.now ≡ call p m f es = search (rules, the_lemmas) in
    let a : c.keep_unguarded-first-in-Call.result ≡ o =
    c.keep_unguarded-first-in-Call.ensures
    ∙ ap (λ k. unguarded (b && not k) p c.args.judged.first) c.in_ok-called-in-Call.ensures.guards in
    let n1 = c.in_ok-first-in-Call.ensures.names in
    let n2 = c.in_ok-first-in-Call-2.ensures.names ∙ n1 in
    let x1 : c.in_ok-first-in-Call.first ≡ judge_part (Exactly 1) m g b o =
    c.in_ok-first-in-Call.ensures.first ∙ ap (λ r. judge_part (Exactly 1) m g b r) a in
    let x2 : c.in_ok-first-in-Call-2.first ≡ judge_part (Exactly 1) f g b (judge_part (Exactly 1) m g b o) =
    c.in_ok-first-in-Call-2.ensures.first ∙ ap₂ (λ z r. judge_part (Exactly 1) f z b r) n1 x1 in
    let x3 : c.in_ok-first-in-Call-3.first
    ≡ judge_elements es g b (judge_part (Exactly 1) f g b (judge_part (Exactly 1) m g b o)) =
    c.in_ok-first-in-Call-3.ensures.first
    ∙ ap₂ (λ z r. judge_elements es z b r) n2 x2 in
    let w = c.with_first-in-Call.ensures ∙ ap (λ r. with_first r c.args.judged) x3 in
    let d = c.one_unless.ensures ∙ ap one_unless c.in_ok-called-in-Call.ensures.returns in
    c.leaf-in-Call.ensures ∙ ap₂ (λ k y. leaf p k y) d w ∙ ap (λ e. judge e g b c.args.judged) (sym v)
