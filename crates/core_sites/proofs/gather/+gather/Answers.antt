use Rattle.std.proofs.Common.{rules, ◌≡◌, ◌∙◌, ◌+◌, ◌-◌, ◌∷◌, [], sym, ap, subst, drop, length, OnOk}
use Rattle.core_form.specs.declared.tree.ExprForm.{the_lemmas}
use Rattle.core_form.specs.Scope.{with_names, names_of, bound, bound_all, bound_segs}
use Rattle.core_form.specs.Core as Plain
use Rattle.core_form.specs.View.{view, def_view, pattern_view, patterns, segs, defs}
use Rattle.std.proofs.Common.{map}
use Rattle.core_names.specs.Readings.{seg_view}
use Rattle.core_sites.specs.Gathering.{walked_def, walked_segs}
use Rattle.core_sites.proofs.Walks.{def_right}
use Rattle.core_sites.proofs.Outside.{inner_names, longer, left, next, acted, inside_named, with_names_append}
use Rattle.core_sites.proofs.gather.+gather.Goals as goal

pub gather_under-leave-requires : goal.gather_under-leave-requires
gather_under-leave-requires n c =
    longer c.gather_boxed.new.names c.len-outside.result (inner_names c.args.names.now (names_of c.args.vars.now))
    (c.in_ok-gather_boxed.ensures.names ∙ c.in_ok-bind_vars.ensures.ok) c.len-outside.ensures.value

pub gather_under-returns-clause-names : goal.gather_under-returns-clause-names
gather_under-returns-clause-names n c =
    c.leave.ensures
    ∙ left c.gather_boxed.new.names c.len-outside.result (inner_names c.args.names.now (names_of c.args.vars.now))
    (c.in_ok-gather_boxed.ensures.names ∙ c.in_ok-bind_vars.ensures.ok) c.len-outside.ensures.value

pub gather_binary-leave-requires : goal.gather_binary-leave-requires
gather_binary-leave-requires n c =
    longer c.gather_segs.new.names c.len-outside.result
    (inner_names c.args.names.now (bound_segs (segs (map seg_view c.args.items.now))))
    c.in_ok-gather_segs.ensures.names c.len-outside.ensures.value

pub gather_binary-returns-clause-names : goal.gather_binary-returns-clause-names
gather_binary-returns-clause-names n c =
    c.leave.ensures
    ∙ left c.gather_segs.new.names c.len-outside.result
    (inner_names c.args.names.now (bound_segs (segs (map seg_view c.args.items.now))))
    c.in_ok-gather_segs.ensures.names c.len-outside.ensures.value

pub gather_clause-leave-requires : goal.gather_clause-leave-requires
gather_clause-leave-requires n c =
    longer c.gather_expr-2.new.names c.len-outside.result
    (inner_names c.gather_row.new.names (bound_all (patterns (map pattern_view c.as_slice-patterns.result.now))))
    (c.in_ok-gather_expr-2.ensures.names ∙ c.in_ok-gather_expr.ensures.names ∙ c.in_ok-bind_patterns.ensures.ok)
    c.len-outside.ensures.value

pub gather_clause-returns-clause-names : goal.gather_clause-returns-clause-names
gather_clause-returns-clause-names n c =
    c.leave.ensures
    ∙ left c.gather_expr-2.new.names c.len-outside.result
    (inner_names c.gather_row.new.names (bound_all (patterns (map pattern_view c.as_slice-patterns.result.now))))
    (c.in_ok-gather_expr-2.ensures.names ∙ c.in_ok-gather_expr.ensures.names ∙ c.in_ok-bind_patterns.ensures.ok)
    c.len-outside.ensures.value
    ∙ c.in_ok-gather_row.ensures.names

pub gather_group-returns-clause-inside : goal.gather_group-returns-clause-inside
gather_group-returns-clause-inside n c =
    inside_named (defs (map def_view c.args.items.now)) c.args.names.now c.gather_defs.new.names
    (c.in_ok-gather_defs.ensures.names ∙ c.in_ok-bind_defs.ensures.ok)

pub gather_expr-returns-in_ok-gather_group-in-Letrec-clause-names :
    goal.gather_expr-returns-in_ok-gather_group-in-Letrec-clause-names
gather_expr-returns-in_ok-gather_group-in-Letrec-clause-names n c =
    subst (λ g. OnOk c.gather_rest.result (c.gather_rest.new.names ≡ g))
    (ap (λ k. drop (length c.gather_group.new.names - k) c.gather_group.new.names) c.len-outside.ensures.value
    ∙ c.in_ok-gather_group-in-Letrec.ensures.inside.left)
    c.gather_rest.ensures.names

pub gather_def-returns-clause-state : goal.gather_def-returns-clause-state
gather_def-returns-clause-state n c =
    let split : def_view c.args.def.now
    ≡ Plain.def c.args.def.now.place c.args.def.now.key (view c.args.def.now.fun)
    = search (rules, the_lemmas) in
    subst (λ t. OnOk c.gather_right.result (c.gather_right.new.state ≡ t))
    (sym (ap (λ d. walked_def d c.args.names.now c.args.limit c.args.state.now) split
    ∙ def_right c.args.def.now.place c.args.def.now.key (view c.args.def.now.fun) c.args.names.now c.args.limit
    c.args.state.now))
    c.gather_right.ensures.state

pub gather_right-returns-clause-names : goal.gather_right-returns-clause-names
gather_right-returns-clause-names n c = c.gather_expr.ensures.names

pub gather_segs-loop-item-preserved : goal.gather_segs-loop-item-preserved
gather_segs-loop-item-preserved n c =
    let one : walked_segs (segs (map seg_view (drop (c.loop-item.item-index + 1) c.args.items.now)))
    (with_names c.loop-item.names (bound (pattern_view c.item-item.result.value))) c.args.limit
    (walked_segs (segs (seg_view c.item-item.result ∷ [])) c.loop-item.names c.args.limit c.loop-item.state)
    ≡ walked_segs
    (segs (map seg_view (c.item-item.result ∷ drop (c.loop-item.item-index + 1) c.args.items.now)))
    c.loop-item.names c.args.limit c.loop-item.state
    = search (rules, the_lemmas) in
    record {
      names =
          acted with_names with_names_append (λ xs. bound_segs (segs (map seg_view xs))) c.loop-item.names
          c.gather_seg.new.names c.args.items.now c.loop-item.item-index c.item-item.result
          (bound (pattern_view c.item-item.result.value)) c.item-item.is c.loop-item-test.true
          c.in_ok-gather_seg.ensures.names (search (rules, the_lemmas))
          ∙ c.loop-item.invariant.names;
      state =
          (λ i. walked_segs (segs (map seg_view (drop (c.loop-item.item-index + 1) c.args.items.now)))
          (c.in_ok-gather_seg.ensures.names i) c.args.limit (c.in_ok-gather_seg.ensures.state i))
          ∙ one
          ∙ ap (λ xs. walked_segs (segs (map seg_view xs)) c.loop-item.names c.args.limit c.loop-item.state)
          (sym (next c.args.items.now c.loop-item.item-index c.item-item.result c.item-item.is c.loop-item-test.true))
          ∙ c.loop-item.invariant.state;
    }
