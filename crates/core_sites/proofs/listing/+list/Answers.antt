use Rattle.std.proofs.Common.{◌≡◌, ◌∙◌, rules, ◌-◌, sym, ap, refl, subst, map, drop, take, length, OnOk}
use Rattle.core_form.specs.declared.tree.ExprForm.{the_lemmas}
use Rattle.core_form.specs.Core as Plain
use Rattle.core_form.specs.Scope.{names_of, bound_all}
use Rattle.core_form.specs.View.{view, def_view, pattern_view, defs, patterns}
use Rattle.core_sites.specs.Listing.{with_group, listed_inside}
use Rattle.core_sites.proofs.Lists.{inside_right}
use Rattle.core_sites.proofs.Outside.{inner_names, longer, left, inside_named, held_left}
use Rattle.core_sites.proofs.listing.+list.Goals as goal

pub list_under-leave-requires : goal.list_under-leave-requires
list_under-leave-requires n c =
    longer c.list_boxed.new.names c.len-outside.result (inner_names c.args.names.now (names_of c.args.vars.now))
    (c.in_ok-list_boxed.ensures.names ∙ c.in_ok-bind_vars.ensures.ok) c.len-outside.ensures.value

pub list_under-returns-clause-names : goal.list_under-returns-clause-names
list_under-returns-clause-names n c =
    c.leave.ensures
    ∙ left c.list_boxed.new.names c.len-outside.result (inner_names c.args.names.now (names_of c.args.vars.now))
    (c.in_ok-list_boxed.ensures.names ∙ c.in_ok-bind_vars.ensures.ok) c.len-outside.ensures.value

pub list_clause-leave-requires : goal.list_clause-leave-requires
list_clause-leave-requires n c =
    longer c.list_expr-2.new.names c.len-outside.result
    (inner_names c.args.names.now (bound_all (patterns (map pattern_view c.as_slice.result.now))))
    (c.in_ok-list_expr-2.ensures.names ∙ c.in_ok-list_expr.ensures.names ∙ c.in_ok-bind_patterns.ensures.ok)
    c.len-outside.ensures.value

pub list_clause-returns-clause-names : goal.list_clause-returns-clause-names
list_clause-returns-clause-names n c =
    c.leave.ensures
    ∙ left c.list_expr-2.new.names c.len-outside.result
    (inner_names c.args.names.now (bound_all (patterns (map pattern_view c.as_slice.result.now))))
    (c.in_ok-list_expr-2.ensures.names ∙ c.in_ok-list_expr.ensures.names ∙ c.in_ok-bind_patterns.ensures.ok)
    c.len-outside.ensures.value

pub list_fun-leave-requires : goal.list_fun-leave-requires
list_fun-leave-requires n c =
    longer c.list_boxed.new.names c.len-outside.result (inner_names c.args.names.now (names_of c.as_slice.result.now))
    (c.in_ok-list_boxed.ensures.names ∙ c.in_ok-bind_vars.ensures.ok)
    c.len-outside.ensures.value

pub list_fun-returns-clause-names : goal.list_fun-returns-clause-names
list_fun-returns-clause-names n c =
    c.leave.ensures
    ∙ left c.list_boxed.new.names c.len-outside.result (inner_names c.args.names.now (names_of c.as_slice.result.now))
    (c.in_ok-list_boxed.ensures.names ∙ c.in_ok-bind_vars.ensures.ok)
    c.len-outside.ensures.value

pub list_group-returns-clause-inside : goal.list_group-returns-clause-inside
list_group-returns-clause-inside n c =
    inside_named (defs (map def_view c.args.items.now)) c.args.names.now c.list_defs.new.names
    (c.in_ok-list_defs.ensures.names ∙ c.in_ok-bind_defs.ensures.ok)

pub list_expr-returns-in_ok-list_group-in-Letrec-clause-names :
    goal.list_expr-returns-in_ok-list_group-in-Letrec-clause-names
list_expr-returns-in_ok-list_group-in-Letrec-clause-names n c =
    subst (λ g. OnOk c.list_rest.result (c.list_rest.new.names ≡ g))
    (ap (λ k. drop (length c.list_group.new.names - k) c.list_group.new.names) c.len-outside.ensures.value
    ∙ c.in_ok-list_group-in-Letrec.ensures.inside.left)
    c.list_rest.ensures.names

pub list_expr-returns-in_ok-list_group-in-Letrec-clause-held :
    goal.list_expr-returns-in_ok-list_group-in-Letrec-clause-held
list_expr-returns-in_ok-list_group-in-Letrec-clause-held n c =
    subst (λ st. OnOk c.list_rest.result (c.list_rest.new.held ≡ st))
    (ap (λ k. take k c.list_group.new.held) c.len-held_outside.ensures.value
    ∙ c.in_ok-list_group-in-Letrec.ensures.behind)
    c.list_rest.ensures.held

pub list_group-returns-clause-behind : goal.list_group-returns-clause-behind
list_group-returns-clause-behind n c =
    held_left c.args.held.now c.list_defs.new.held c.len-outside.result (length c.args.held.now)
    (defs (map def_view c.args.items.now)) c.as_slice-2.result.now
    (c.in_ok-list_defs.ensures.held ∙ c.in_ok-hold.ensures
    ∙ ap (λ st. with_group (defs (map def_view c.args.items.now)) c.as_slice-2.result.now st) c.in_ok-pad.ensures)
    refl

pub list_inside-returns-clause-state : goal.list_inside-returns-clause-state
list_inside-returns-clause-state n c =
    let split : def_view c.args.def.now
    ≡ Plain.def c.args.def.now.place c.args.def.now.key (view c.args.def.now.fun)
    = search (rules, the_lemmas) in
    subst (λ t. OnOk c.list_right.result (c.list_right.new.state ≡ t))
    (sym (ap (λ d. listed_inside d c.args.names.now c.args.held.now c.args.state.now) split
    ∙ inside_right c.args.def.now.place c.args.def.now.key (view c.args.def.now.fun) c.args.names.now c.args.held.now
    c.args.state.now))
    c.list_right.ensures.state

pub list_right-returns-clause-names : goal.list_right-returns-clause-names
list_right-returns-clause-names n c = c.list_expr.ensures.names

pub list_right-returns-clause-held : goal.list_right-returns-clause-held
list_right-returns-clause-held n c = c.list_expr.ensures.held
