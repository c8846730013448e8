use Rattle.std.proofs.Common.{rules, ◌≡◌, ◌++◌, ◌∙◌, sym, ap, subst, map, OnOk}
use Rattle.core_form.specs.declared.tree.ExprForm.{the_lemmas}
use Rattle.core_form.specs.Scope.{with_names, bound, bound_all, bound_keys, bound_segs}
use Rattle.core_form.specs.View.{pattern_view, patterns, keys, segs}
use Rattle.core_names.specs.Readings.{key_view, seg_view}
use Rattle.core_sites.proofs.Outside.{acted, with_names_append}
use Rattle.core_sites.proofs.bind.+bind.Goals as goal

pub bind_pattern-returns-in_ok-bind_patterns-in-List : goal.bind_pattern-returns-in_ok-bind_patterns-in-List
bind_pattern-returns-in_ok-bind_patterns-in-List n c =
    let split : bound (pattern_view c.args.pattern.now)
    ≡ bound_all (patterns (map pattern_view c.as_slice.result.now)) ++ bound (pattern_view c.in-List.tail)
    = search (rules, the_lemmas) in
    record {
      ok = subst (λ g. OnOk c.bind_boxed-in-List.result (c.bind_boxed-in-List.new.names ≡ g))
          (ap (λ g. with_names g (bound (pattern_view c.in-List.tail))) c.in_ok-bind_patterns-in-List.ensures.ok
          ∙ sym (with_names_append c.args.names.now (bound_all (patterns (map pattern_view c.as_slice.result.now)))
          (bound (pattern_view c.in-List.tail)))
          ∙ ap (λ xs. with_names c.args.names.now xs) (sym split))
          c.bind_boxed-in-List.ensures.ok;
    }

pub bind_patterns-loop-item-preserved : goal.bind_patterns-loop-item-preserved
bind_patterns-loop-item-preserved n c =
    acted with_names with_names_append (λ xs. bound_all (patterns (map pattern_view xs))) c.loop-item.names
    c.bind_pattern.new.names c.args.items.now c.loop-item.item-index c.item-item.result
    (bound (pattern_view c.item-item.result)) c.item-item.is c.loop-item-test.true c.in_ok-bind_pattern.ensures.ok
    (search (rules, the_lemmas))
    ∙ c.loop-item.invariant

pub bind_keys-loop-item-preserved : goal.bind_keys-loop-item-preserved
bind_keys-loop-item-preserved n c =
    acted with_names with_names_append (λ xs. bound_keys (keys (map key_view xs))) c.loop-item.names
    c.bind_key.new.names c.args.items.now c.loop-item.item-index c.item-item.result
    (bound (pattern_view c.item-item.result.pattern)) c.item-item.is c.loop-item-test.true
    c.in_ok-bind_key.ensures.ok (search (rules, the_lemmas))
    ∙ c.loop-item.invariant

pub bind_segs-loop-item-preserved : goal.bind_segs-loop-item-preserved
bind_segs-loop-item-preserved n c =
    acted with_names with_names_append (λ xs. bound_segs (segs (map seg_view xs))) c.loop-item.names
    c.bind_seg.new.names c.args.items.now c.loop-item.item-index c.item-item.result
    (bound (pattern_view c.item-item.result.value)) c.item-item.is c.loop-item-test.true c.in_ok-bind_seg.ensures.ok
    (search (rules, the_lemmas))
    ∙ c.loop-item.invariant
