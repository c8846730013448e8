use Rattle.std.proofs.Common.{rules, arith, length, ◌<◌, ◌∙◌, ap, ap₂}
use Rattle.std.proofs.lemmas.Grind.{common_steps}
use Rattle.std.specs.Ordering.{nat_cmp}
use Rattle.erl_term.specs.TermOrder.{compare, rank}
use Rattle.erl_term.specs.View.{view}
use Rattle.erl_term.specs.WellFormed.{IsNormal}
use Rattle.erl_term.specs.declared.term.Term.{the_lemmas}
use Rattle.erl_term.proofs.Comparing.{lists_at, values_step}
use Rattle.erl_term.proofs.order.+order.Goals as goal
use Rattle.erl_term.proofs.Forms.{tail_normal}

pub compare_same_kind-compare-requires-in-Equal-cmp :
    goal.compare_same_kind-compare-requires-in-Equal-cmp
compare_same_kind-compare-requires-in-Equal-cmp t c =
    let n : IsNormal c.get.result.now = tail_normal _ _ _ _ c.in-List-List.is-0 c.get.ensures c.requires.first in
    let m : IsNormal c.get-in-Equal-cmp.result.now =
    tail_normal _ _ _ _ c.in-List-List.is-1 c.get-in-Equal-cmp.ensures c.requires.second in
    search (rules, the_lemmas)

pub compare_same_kind-rank-requires : goal.compare_same_kind-rank-requires
compare_same_kind-rank-requires t c = tail_normal _ _ _ _ c.in-List-List.is-1 c.get-in-Greater.ensures c.requires.second

pub compare_same_kind-returns-in-Equal-cmp : goal.compare_same_kind-returns-in-Equal-cmp
compare_same_kind-returns-in-Equal-cmp t c =
    lists_at _ _ _ _ _ _ _ _ _ _ c.in-List-List.is-0 c.in-List-List.is-1 c.as_slice-xs.ensures c.as_slice-ys.ensures
    c.in-Equal-compare_common.ensures
    c.in-Equal-cmp.ensures (c.compare-in-Equal-cmp.ensures
    ∙ ap₂ (λ x y. compare (view x) (view y)) c.get.ensures c.get-in-Equal-cmp.ensures)

pub compare_same_kind-returns-in-Greater : goal.compare_same_kind-returns-in-Greater
compare_same_kind-returns-in-Greater t c =
    lists_at _ _ _ _ _ _ _ _ _ _ c.in-List-List.is-0 c.in-List-List.is-1 c.as_slice-xs.ensures c.as_slice-ys.ensures
    c.in-Equal-compare_common.ensures
    c.in-Greater.ensures (c.cmp-in-Greater.ensures
    ∙ ap (nat_cmp 10) (c.rank.ensures ∙ ap (λ x. rank (view x)) c.get-in-Greater.ensures))

pub compare_same_kind-returns-in-Less : goal.compare_same_kind-returns-in-Less
compare_same_kind-returns-in-Less t c =
    lists_at _ _ _ _ _ _ _ _ _ _ c.in-List-List.is-0 c.in-List-List.is-1 c.as_slice-xs.ensures c.as_slice-ys.ensures
    c.in-Equal-compare_common.ensures
    c.in-Less.ensures (c.cmp-in-Less.ensures
    ∙ ap (λ k. nat_cmp k 10) (c.rank-in-Less.ensures ∙ ap (λ x. rank (view x)) c.get-in-Less.ensures))

pub compare_values-loop-i-preserved : goal.compare_values-loop-i-preserved
compare_values-loop-i-preserved t c = record {
  same =
      values_step _ _ _ _ _ c.loop-i-test.true (let b : c.loop-i.i < length c.args.qs.now = omega arith in b)
      c.in-Equal.ensures ∙ c.loop-i.invariant.same;
  first = grind (arith, common_steps);
  second = grind (arith, common_steps);
}
