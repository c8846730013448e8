use Rattle.std.proofs.Common.{rules, ◌∙◌}
use Rattle.ssa_form.proofs.Numbered.{next_sets, next_nodes, length_of}
use Rattle.ssa_form.proofs.body.SetLists.add.Goals as goal

pub loop-set-preserved : goal.loop-set-preserved
loop-set-preserved c = record {
  can_next = search rules;
  is_finite = search rules;
  sets = next_sets _ _ _ _ _ c.in_ok-push-2.ensures.ok c.loop-set.invariant.sets;
  chains = search rules;
  nodes = next_nodes _ _ _ _ _ c.in-Some.set c.in_ok-push.ensures.ok c.loop-set.invariant.nodes
      (c.len-node.ensures.value ∙ length_of _ _ _ c.loop-set.invariant.sets);
}
