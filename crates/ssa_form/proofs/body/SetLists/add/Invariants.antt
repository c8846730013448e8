use Rattle.std.proofs.Common.{◌≡◌, ◌++◌, length}
use Rattle.ssa_form.specs.SetOrder.{nodes_from}
use Rattle.ssa_form.proofs.body.SetLists.add.Given as goal

abbrev pub invariant-loop-set : goal.invariant-loop-set
invariant-loop-set l = record {
  can_next : (goal.iterator-loop-set).can_next l.set-iterator;
  is_finite : (goal.iterator-loop-set).is_finite l.set-iterator;
  sets : l.self.sets ≡ l.initial.self.sets ++ l.yielded;
  chains : l.self.chains ≡ l.initial.self.chains;
  nodes : l.nodes ≡ nodes_from (length l.initial.self.sets) l.yielded;
}
