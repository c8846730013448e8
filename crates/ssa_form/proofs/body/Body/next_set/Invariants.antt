use Rattle.std.proofs.Common.{◌≡◌, drop, if◌then◌else◌}
use Rattle.ssa_form.specs.SetOrder.{nodes_of, first_of, next_after}
use Rattle.ssa_form.proofs.body.Body.next_set.Given as goal

abbrev pub invariant-loop-node : goal.invariant-loop-node
invariant-loop-node l =
    (if l.found then first_of (drop l.node-index l.node-items) else next_after l.n.0 (drop l.node-index l.node-items))
    ≡ next_after l.n.0 (nodes_of l.fn.self l.fn.b.0)
