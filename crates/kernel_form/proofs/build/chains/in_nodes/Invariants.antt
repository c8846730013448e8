use Rattle.std.proofs.Common.{◌≡◌, length}
use Rattle.kernel_form.specs.Chains.{in_nodes}
use Rattle.kernel_form.proofs.build.chains.in_nodes.Given as goal

abbrev pub invariant-loop-node : goal.invariant-loop-node
invariant-loop-node l = in_nodes l.nodes l.tree ≡ in_nodes l.fn.nodes l.fn.tree

abbrev pub decreases-loop-node : goal.decreases-loop-node
decreases-loop-node l = length l.nodes
