use Rattle.std.proofs.Common.{◌≡◌, take}
use Rattle.ssa_form.proofs.block.copy_edges.Given as goal

abbrev pub invariant-loop-edge : goal.invariant-loop-edge
invariant-loop-edge l = l.copy ≡ take l.edge-index l.edges
