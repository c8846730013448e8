use Rattle.std.proofs.Common.{◌≤◌}
use Rattle.kernel_form.specs.declared.tree.KExpr.{size-KExpr}
use Rattle.kernel_form.specs.declared.tree.Tree.{size-Tree}
use Rattle.kernel_form.proofs.+drop.Given as goal

abbrev pub invariant-tree::KExpr::drop-loop-self : goal.invariant-tree::KExpr::drop-loop-self
invariant-tree::KExpr::drop-loop-self l = size-KExpr l.self ≤ size-KExpr l.fn.self

abbrev pub invariant-tree::Tree::drop-loop-self : goal.invariant-tree::Tree::drop-loop-self
invariant-tree::Tree::drop-loop-self l = size-Tree l.self ≤ size-Tree l.fn.self
