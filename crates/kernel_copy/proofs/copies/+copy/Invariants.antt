use Rattle.std.proofs.Common.{◌≡◌, ◌≤◌, take}
use Rattle.std.specs.Prelude.{IfOk}
use Rattle.kernel_form.specs.declared.tree.KExpr.{size-KExpr}
use Rattle.kernel_form.specs.declared.tree.Tree.{size-Tree}
use Rattle.kernel_form.specs.Chains.{in_lets, in_nodes}
use Rattle.kernel_copy.proofs.copies.+copy.Given as goal

abbrev pub invariant-copy_expr-loop-rest : goal.invariant-copy_expr-loop-rest
invariant-copy_expr-loop-rest l =
    IfOk l.lets (λ xs. in_lets xs l.rest ≡ l.fn.expr) × (size-KExpr l.rest ≤ size-KExpr l.fn.expr)

abbrev pub invariant-copy_tree-loop-rest : goal.invariant-copy_tree-loop-rest
invariant-copy_tree-loop-rest l =
    IfOk l.passed (λ xs. in_nodes xs l.rest ≡ l.fn.tree) × (size-Tree l.rest ≤ size-Tree l.fn.tree)

abbrev pub invariant-copy_cases-loop-case : goal.invariant-copy_cases-loop-case
invariant-copy_cases-loop-case l = IfOk l.copy (λ c. c ≡ take l.case-index l.cases)

abbrev pub invariant-copy_rows-loop-row : goal.invariant-copy_rows-loop-row
invariant-copy_rows-loop-row l = IfOk l.copy (λ c. c ≡ take l.row-index l.rows)
