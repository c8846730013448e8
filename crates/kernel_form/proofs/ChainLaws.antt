-- A chain goes on behind its last part.
use Rattle.std.proofs.Common.{◌≡◌, List, [], ◌∷◌, ◌++◌, refl, ap}
use Rattle.kernel_form.specs.declared.build.chains.LetHead.{LetHead}
use Rattle.kernel_form.specs.declared.build.chains.Node.{Node}
use Rattle.kernel_form.specs.declared.tree.KExpr.{KExpr}
use Rattle.kernel_form.specs.declared.tree.KExpr.TheVariants as E
use Rattle.kernel_form.specs.declared.tree.Tree.{Tree}
use Rattle.kernel_form.specs.Chains.{in_lets, in_node, in_nodes}

pub in_lets_append : (xs : List LetHead) (x : LetHead) (e : KExpr)
    → in_lets (xs ++ x ∷ []) e ≡ in_lets xs (E.Let x.vars x.value e)
in_lets_append [] x e = refl
in_lets_append (y ∷ ys) x e = ap (E.Let y.vars y.value) (in_lets_append ys x e)

pub in_nodes_append : (xs : List Node) (x : Node) (t : Tree) → in_nodes (xs ++ x ∷ []) t ≡ in_nodes xs (in_node x t)
in_nodes_append [] x t = refl
in_nodes_append (y ∷ ys) x t = ap (in_node y) (in_nodes_append ys x t)
