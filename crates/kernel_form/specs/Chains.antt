-- What stands before the end of a chain, and the whole that it makes with an end.
use Rattle.std.specs.Prelude.{List, [], ◌∷◌, ◌++◌}
use Rattle.kernel_form.specs.declared.build.chains.LetHead.{LetHead}
use Rattle.kernel_form.specs.declared.build.chains.Node.{Node}
use Rattle.kernel_form.specs.declared.build.chains.Node.TheVariants as N
use Rattle.kernel_form.specs.declared.tree.KExpr.{KExpr}
use Rattle.kernel_form.specs.declared.tree.KExpr.TheVariants as E
use Rattle.kernel_form.specs.declared.tree.Tree.{Tree}
use Rattle.kernel_form.specs.declared.tree.Tree.TheVariants as T
use Rattle.kernel_form.specs.declared.tree.Case.{roll-Case}
use Rattle.kernel_form.specs.declared.tree.SegRow.{roll-SegRow}

-- the outermost let first
abbrev pub in_lets : List LetHead → KExpr → KExpr
in_lets [] e = e
in_lets (x ∷ xs) e = E.Let x.vars x.value (in_lets xs e)

-- a node with a tree in its open place
abbrev pub in_node : Node → Tree → Tree
in_node (N.Either k a) t = T.Either k a t
in_node (N.Switch x cs h xs b) t = T.Switch x (cs ++ roll-Case (record { shape = h; parts = xs; then = t }) ∷ []) b
in_node (N.Segments x rs ss b) t = T.Segments x (rs ++ roll-SegRow (record { segs = ss; then = t }) ∷ []) b
in_node (N.Step z b) t = T.Step z t b

-- a chain of nodes, the outermost first, round a tree
abbrev pub in_nodes : List Node → Tree → Tree
in_nodes [] t = t
in_nodes (x ∷ xs) t = in_node x (in_nodes xs t)
