-- The expression or the tree that parts are of.
use Rattle.kernel_form.specs.declared.apart.ExprParts.{ExprParts}
use Rattle.kernel_form.specs.declared.apart.ExprParts.TheVariants as Part
use Rattle.kernel_form.specs.declared.apart.TreeParts.{TreeParts}
use Rattle.kernel_form.specs.declared.apart.TreeParts.TheVariants as Piece
use Rattle.kernel_form.specs.declared.tree.KExpr.{KExpr}
use Rattle.kernel_form.specs.declared.tree.KExpr.TheVariants as E
use Rattle.kernel_form.specs.declared.tree.Tree.{Tree}
use Rattle.kernel_form.specs.declared.tree.Tree.TheVariants as T

-- the expression of parts
abbrev pub expr_of : ExprParts → KExpr
expr_of (Part.Values vs) = E.Values vs
expr_of (Part.Simple s) = E.Simple s
expr_of (Part.Let xs a b) = E.Let xs a b
expr_of (Part.Match t) = E.Match t
expr_of (Part.Try a xs b ys c) = E.Try a xs b ys c
expr_of (Part.Catch a) = E.Catch a
expr_of (Part.Receive n x t v b) = E.Receive n x t v b

-- the tree of parts
abbrev pub tree_of : TreeParts → Tree
tree_of (Piece.Body e) = T.Body e
tree_of (Piece.Fall k) = T.Fall k
tree_of (Piece.Either k a b) = T.Either k a b
tree_of (Piece.Switch x cs t) = T.Switch x cs t
tree_of (Piece.Segments x rs t) = T.Segments x rs t
tree_of (Piece.Step z a b) = T.Step z a b
tree_of (Piece.Guarded g a b) = T.Guarded g a b
