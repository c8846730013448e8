-- Items are counted on the tree as they are in the code.
use Rattle.std.proofs.Common.{◌≡◌, List, [], ◌∷◌, length, suc, map, refl, ap}
use Rattle.core_form.specs.declared.tree.Expr.{Expr}
use Rattle.core_form.specs.declared.tree.Pattern.{Pattern}
use Rattle.core_form.specs.View.{view, exprs, pattern_view, patterns}
use Rattle.core_form.specs.Walks.{expr_count}
use Rattle.core_scope.specs.ScopeFaults.{pattern_count}

pub exprs_counted : (es : List Expr) → expr_count (exprs (map view es)) ≡ length es
exprs_counted [] = refl
exprs_counted (e ∷ es) = ap suc (exprs_counted es)

pub patterns_counted : (qs : List Pattern) → pattern_count (patterns (map pattern_view qs)) ≡ length qs
patterns_counted [] = refl
patterns_counted (q ∷ qs) = ap suc (patterns_counted qs)
