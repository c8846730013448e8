-- Expressions are counted on the tree as they are in the code, and captures on sites as they are listed.
use Rattle.std.proofs.Common.{◌≡◌, List, [], ◌∷◌, length, suc, map, refl, ap, ap₂}
use Rattle.core_form.specs.Scope.{Use}
use Rattle.core_form.specs.Sites as Plain
use Rattle.core_form.specs.declared.tree.Expr.{Expr}
use Rattle.core_form.specs.View.{view, exprs}
use Rattle.core_form.specs.Walks.{expr_count}
use Rattle.core_sites.specs.Listing.{binders_of, shown}
use Rattle.core_profile.specs.Counted.{lengths}
use Rattle.core_profile.specs.LimitFaults.{capture_counts}

pub expr_count-exprs : (es : List Expr) → expr_count (exprs (map view es)) ≡ length es
expr_count-exprs [] = refl
expr_count-exprs (e ∷ es) = ap suc (expr_count-exprs es)

length-binders : (us : List Use) → length (binders_of us) ≡ length us
length-binders [] = refl
length-binders (u ∷ us) = ap suc (length-binders us)

pub lengths-shown : (xs : List Plain.Site) → lengths (map shown xs) ≡ capture_counts xs
lengths-shown [] = refl
lengths-shown (x ∷ xs) = ap₂ (λ n l. n ∷ l) (length-binders x.captures) (lengths-shown xs)
