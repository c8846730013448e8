-- The depth of a term by its parts.
use Rattle.std.proofs.Common.{◌≡◌, ℕ, suc, max, ◌≤◌, ◌-◌, ◌↔◌, refl, sym, ap, ap₂, ◌∙◌, subst, List, [], ◌∷◌, map, IsTrue, Bool, true, false, arith}
use Rattle.erl_base.specs.declared.ids.SiteId.{SiteId}
use Rattle.erl_term.specs.declared.term.Term.{Term, out-Term}
use Rattle.erl_term.specs.declared.term.Term.TheVariants as V
use Rattle.erl_term.specs.declared.term.Term.TheOpen as form
use Rattle.erl_term.specs.declared.term.Pair.{Pair}
use Rattle.erl_term.specs.Term as Plain
use Rattle.erl_term.specs.TermOrder.{rank}
use Rattle.erl_term.specs.Terms.{list_of}
use Rattle.erl_term.specs.Depth.{depths, depth, deepest, deepest_pair}
use Rattle.erl_term.specs.View.{view}
use Rattle.erl_term.specs.WellFormed.{Layout, IsNormal}
use Rattle.erl_term.specs.Comparing.{row, pair_row}
use Rattle.erl_term.proofs.Forms.{tail_no_cell, laid, layout-out, view_as, tail_not_listed}

rest_is : (t : Plain.Term) → ((rank t ≡ 10) → ⊥) → (depths t).rest ≡ depth t
unfolding depths
rest_is (Plain.cons x y) n = absurd (n refl)
rest_is t n = refl

items_rest : (xs : List Term) (u : Plain.Term)
    → (depths (list_of (map view xs) u)).rest ≡ max (deepest (row xs)) (depths u).rest
unfolding depths
items_rest [] u = omega arith
items_rest (x ∷ xs) u = ap (max (depth (view x))) (items_rest xs u) ∙ omega arith

list_depth : (x : Term) (xs : List Term) (u : Plain.Term)
    → depth (list_of (map view (x ∷ xs)) u) ≡ suc (max (deepest (row (x ∷ xs))) (depths u).rest)
unfolding depths
list_depth x xs u = ap (λ n. suc (max (depth (view x)) n)) (items_rest xs u) ∙ omega arith

pub list_deep : (a : Term) (xs v : List Term) (t u : Term) → a ≡ V.List xs t → v ≡ xs → u ≡ t → IsNormal a
    → depth (view a) ≡ suc (max (deepest (row v)) (depth (view u)))
list_deep a [] v t u e f g n =
    let h : false ≡ true = subst (λ (l : Layout). IsTrue l.normal)
    (layout-out a ∙ ap laid (ap out-Term e ∙ V.outs-List [] t)) n in cc
list_deep a (x ∷ xs) v t u e f g n =
    ap depth (view_as a (form.List (x ∷ xs) t) (ap out-Term e ∙ V.outs-List (x ∷ xs) t))
    ∙ list_depth x xs (view t)
    ∙ ap (λ k. suc (max (deepest (row (x ∷ xs))) k))
    (rest_is (view t) (tail_no_cell t (tail_not_listed a (x ∷ xs) t t e refl n)))
    ∙ sym (ap₂ (λ y w. suc (max (deepest (row y)) (depth (view w)))) f g)

pub tuple_deep : (a : Term) (xs v : List Term) → a ≡ V.Tuple xs → v ≡ xs → depth (view a) ≡ suc (deepest (row v))
unfolding depths
tuple_deep a xs v e f = ap depth (view_as a (form.Tuple xs) (ap out-Term e ∙ V.outs-Tuple xs))
    ∙ sym (ap (λ y. suc (deepest (row y))) f)

pub map_deep : (a : Term) (ps v : List Pair) → a ≡ V.Map ps → v ≡ ps → depth (view a) ≡ suc (deepest_pair (pair_row v))
unfolding depths
map_deep a ps v e f = ap depth (view_as a (form.Map ps) (ap out-Term e ∙ V.outs-Map ps))
    ∙ sym (ap (λ y. suc (deepest_pair (pair_row y))) f)

pub fun_deep : (a : Term) (m : List ℕ) (s : SiteId) (k : ℕ) (xs v : List Term) → a ≡ V.Fun m s k xs → v ≡ xs
    → depth (view a) ≡ suc (deepest (row v))
unfolding depths
fun_deep a m s k xs v e f = ap depth (view_as a (form.Fun m s k xs) (ap out-Term e ∙ V.outs-Fun m s k xs))
    ∙ sym (ap (λ y. suc (deepest (row y))) f)

some_deep : (t : Plain.Term) → 1 ≤ depth t
unfolding depths
some_deep (Plain.cons x y) = omega arith
some_deep (Plain.tuple ts) = omega arith
some_deep (Plain.map ps) = omega arith
some_deep (Plain.fun m s a ts) = omega arith
some_deep t = omega arith

pub not_flat : (t : Term) → 1 ≤ depth (view t)
not_flat t = some_deep (view t)

pub ruleset parts = (not_flat, list_deep, tuple_deep, map_deep, fun_deep)

-- items within a limit, and then a tail within it
pub both_within : (a r : Bool) (d u n l : ℕ) → IsTrue a ↔ (d ≤ l - 1) → a ≡ true → IsTrue r ↔ (u ≤ l - 1) → (l ≡ 0 → ⊥)
    → n ≡ suc (max d u) → IsTrue r ↔ (n ≤ l)
both_within a r d u n l e t f z g = (
  λ p. let h : d ≤ l - 1 = e.0 t in let k : u ≤ l - 1 = f.0 p in omega (arith, g, z),
  λ p. f.1 (omega (arith, g, p)),
)

pub items_not_within : (a : Bool) (d u n l : ℕ) → IsTrue a ↔ (d ≤ l - 1) → a ≡ false → n ≡ suc (max d u)
    → IsTrue a ↔ (n ≤ l)
items_not_within a d u n l e t g = (λ p. absurd cc, λ p. e.1 (omega (arith, g, p)))
