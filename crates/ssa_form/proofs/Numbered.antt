-- Numbered nodes of a list that grows.
use Rattle.std.proofs.Common.{◌≡◌, ℕ, ◌+◌, List, [], ◌∷◌, ◌++◌, length, sym, ap, ◌∙◌, arith, append_assoc, length-append}
use Rattle.erl_base.specs.declared.ids.NodeId.{NodeId}
use Rattle.ssa_form.specs.declared.op.Set.{Set}
use Rattle.ssa_form.specs.SetOrder.{nodes_from}

abbrev node : ℕ → NodeId
node n = record { 0 = n }

pub numbered_append : (n : ℕ) (xs : List Set) (x : Set)
    → nodes_from n (xs ++ x ∷ []) ≡ nodes_from n xs ++ record { 0 = n + length xs } ∷ []
numbered_append n [] x = ap (λ k. node k ∷ []) (omega arith)
numbered_append n (y ∷ ys) x =
    ap (λ l. node n ∷ l) (numbered_append (n + 1) ys x ∙ ap (λ k. nodes_from (n + 1) ys ++ node k ∷ []) (omega arith))

pub next_sets : (grown old all ys : List Set) (x : Set) → grown ≡ old ++ x ∷ [] → old ≡ all ++ ys
    → grown ≡ all ++ (ys ++ x ∷ [])
next_sets grown old all ys x e f = e ∙ ap (λ l. l ++ x ∷ []) f ∙ append_assoc all ys (x ∷ [])

pub next_nodes : (grown old : List NodeId) (n k : ℕ) (ys : List Set) (x : Set) → grown ≡ old ++ node k ∷ []
    → old ≡ nodes_from n ys → k ≡ n + length ys → grown ≡ nodes_from n (ys ++ x ∷ [])
next_nodes grown old n k ys x e f g =
    e ∙ ap (λ l. l ++ node k ∷ []) f ∙ ap (λ j. nodes_from n ys ++ node j ∷ []) g ∙ sym (numbered_append n ys x)

pub length_of : (old all ys : List Set) → old ≡ all ++ ys → length old ≡ length all + length ys
length_of old all ys f = ap length f ∙ length-append all ys
