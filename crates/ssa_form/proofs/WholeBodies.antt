-- Bodies whose chains and nodes are there, as they grow.
use Rattle.std.proofs.Common.{◌≡◌, ◌≢◌, ◌≤◌, ◌<◌, ⊎_elim, ℕ, zero, suc, ◌+◌, List, [], ◌∷◌, ◌++◌, length, Contains, Bool, true, false, Option, Some, None, refl, sym, ap, subst, ◌∙◌, arith, eqb, slice_get, IfSome, if◌then◌else◌}
use Rattle.std.proofs.lemmas.Bool.{eqb-true, eq-eqb}
use Rattle.slab.specs.Slab.{get, Updates}
use Rattle.slab.proofs.SlabLemmas.{Contains-cons, Contains-cons_cases}
use Rattle.erl_base.specs.declared.ids.NodeId.{NodeId}
use Rattle.ssa_form.specs.declared.op.Set.{Set}
use Rattle.ssa_form.specs.declared.block.Block.{Block}
use Rattle.ssa_form.specs.declared.body.Body.{Body}
use Rattle.ssa_form.specs.SetOrder.{chain_in, chain_of, nodes_in, nodes_of, set_of_node, nodes_from, IsWhole, first_of, next_after}

none_in : {A : Type 0} (x : A) → Contains [] x → ⊥
none_in x c = omega (arith, c.1)

kept_in : {A : Type 0} (xs ys : List A) (i : ℕ) → slice_get xs i ≢ None → slice_get (xs ++ ys) i ≡ slice_get xs i
kept_in [] ys i h = absurd (h refl)
kept_in (x ∷ xs) ys zero h = refl
kept_in (x ∷ xs) ys (suc i) h = kept_in xs ys i h

at_end : {A : Type 0} (xs : List A) (x : A) → slice_get (xs ++ x ∷ []) (length xs) ≡ Some x
at_end [] x = refl
at_end (y ∷ ys) x = at_end ys x

some_not : {A : Type 0} (o : Option A) (x : A) → o ≡ Some x → o ≢ None
some_not o x e f = let g : Some x ≡ None = sym e ∙ f in cc

within : {A : Type 0} (xs : List A) (i : ℕ) → i < length xs → slice_get xs i ≢ None
within [] i l = absurd (omega (arith, l))
within (x ∷ xs) zero l = some_not _ x refl
within (x ∷ xs) (suc i) l = within xs i (omega (arith, l))

numbered_in : (k : ℕ) (xs : List Set) (n : NodeId) → Contains (nodes_from k xs) n → (k ≤ n.0) × (n.0 < k + length xs)
numbered_in k [] n c = absurd (none_in n c)
numbered_in k (x ∷ xs) n c = ⊎_elim
    (λ e. let f : k ≡ n.0 = ap (λ m. m.0) e in (omega (arith, f), omega (arith, f)))
    (λ d. let p : (k + 1 ≤ n.0) × (n.0 < k + 1 + length xs) = numbered_in (k + 1) xs n d
    in (omega (arith, p.0), omega (arith, p.1)))
    (Contains-cons_cases (record { 0 = k }) n (nodes_from (k + 1) xs) c)

module _ (old new : Body) (id : ℕ) (block : Block) (xs : List Set)
    (updates : Updates old.blocks new.blocks id (Some block)) (number : block.chain.0 ≡ length old.chains.chains)
    (chains : new.chains.chains ≡ old.chains.chains ++ nodes_from (length old.chains.sets) xs ∷ [])
    (sets : new.chains.sets ≡ old.chains.sets ++ xs) (whole : IsWhole old) where
  new_chain : chain_of new id ≡ Some (nodes_from (length old.chains.sets) xs)
  new_chain = ap (chain_in new.chains) updates.changed ∙ ap (slice_get new.chains.chains) number
      ∙ ap (λ cs. slice_get cs (length old.chains.chains)) chains
      ∙ at_end old.chains.chains (nodes_from (length old.chains.sets) xs)

  chain_kept : (o : Option Block) → chain_in old.chains o ≢ None → chain_in new.chains o ≡ chain_in old.chains o
  chain_kept None h = refl
  chain_kept (Some x) h = ap (λ cs. slice_get cs x.chain.0) chains ∙ kept_in old.chains.chains _ x.chain.0 h

  other_chain : (k : ℕ) → k ≢ id → get new.blocks k ≢ None → chain_of new k ≡ chain_of old k
  other_chain k h n = ap (chain_in new.chains) (updates.others k h)
      ∙ chain_kept (get old.blocks k) (whole.chains k (λ e. n (updates.others k h ∙ e)))

  chain_there : (k : ℕ) (b : Bool) → eqb k id ≡ b → get new.blocks k ≢ None → chain_of new k ≢ None
  chain_there k true e n = subst (λ i. chain_of new i ≢ None) (sym (eqb-true k id e)) (some_not _ _ new_chain)
  chain_there k false e n =
      let h : k ≢ id = apart k e in λ f. whole.chains k (λ g. n (updates.others k h ∙ g)) (sym (other_chain k h n) ∙ f)
    where
      apart : (k : ℕ) → eqb k id ≡ false → k ≢ id
      apart k e p = let q : true ≡ false = sym (eq-eqb k id p) ∙ e in cc

  set_kept : (n : NodeId) → set_of_node old n.0 ≢ None → set_of_node new n.0 ≢ None
  set_kept n h e = h (sym (kept_in old.chains.sets xs n.0 h) ∙ ap (λ ys. slice_get ys n.0) (sym sets) ∙ e)

  new_set : (n : NodeId) → Contains (nodes_from (length old.chains.sets) xs) n → set_of_node new n.0 ≢ None
  new_set n c e = let p : (length old.chains.sets ≤ n.0) × (n.0 < length old.chains.sets + length xs) =
      numbered_in (length old.chains.sets) xs n c in
      within (old.chains.sets ++ xs) n.0
      (let q : length (old.chains.sets
      ++ xs) ≡ length old.chains.sets + length xs = lengths old.chains.sets in omega (arith, p.1, q))
      (ap (λ ys. slice_get ys n.0) (sym sets) ∙ e)
    where
      lengths : (ys : List Set) → length (ys ++ xs) ≡ length ys + length xs
      lengths [] = omega arith
      lengths (y ∷ ys) = let h : length (ys ++ xs) ≡ length ys + length xs = lengths ys in omega (arith, h)

  node_there : (k : ℕ) (b : Bool) → eqb k id ≡ b → (n : NodeId) → Contains (nodes_of new k) n
      → set_of_node new n.0 ≢ None
  node_there k true e n c =
      new_set n (subst (λ ns. Contains ns n) (ap nodes_in (ap (chain_of new) (eqb-true k id e) ∙ new_chain)) c)
  node_there k false e n c = by_block (get new.blocks k) refl
    where
      not_new : k ≢ id
      not_new p = let q : true ≡ false = sym (eq-eqb k id p) ∙ e in cc

      by_block : (x : Option Block) → get new.blocks k ≡ x → set_of_node new n.0 ≢ None
      by_block None p = absurd
          (none_in n (subst (λ ns. Contains ns n) (ap (λ o. nodes_in (chain_in new.chains o)) p) c))
      by_block (Some x) p = set_kept n
          (whole.sets k n (subst (λ ns. Contains ns n) (ap nodes_in (other_chain k not_new (some_not _ x p))) c))

  pub grown : IsWhole new
  grown = record { chains = λ k n. chain_there k (eqb k id) refl n; sets = λ k n c. node_there k (eqb k id) refl n c }

-- What a walk along a chain gives stands in it.

first_in : (n : NodeId) (ns : List NodeId) → Contains (n ∷ ns) n
first_in n ns = (0, omega arith, refl)

pub first_there : (o : Option NodeId) (ns : List NodeId) → o ≡ first_of ns → IfSome o (λ n. Contains ns n)
first_there o [] e = rw e tt
first_there o (n ∷ ns) e = rw e (first_in n ns)

next_in : (k : ℕ) (ns : List NodeId) (m : NodeId) → next_after k ns ≡ Some m → Contains ns m
next_in k [] m e = let g : None ≡ Some m = e in cc
next_in k (n ∷ ns) m e = Contains-cons n m ns (by_node (eqb n.0 k) e (next_in k ns m))
  where
    first_is : (ns : List NodeId) → first_of ns ≡ Some m → Contains ns m
    first_is [] f = let g : None ≡ Some m = f in cc
    first_is (p ∷ ps) f = let q : p ≡ m = cc in subst (Contains (p ∷ ps)) q (first_in p ps)

    by_node : (b : Bool) → (if b then first_of ns else next_after k ns) ≡ Some m
        → (next_after k ns ≡ Some m → Contains ns m) → Contains ns m
    by_node true f h = first_is ns f
    by_node false f h = h f

pub next_there : (o : Option NodeId) (k : ℕ) (ns : List NodeId) → o ≡ next_after k ns → IfSome o (λ n. Contains ns n)
next_there None k ns e = tt
next_there (Some m) k ns e = next_in k ns m (sym e)
