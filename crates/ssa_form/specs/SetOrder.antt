-- The order in which the sets of a block are read.
use Rattle.std.specs.Prelude.{◌≢◌, ℕ, ◌+◌, List, [], ◌∷◌, Contains, Option, Some, None, eqb, slice_get, if◌then◌else◌}
use Rattle.slab.specs.Slab.{get}
use Rattle.erl_base.specs.declared.ids.NodeId.{NodeId}
use Rattle.ssa_form.specs.declared.op.Set.{Set}
use Rattle.ssa_form.specs.declared.block.Phi.{Phi}
use Rattle.ssa_form.specs.declared.block.Last.{Last}
use Rattle.ssa_form.specs.declared.block.Block.{Block}
use Rattle.ssa_form.specs.declared.body.SetLists.{SetLists}
use Rattle.ssa_form.specs.declared.body.Body.{Body}

-- the chain of a block
abbrev pub chain_in : SetLists → Option Block → Option (List NodeId)
chain_in ls None = None
chain_in ls (Some b) = slice_get ls.chains b.chain.0

-- the chain of a block that is there
abbrev pub chain_of : Body → ℕ → Option (List NodeId)
chain_of b n = chain_in b.chains (get b.blocks n)

-- the nodes of a chain, if there is one
abbrev pub nodes_in : Option (List NodeId) → List NodeId
nodes_in None = []
nodes_in (Some ns) = ns

-- the nodes of a block, in order
abbrev pub nodes_of : Body → ℕ → List NodeId
nodes_of b n = nodes_in (chain_of b n)

-- the set that a node holds
abbrev pub set_of_node : Body → ℕ → Option Set
set_of_node b n = slice_get b.chains.sets n

-- every block has its chain, and every node of a chain its set
pub record IsWhole (b : Body) : Type 0 where
  pub chains : (k : ℕ) → get b.blocks k ≢ None → chain_of b k ≢ None
  pub sets : (k : ℕ) (n : NodeId) → Contains (nodes_of b k) n → set_of_node b n.0 ≢ None

-- the first node
abbrev pub first_of : List NodeId → Option NodeId
first_of [] = None
first_of (n ∷ ns) = Some n

-- the node after one
abbrev pub next_after : ℕ → List NodeId → Option NodeId
next_after n [] = None
next_after n (m ∷ ms) = if eqb m.0 n then first_of ms else next_after n ms

-- nodes for these sets, from number n on
abbrev pub nodes_from : ℕ → List Set → List NodeId
nodes_from n [] = []
nodes_from n (x ∷ xs) = record { 0 = n } ∷ nodes_from (n + 1) xs

-- a block whose chain has this number
abbrev pub block_of : List Phi → ℕ → Last → Block
block_of ps n l = record { phis = ps; chain = record { 0 = n }; last = l }
