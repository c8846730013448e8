-- Well-formed bodies.
use Rattle.std.specs.Prelude.{◌≡◌, ◌≢◌, ℕ, List, [], ◌∷◌, ◌++◌, Some, None, Option, IsTrue, IsFalse, Bool, true, false, not, ◌&&◌, ◌||◌, eqb, leb, length, if◌then◌else◌, slice_get}
use Rattle.erl_base.specs.Lists.{among}
use Rattle.ssa_form.specs.Ssa.{Arg, Op, try_end, landing, catch_end, call_local, Set, Last, succeeded, ret, Phi, Block, Body, block_at}
use Rattle.ssa_form.specs.Storage.{Handler, Mode}
use Rattle.ssa_form.specs.SsaRun.{reads_tag, from_edge, lands, ends_catch}
use Rattle.world_model.specs.RemoteCalls.{takes}
use Rattle.ssa_form.specs.SetFacts.{dst_vars, all_among, none_among, in_form, breaks_cycle, is_peek, is_try_start, may_raise}
use Rattle.ssa_form.specs.Flow.{Point, point, set_at, last_at, phis_at, phi_vars, Effect, Step, Way, Reached, Leads, Passing}
use Rattle.ssa_form.specs.Liveness.{used_at, values_at, lands_first}
use Rattle.ssa_form.specs.ReceiveWindow.{WindowRule}

-- Each variable is set at one point.

-- the variables that a chain sets
abbrev pub chain_sets : List Set → List ℕ
chain_sets [] = []
chain_sets (x ∷ xs) = dst_vars x.dst ++ chain_sets xs

-- that a block sets
abbrev pub block_sets : Option Block → List ℕ
block_sets None = []
block_sets (Some x) = phi_vars x.phis ++ chain_sets x.chain

-- that all blocks set
abbrev pub blocks_set : List (Option Block) → List ℕ
blocks_set [] = []
blocks_set (o ∷ os) = block_sets o ++ blocks_set os

-- the variables that are tags of handlers

-- the variables that name handlers in a chain
abbrev pub chain_tags : List Set → List ℕ
chain_tags [] = []
chain_tags (x ∷ xs) = if is_try_start x.op then dst_vars x.dst ++ chain_tags xs else chain_tags xs

-- in all blocks
abbrev pub tags_in : List (Option Block) → List ℕ
tags_in [] = []
tags_in (None ∷ os) = tags_in os
tags_in (Some x ∷ os) = chain_tags x.chain ++ tags_in os

-- no variable twice
abbrev pub all_distinct : List ℕ → Bool
all_distinct [] = true
all_distinct (v ∷ vs) = not (among v vs) && all_distinct vs

-- each variable is set once
abbrev pub SetsOnce : Body → Type 0
SetsOnce b = IsTrue (all_distinct (b.params ++ blocks_set b.blocks))

-- Cycles.

-- some operation of a chain
abbrev pub any_op : (Op → Bool) → List Set → Bool
any_op f [] = false
any_op f (x ∷ xs) = f x.op || any_op f xs

-- of a block
abbrev pub block_has : (Op → Bool) → Option Block → Bool
block_has f None = false
block_has f (Some x) = any_op f x.chain

-- of these blocks
abbrev pub any_has : (Op → Bool) → Body → List ℕ → Bool
any_has f b [] = false
any_has f b (n ∷ ns) = block_has f (block_at b n) || any_has f b ns

-- each cycle looks for a message, and holds nothing that moves the save place to the start, and no landing
pub record KeepsCycle (b : Body) (ns : List ℕ) : Type 0 where
  pub looks : IsTrue (any_has is_peek b ns)
  pub goes_on : IsFalse (any_has breaks_cycle b ns)

-- every cycle keeps the rule
abbrev pub CycleRule : Body → Type 0
CycleRule b = (n : ℕ) (ns : List ℕ) → Passing b n n ns → KeepsCycle b ns

-- Landings.

-- a chain begins with the landings of a handler
abbrev pub lands_for : ℕ → List Set → Bool
lands_for v (x ∷ y ∷ z ∷ xs) = (lands v x && lands v y && lands v z) || ends_catch v x
lands_for v (x ∷ xs) = ends_catch v x
lands_for v [] = false

-- so does a block
abbrev pub is_landing_for : ℕ → Option Block → Bool
is_landing_for v None = false
is_landing_for v (Some x) = lands_for v x.chain

-- the innermost handler is the one that closes
abbrev pub closes_first : Op → List Arg → List Handler → Bool
closes_first try_end as' [] = false
closes_first try_end as' (h ∷ hs) = reads_tag h.tag as'
closes_first op as' hs = true

-- the body ends
abbrev pub is_ret : Last → Bool
is_ret (ret a) = true
is_ret _ = false

-- the phis of a block have an argument for the edge from block n
abbrev pub have_edges : List Phi → ℕ → Bool
have_edges [] n = true
have_edges (p ∷ ps) n = elim (from_edge p.from n) [ None ↦ false | Some a ↦ have_edges ps n ]

-- the last tests no set
abbrev pub tests_nothing : Option Last → Bool
tests_nothing None = true
tests_nothing (Some (succeeded v t e)) = false
tests_nothing (Some l) = true

-- `landing` stands among the first three sets of a block that begins so, `catch_end` first
abbrev pub lands_early : Op → ℕ → Bool → Bool
lands_early landing k first = leb k 2 && first
lands_early catch_end k first = eqb k 0
lands_early op k first = true

-- the block is entered by raises alone
abbrev pub IsLandingOnly : Body → ℕ → Type 0
IsLandingOnly b n = (p : Point) (hs is' : List Handler) (e : Effect) → Reached b p hs → Step b p hs (point n 0) is' e
    → (h : Handler) × (hs ≡ h ∷ is') × (h.landing ≡ n)

-- what every stage keeps
pub record WellFormed (b : Body) : Type 0 where
  pub sets_once : SetsOnce b
  -- every set has its operands, is taken by its last as it may be, and has the destination that it needs
  pub in_form : (p : Point) (hs : List Handler) (x : Set) (m : Mode) → Reached b p hs → set_at b p ≡ Some (x, m)
      → IsTrue (in_form m x)
  -- on every way to a point, what is read there was set; and what phis read along an edge
  pub available : (p : Point) (vs : List ℕ) (hs : List Handler) → Way b p vs hs → IsTrue (all_among (used_at b p) vs)
  pub edges : (p q : Point) (vs : List ℕ) (hs is' : List Handler) (e : Effect) → Way b p vs hs → Step b p hs q is' e
      → IsTrue (all_among e.reads (e.sets ++ vs))
  -- no tag is read as a value
  pub values : (p : Point) (hs : List Handler) → Reached b p hs → IsTrue (none_among (values_at b p) (tags_in b.blocks))
  pub edge_values : (p q : Point) (hs is' : List Handler) (e : Effect) → Reached b p hs → Step b p hs q is' e
      → IsTrue (none_among e.reads (tags_in b.blocks))
  pub phis : (n m : ℕ) → Leads b n m → IsTrue (have_edges (phis_at b m) n)
  -- ways lead to blocks that are there, and a last that tests has a set to test
  pub starts : block_at b 0 ≢ None
  -- the first block is entered by no edge where the body begins, so it has no phis
  pub no_phis : phis_at b 0 ≡ []
  pub leads_on : (n m : ℕ) → Leads b n m → block_at b m ≢ None
  pub tested : (p : Point) (hs : List Handler) → Reached b p hs → IsTrue (tests_nothing (last_at b p))
  -- handlers close from the inside out, and none is open where a body ends
  pub closes : (p : Point) (hs : List Handler) (x : Set) (m : Mode) → Reached b p hs → set_at b p ≡ Some (x, m)
      → IsTrue (closes_first x.op x.args hs)
  pub ends : (p : Point) (hs : List Handler) (l : Last) → Reached b p hs → last_at b p ≡ Some l → IsTrue (is_ret l)
      → hs ≡ []
  -- raises lead to landing blocks of their handler, and nothing else leads to one
  pub lands : (p : Point) (h : Handler) (hs : List Handler) (x : Set) (m : Mode) → Reached b p (h ∷ hs)
      → set_at b p ≡ Some (x, m) → IsTrue (may_raise m x.op) → IsTrue (is_landing_for h.tag (block_at b h.landing))
  pub enters : (n : ℕ) (hs : List Handler) → Reached b (point n 0) hs → IsTrue (lands_first (set_at b (point n 0)))
      → IsLandingOnly b n
  -- no code stands on the way of a raise, so nothing is chosen there by a phi
  pub bare : (n : ℕ) → IsTrue (lands_first (set_at b (point n 0))) → phis_at b n ≡ []
  pub early : (p : Point) (hs : List Handler) (x : Set) (m : Mode) → Reached b p hs → set_at b p ≡ Some (x, m)
      → IsTrue (lands_early x.op p.done (lands_first (set_at b (point p.block 0))))
  pub cycles : CycleRule b
  pub windows : WindowRule b

-- every local call has as many arguments as its function has parameters
abbrev pub call_fits : List ℕ → Op → ℕ → Bool
call_fits as' (call_local n) k = takes (slice_get as' n) k
call_fits as' op k = true

-- in all calls of a body
abbrev pub CallsFit : List ℕ → Body → Type 0
CallsFit as' b = (p : Point) (hs : List Handler) (x : Set) (m : Mode) → Reached b p hs → set_at b p ≡ Some (x, m)
    → IsTrue (call_fits as' x.op (length x.args))
