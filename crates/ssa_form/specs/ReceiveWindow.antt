-- Receive windows: from a look that found a message up to the operation that takes or skips it.
use Rattle.std.specs.Prelude.{◌≡◌, ◌≤◌, ℕ, List, length, Contains, IsTrue, IsFalse, Bool, false, ◌||◌, Option, Some, None}
use Rattle.erl_base.specs.Lists.{among}
use Rattle.ssa_form.specs.Ssa.{Set, succeeded, Body, block_at}
use Rattle.ssa_form.specs.Storage.{Handler, Mode, tests}
use Rattle.ssa_form.specs.SetFacts.{is_peek, ends_window, may_raise, may_ask}
use Rattle.ssa_form.specs.Flow.{Point, point, set_at, last_of, phis_at, phi_vars, Effect, Step, Reached, Leads}
use Rattle.ssa_form.specs.Liveness.{Across}

-- the set there ends the window
abbrev pub ends_at : Option (Set × Mode) → Bool
ends_at None = false
ends_at (Some x) = ends_window x.0.op

-- a look that the last of block w asks for, with the message's variable, and the block where a message was found
pub record Look (b : Body) (w : ℕ) : Type 0 where
  pub at : ℕ
  pub set : Set
  pub var : ℕ
  pub none : ℕ
  pub found : ℕ
  pub is_there : set_at b (point w at) ≡ Some (set, tests none)
  pub looks : IsTrue (is_peek set.op)
  pub leads : last_of (block_at b w) ≡ Some (succeeded var found none)

-- a point in the window of the look in block w, the one with the end of the window included
pub data InWindow (b : Body) (w : ℕ) : Point → List Handler → Type 0 where
  found : (l : Look b w) (hs : List Handler) → Reached b (point w l.at) hs → InWindow b w (point l.found 0) hs
  on : (p q : Point) (hs is' : List Handler) (e : Effect) → InWindow b w p hs → IsFalse (ends_at (set_at b p))
      → Step b p hs q is' e → InWindow b w q is'

-- some point of the block is in the window
abbrev pub IsInside : Body → ℕ → ℕ → Type 0
IsInside b w n = (k : ℕ) × (hs : List Handler) × InWindow b w (point n k) hs

-- the message, and what the window's blocks set, by phis too, before its end
pub data SetIn (b : Body) (w v : ℕ) : Type 0 where
  message : (l : Look b w) → l.set.dst ≡ Some v → SetIn b w v
  by_phi : (n : ℕ) (hs : List Handler) → InWindow b w (point n 0) hs → IsTrue (among v (phi_vars (phis_at b n)))
      → SetIn b w v
  by_set : (p : Point) (hs : List Handler) (x : Set) (m : Mode) → InWindow b w p hs → set_at b p ≡ Some (x, m)
      → IsFalse (ends_window x.op) → x.dst ≡ Some v → SetIn b w v

-- The rule on the window of block w. What it sets fits the X registers and needs no slot; it is entered by its look
-- alone; and before its end nothing raises or asks.
pub record KeepsWindow (b : Body) (w : ℕ) : Type 0 where
  pub few : (vs : List ℕ) × (length vs ≤ 1022) × ((v : ℕ) → SetIn b w v → Contains vs v)
  pub registers : (v : ℕ) → SetIn b w v → Across b v → ⊥
  pub closed : (n m : ℕ) → Leads b n m → IsInside b w m → (IsInside b w n → ⊥) → n ≡ w
  pub quiet : (p : Point) (hs : List Handler) (x : Set) (m : Mode) → InWindow b w p hs → set_at b p ≡ Some (x, m)
      → IsFalse (ends_window x.op) → IsFalse (may_raise m x.op || may_ask x.op)

-- it holds of every look
abbrev pub WindowRule : Body → Type 0
WindowRule b = (w : ℕ) → Look b w → KeepsWindow b w
