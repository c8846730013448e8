-- Certificates: what holds at each point of a body, written down, so that each block can be judged by itself and its
-- edges, and no way through the body has to be followed.
use Rattle.std.specs.Prelude.{◌≡◌, ◌≢◌, ◌≤◌, ◌<◌, ℕ, List, [], ◌∷◌, ◌++◌, length, IsTrue, IsFalse, ◌||◌, Option, Some, None}
use Rattle.erl_base.specs.Lists.{among}
use Rattle.ssa_form.specs.Ssa.{Set, Last, Body, block_at}
use Rattle.ssa_form.specs.Storage.{Handler, Mode}
use Rattle.ssa_form.specs.SetFacts.{dst_vars, all_among, none_among, in_form, may_raise, may_ask, unsets_registers, is_peek, ends_window, breaks_cycle}
use Rattle.ssa_form.specs.Flow.{Point, point, set_at, last_at, phis_at, phi_vars, Effect, Step}
use Rattle.ssa_form.specs.Liveness.{used_at, values_at, lands_first}
use Rattle.ssa_form.specs.ReceiveWindow.{ends_at, Look}
use Rattle.ssa_form.specs.WellFormed.{tags_in, block_has, is_landing_for, closes_first, is_ret, have_edges, tests_nothing, lands_early, SetsOnce, WellFormed}

-- What is written down. For each point: variables that are set on every way to it, the handlers that are open, from the
-- inside out, and the block of the look in whose window it stands. For the block of a look: what its window sets. For
-- each block: how far it is from a look, and how many operations that no cycle holds may still come.
pub record Notes : Type 0 where
  pub available : Point → List ℕ
  pub handlers : Point → List Handler
  pub inside : Point → Option ℕ
  pub set_inside : ℕ → List ℕ
  pub rank : ℕ → ℕ
  pub level : ℕ → ℕ

-- A set has its form and stands where it may; its raise finds its landing. In a window, before the end, nothing raises
-- or asks, and what is set is counted; so is a look's message.
pub record FitsSet (b : Body) (a : Notes) (p : Point) (x : Set) (m : Mode) : Type 0 where
  pub in_form : IsTrue (in_form m x)
  pub closes : IsTrue (closes_first x.op x.args (a.handlers p))
  pub lands : (h : Handler) (hs : List Handler) → a.handlers p ≡ h ∷ hs → IsTrue (may_raise m x.op)
      → IsTrue (is_landing_for h.tag (block_at b h.landing))
  pub early : IsTrue (lands_early x.op p.done (lands_first (set_at b (point p.block 0))))
  pub quiet : (w : ℕ) → a.inside p ≡ Some w → IsFalse (ends_window x.op) → IsFalse (may_raise m x.op || may_ask x.op)
  pub counted : (w : ℕ) → a.inside p ≡ Some w → IsFalse (ends_window x.op)
      → IsTrue (all_among (dst_vars x.dst) (a.set_inside w))
  pub message : IsTrue (is_peek x.op) → IsTrue (all_among (dst_vars x.dst) (a.set_inside p.block))

-- How a step from p comes to stand in the window of block w, at q: by its look, or from there, before the end.
pub data Comes (b : Body) (a : Notes) (w : ℕ) (p q : Point) : Type 0 where
  by_look : (l : Look b w) → p ≡ point w l.at → q ≡ point l.found 0 → Comes b a w p q
  goes_on : a.inside p ≡ Some w → IsFalse (ends_at (set_at b p)) → Comes b a w p q

-- A step agrees with the notes at both ends. What is available behind it was so before, or is set by it; what phis read
-- was set, and is no tag; a last that tests a set is not come to. A window is entered by its look alone and left at its
-- end alone. Behind what unsets the registers nothing that a window set is read or available.
pub record FitsStep (b : Body) (a : Notes) (p q : Point) (is' : List Handler) (e : Effect) : Type 0 where
  pub handlers : is' ≡ a.handlers q
  pub kept : IsTrue (all_among (a.available q) (e.phis ++ e.sets ++ a.available p))
  pub reads : IsTrue (all_among e.reads (e.sets ++ a.available p))
  pub values : IsTrue (none_among e.reads (tags_in b.blocks))
  pub tested : IsTrue (tests_nothing (last_at b q))
  pub comes : (w : ℕ) → a.inside q ≡ Some w → Comes b a w p q
  pub stays : (w : ℕ) → a.inside p ≡ Some w → IsFalse (ends_at (set_at b p)) → a.inside q ≡ Some w
  pub short : (x : Set) (m : Mode) (w v : ℕ) → set_at b p ≡ Some (x, m) → IsTrue (unsets_registers x.op)
      → IsTrue (among v (a.set_inside w)) → IsFalse (among v e.sets)
      → IsFalse (among v e.reads) × (IsFalse (among v e.phis) → IsFalse (among v (a.available q)))

-- An edge from p leads to a block that is there and whose phis know it. Out of a block without a look the rank falls;
-- the level never rises, and falls out of a block with an operation that no cycle holds. A landing is entered by a
-- raise, which closes its handler.
pub record FitsEdge (b : Body) (a : Notes) (p : Point) (m : ℕ) (is' : List Handler) : Type 0 where
  pub there : block_at b m ≢ None
  pub phis : IsTrue (have_edges (phis_at b m) p.block)
  pub nears : IsFalse (block_has is_peek (block_at b p.block)) → a.rank m < a.rank p.block
  pub sinks : a.level m ≤ a.level p.block
  pub breaks : IsTrue (block_has breaks_cycle (block_at b p.block)) → a.level m < a.level p.block
  pub lands : IsTrue (lands_first (set_at b (point m 0)))
      → (h : Handler) × (a.handlers p ≡ h ∷ is') × (h.landing ≡ m)

-- At a point: what is read is available, and no tag is read as a value; no handler is open where the body ends; and the
-- set, the steps and the edges fit.
pub record FitsPoint (b : Body) (a : Notes) (p : Point) : Type 0 where
  pub used : IsTrue (all_among (used_at b p) (a.available p))
  pub values : IsTrue (none_among (values_at b p) (tags_in b.blocks))
  pub ends : (l : Last) → last_at b p ≡ Some l → IsTrue (is_ret l) → a.handlers p ≡ []
  pub set : (x : Set) (m : Mode) → set_at b p ≡ Some (x, m) → FitsSet b a p x m
  pub steps : (q : Point) (is' : List Handler) (e : Effect) → Step b p (a.handlers p) q is' e → FitsStep b a p q is' e
  pub edges : (m : ℕ) (is' : List Handler) (e : Effect) → Step b p (a.handlers p) (point m 0) is' e
      → FitsEdge b a p m is'

-- A block: its points fit; one where a raise lands has no phis, and nothing that a window set is available there; its
-- phis are counted where it begins in a window.
pub record FitsBlock (b : Body) (a : Notes) (n : ℕ) : Type 0 where
  pub at : (k : ℕ) → FitsPoint b a (point n k)
  pub bare : IsTrue (lands_first (set_at b (point n 0))) → phis_at b n ≡ []
  pub short : IsTrue (lands_first (set_at b (point n 0))) → (w v : ℕ) → IsTrue (among v (a.set_inside w))
      → IsFalse (among v (a.available (point n 0)))
  pub counted : (w : ℕ) → a.inside (point n 0) ≡ Some w
      → IsTrue (all_among (phi_vars (phis_at b n)) (a.set_inside w))

-- A certificate of a body: its blocks fit some notes, which agree with how a body begins, with its looks, and with the
-- X registers, which hold what a window sets.
pub record Certificate (b : Body) : Type 0 where
  pub notes : Notes
  pub starts : block_at b 0 ≢ None
  pub no_phis : phis_at b 0 ≡ []
  pub tested : IsTrue (tests_nothing (last_at b (point 0 0)))
  pub params : IsTrue (all_among (notes.available (point 0 0)) b.params)
  pub none_open : notes.handlers (point 0 0) ≡ []
  pub outside : notes.inside (point 0 0) ≡ None
  pub local : (n : ℕ) → FitsBlock b notes n
  pub looks : (w : ℕ) (l : Look b w) → (notes.inside (point l.found 0) ≡ Some w)
      × (notes.handlers (point l.found 0) ≡ notes.handlers (point w l.at))
  pub few : (w : ℕ) → length (notes.set_inside w) ≤ 1022

-- a body with a certificate, whose variables are set once each, is well formed
abbrev pub CertifiedBodiesAreWellFormed : Type 0
CertifiedBodiesAreWellFormed = (b : Body) → SetsOnce b → Certificate b → WellFormed b
