-- Ways through a body, the ways of raises included.
use Rattle.std.specs.Prelude.{◌≡◌, ℕ, zero, suc, List, [], ◌∷◌, ◌++◌, length, drop, map, Contains, IsTrue, IsFalse, eqb, Option, Some, None, if◌then◌else◌}
use Rattle.ssa_form.specs.Ssa.{Arg, Op, try_start, try_end, FrameAction, Set, Last, br, succeeded, switch, ret, Phi, Block, Body, block_at}
use Rattle.ssa_form.specs.Storage.{Handler, Mode, tests}
use Rattle.ssa_form.specs.SsaRun.{mode_of, from_edge}
use Rattle.ssa_form.specs.SetFacts.{arg_vars, given_vars, is_tests, may_raise}

-- in a block, where this many of its sets are done
pub record Point : Type 0 where
  pub block : ℕ
  pub done : ℕ

-- block n, where k of its sets are done
abbrev pub point : ℕ → ℕ → Point
point n k = record { block = n; done = k }

-- behind the next set
abbrev pub next : Point → Point
next p = record p { done = suc p.done }

-- a set, and how its block's last takes it
abbrev pub set_from : List Set → ℕ → List FrameAction → Last → Option (Set × Mode)
set_from [] k acts l = None
set_from (x ∷ xs) zero acts l = Some (x, mode_of x.dst xs acts l)
set_from (x ∷ xs) (suc k) acts l = set_from xs k acts l

-- the same in a block that may be missing
abbrev pub set_in : Option Block → ℕ → Option (Set × Mode)
set_in None k = None
set_in (Some b) k = set_from b.chain k b.before b.last

-- the set at a point
abbrev pub set_at : Body → Point → Option (Set × Mode)
set_at b p = set_in (block_at b p.block) p.done

-- and its last
abbrev pub last_in : Option Block → ℕ → Option Last
last_in None k = None
last_in (Some b) k = if eqb k (length b.chain) then Some b.last else None

-- the last at a point where all sets are done
abbrev pub last_at : Body → Point → Option Last
last_at b p = last_in (block_at b p.block) p.done

-- a block's last
abbrev pub last_of : Option Block → Option Last
last_of None = None
last_of (Some b) = Some b.last

-- where a last leads that tests no set
abbrev pub targets : Last → List ℕ
targets (br a t e) = t ∷ e ∷ []
targets (succeeded v t e) = []
targets (switch a d cs) = d ∷ map (λ c. c.1) cs
targets (ret a) = []

-- a block's phis
abbrev pub phis_at : Body → ℕ → List Phi
phis_at b n = elim (block_at b n) [ None ↦ [] | Some x ↦ x.phis ]

-- the variables that phis set
abbrev pub phi_vars : List Phi → List ℕ
phi_vars [] = []
phi_vars (p ∷ ps) = p.dst ∷ phi_vars ps

-- the variables of an edge
abbrev pub edge_vars : Option Arg → List ℕ
edge_vars None = []
edge_vars (Some a) = arg_vars (a ∷ [])

-- the variables that phis read along the edge from block n
abbrev pub phi_reads : List Phi → ℕ → List ℕ
phi_reads [] n = []
phi_reads (p ∷ ps) n = edge_vars (from_edge p.from n) ++ phi_reads ps n

-- what a step does to variables: it sets some, then phis read some, then the phis are set
pub record Effect : Type 0 where
  pub sets : List ℕ
  pub reads : List ℕ
  pub phis : List ℕ

-- a step that sets these and reads nothing along an edge
abbrev pub setting : List ℕ → Effect
setting vs = record { sets = vs; reads = []; phis = [] }

-- into block m from block n, after some variables were set
abbrev pub along_edge : Body → ℕ → ℕ → List ℕ → Effect
along_edge b n m vs = record { sets = vs; reads = phi_reads (phis_at b m) n; phis = phi_vars (phis_at b m) }

-- the handlers that are open after a set
abbrev pub after_op : Op → List Handler → List Handler
after_op try_end hs = drop 1 hs
after_op _ hs = hs

-- the handler that a set opens
abbrev pub opened : Op → Option ℕ → ℕ → List Handler → List Handler
opened try_start (Some v) e hs = record { tag = v; landing = e } ∷ hs
opened op d e hs = hs

-- One step from a point with open handlers to the next: past a set; along a last; by the success or the failure of a
-- set that the last tests, where a `try_start` does not fail; to a landing, by a set that may raise.
pub data Step (b : Body) : Point → List Handler → Point → List Handler → Effect → Type 0 where
  passes : (p : Point) (hs : List Handler) (x : Set) (m : Mode) → set_at b p ≡ Some (x, m) → IsFalse (is_tests m)
      → Step b p hs (next p) (after_op x.op hs) (setting (given_vars x))
  leads : (p : Point) (hs : List Handler) (l : Last) (n : ℕ) → last_at b p ≡ Some l → Contains (targets l) n
      → Step b p hs (point n 0) hs (along_edge b p.block n [])
  succeeds : (p : Point) (hs : List Handler) (x : Set) (v t e : ℕ) → set_at b p ≡ Some (x, tests e)
      → last_of (block_at b p.block) ≡ Some (succeeded v t e)
      → Step b p hs (point t 0) (opened x.op x.dst e hs) (along_edge b p.block t (given_vars x))
  fails : (p : Point) (hs : List Handler) (x : Set) (e : ℕ) → set_at b p ≡ Some (x, tests e) → (x.op ≡ try_start → ⊥)
      → Step b p hs (point e 0) hs (along_edge b p.block e [])
  raises : (p : Point) (h : Handler) (hs : List Handler) (x : Set) (m : Mode) → set_at b p ≡ Some (x, m)
      → IsTrue (may_raise m x.op)
      → Step b p (h ∷ hs) (point h.landing 0) hs (along_edge b p.block h.landing [])

-- A way from the start to a point: the variables that it set, and the handlers that are open, from the inside out.
pub data Way (b : Body) : Point → List ℕ → List Handler → Type 0 where
  begins : Way b (point 0 0) b.params []
  goes : (p q : Point) (vs : List ℕ) (hs is' : List Handler) (e : Effect) → Way b p vs hs → Step b p hs q is' e
      → Way b q (e.phis ++ e.sets ++ vs) is'

-- a way reaches the point, with these handlers open
abbrev pub Reached : Body → Point → List Handler → Type 0
Reached b p hs = (vs : List ℕ) × Way b p vs hs

-- a way leads from one block into another
abbrev pub Leads : Body → ℕ → ℕ → Type 0
Leads b n m =
    (k : ℕ) × (hs is' : List Handler) × (e : Effect) × Reached b (point n k) hs
    × Step b (point n k) hs (point m 0) is' e

-- the blocks that ways pass from one to another, the first included, the last not
pub data Passing (b : Body) : ℕ → ℕ → List ℕ → Type 0 where
  one : (n m : ℕ) → Leads b n m → Passing b n m (n ∷ [])
  more : (n m l : ℕ) (ns : List ℕ) → Leads b n m → Passing b m l ns → Passing b n l (n ∷ ns)
