-- Where a variable's value is needed, and its live interval.
use Rattle.std.specs.Prelude.{◌≡◌, ◌≤◌, ◌↔◌, ◌⊎◌, ℕ, suc, ◌+◌, List, [], ◌∷◌, ◌++◌, Contains, IsTrue, IsFalse, Bool, true, false, Option, Some, None, if◌then◌else◌}
use Rattle.erl_base.specs.Lists.{among}
use Rattle.ssa_form.specs.Ssa.{Set, Last, br, succeeded, switch, ret, Body}
use Rattle.ssa_form.specs.Storage.{Handler, Mode}
use Rattle.ssa_form.specs.SsaRun.{is_landing, is_catch_end}
use Rattle.ssa_form.specs.SetFacts.{arg_vars, given_vars, names_handler, is_tests, may_raise, unsets_registers}
use Rattle.ssa_form.specs.Flow.{Point, point, next, set_at, last_at, phis_at, phi_vars, after_op, Effect, Step, Reached}

-- the variables that a last reads
abbrev pub last_vars : Last → List ℕ
last_vars (br a t e) = arg_vars (a ∷ [])
last_vars (succeeded v t e) = []
last_vars (switch a d cs) = arg_vars (a ∷ [])
last_vars (ret a) = arg_vars (a ∷ [])

-- the variables that a set reads
abbrev pub set_vars : Option (Set × Mode) → List ℕ
set_vars None = []
set_vars (Some x) = arg_vars x.0.args

-- the same of a last that may be missing
abbrev pub end_vars : Option Last → List ℕ
end_vars None = []
end_vars (Some l) = last_vars l

-- the variables that are read at a point
abbrev pub used_at : Body → Point → List ℕ
used_at b p = set_vars (set_at b p) ++ end_vars (last_at b p)

-- those that are read there as values, not as the tags of handlers
abbrev pub value_vars : Option (Set × Mode) → List ℕ
value_vars None = []
value_vars (Some x) = if names_handler x.0.op then [] else arg_vars x.0.args

-- the variables whose values are read at a point
abbrev pub values_at : Body → Point → List ℕ
values_at b p = value_vars (set_at b p) ++ end_vars (last_at b p)

-- From a point with these open handlers, a path leads to a use of the variable and does not pass its definition. Phis
-- read along the edge, before they are set.
pub data LiveFrom (b : Body) (v : ℕ) : Point → List Handler → Type 0 where
  used : (p : Point) (hs : List Handler) → IsTrue (among v (used_at b p)) → LiveFrom b v p hs
  by_phi : (p q : Point) (hs is' : List Handler) (e : Effect) → Step b p hs q is' e
      → IsFalse (among v e.sets) → IsTrue (among v e.reads) → LiveFrom b v p hs
  later : (p q : Point) (hs is' : List Handler) (e : Effect) → Step b p hs q is' e
      → IsFalse (among v e.sets) → IsFalse (among v e.phis) → LiveFrom b v q is' → LiveFrom b v p hs

-- live at a point that a way reaches
abbrev pub Live : Body → ℕ → Point → Type 0
Live b v p = (hs : List Handler) × Reached b p hs × LiveFrom b v p hs

-- Live lists: for each block that ways reach, the variables that are live where it begins.

-- the variables that are live at the start of each block
abbrev pub LiveLists : Type 0
LiveLists = List (ℕ × List ℕ)

-- the lists hold those variables and no others
pub record AreLiveLists (b : Body) (ls : LiveLists) : Type 0 where
  pub all : (n : ℕ) (hs : List Handler) → Reached b (point n 0) hs → (vs : List ℕ) × Contains ls (n, vs)
  pub exact : (n : ℕ) (vs : List ℕ) → Contains ls (n, vs) → (v : ℕ) → Contains vs v ↔ Live b v (point n 0)

-- where no path leads on but past the set: a variable is live before a set that reads it, or that leaves it and behind
-- which it is
abbrev pub LiveBeforeSet : Body → Type 0
LiveBeforeSet b = (v : ℕ) (p : Point) (hs : List Handler) (x : Set) (m : Mode)
    → set_at b p ≡ Some (x, m) → IsFalse (is_tests m) → IsFalse (may_raise m x.op)
    → LiveFrom b v p hs
    ↔ (IsTrue (among v (arg_vars x.args))
    ⊎ (IsFalse (among v (given_vars x)) × LiveFrom b v (next p) (after_op x.op hs)))

-- On some step from a point, the variable is not set by the set there and is live behind it.
pub data LiveAfter (b : Body) (v : ℕ) : Point → Type 0 where
  read : (p q : Point) (hs is' : List Handler) (e : Effect) → Reached b p hs → Step b p hs q is' e
      → IsFalse (among v e.sets) → IsTrue (among v e.reads) → LiveAfter b v p
  live : (p q : Point) (hs is' : List Handler) (e : Effect) → Reached b p hs → Step b p hs q is' e
      → IsFalse (among v e.sets) → IsFalse (among v e.phis) → LiveFrom b v q is' → LiveAfter b v p

-- a landing or the end of a catch stands there
abbrev pub lands_first : Option (Set × Mode) → Bool
lands_first None = false
lands_first (Some x) = elim (is_landing x.0.op) [ true ↦ true | false ↦ is_catch_end x.0.op ]

-- The X registers are unset while the variable is live: by an operation that doesn't set it, or where a raise lands.
pub data Across (b : Body) (v : ℕ) : Type 0 where
  over : (p : Point) (x : Set) (m : Mode) → set_at b p ≡ Some (x, m) → IsTrue (unsets_registers x.op) → LiveAfter b v p
      → Across b v
  lands : (n : ℕ) → IsTrue (lands_first (set_at b (point n 0))) → Live b v (point n 0) → Across b v

-- Numbers of places: a block begins with its first number, where its parameters or phis are set, and each set and the
-- last has the next one.
abbrev pub number_of : (ℕ → ℕ) → Point → ℕ
number_of first p = suc (first p.block + p.done)

-- the numbers at which a variable's value is set or live; only blocks that ways reach have numbers
pub data Needed (first : ℕ → ℕ) (b : Body) (v : ℕ) : ℕ → Type 0 where
  param : Contains b.params v → Needed first b v (first 0)
  phi : (n : ℕ) (hs : List Handler) → Reached b (point n 0) hs → IsTrue (among v (phi_vars (phis_at b n)))
      → Needed first b v (first n)
  sets : (p : Point) (hs : List Handler) (x : Set) (m : Mode) → Reached b p hs → set_at b p ≡ Some (x, m)
      → x.dst ≡ Some v → Needed first b v (number_of first p)
  lives : (p : Point) → Live b v p → Needed first b v (number_of first p)
  lives_in : (n : ℕ) → Live b v (point n 0) → Needed first b v (first n)

-- a variable, and the numbers from which and to which it is needed
pub record Interval : Type 0 where
  pub var : ℕ
  pub from : ℕ
  pub to : ℕ
  pub across : Bool

-- the least range of numbers at which the variable is needed
pub record IsInterval (first : ℕ → ℕ) (b : Body) (i : Interval) : Type 0 where
  pub holds : (k : ℕ) → Needed first b i.var k → (i.from ≤ k) × (k ≤ i.to)
  pub begins : Needed first b i.var i.from
  pub ends : Needed first b i.var i.to
  pub across : IsTrue i.across ↔ Across b i.var
