-- Meanings that count their entries: one is spent for each that is noted, none is given back, and a meaning is spent
-- only where none is left.
use Rattle.std.specs.Prelude.{◌≡◌, ◌≤◌, ◌<◌, ◌+◌, ℕ, suc, length}
use Rattle.erl_term.specs.Term.{Term}
use Rattle.erl_term.specs.Terms.{Values}
use Rattle.world_model.specs.Run.{State, entries, Outcome, gives, raises, waits, spent, M}
use Rattle.step_machine.specs.Bodies.{Here, Bodies}

-- no entry was left
abbrev pub IsSpent : {A : Type 0} → Outcome A → Type 0
IsSpent (gives a) = ⊥
IsSpent (raises c r) = ⊥
IsSpent (waits q) = ⊥
IsSpent spent = Unit {0}

-- from s, where fewer than d entries are left
pub record KeptCount (d : ℕ) {A : Type 0} (s : State) (r : State × Outcome A) : Type 0 where
  pub low : r.0.left ≤ s.left
  pub sum : length (entries r.0.notes) + r.0.left ≡ length (entries s.notes) + s.left
  pub out : s.left < d → IsSpent r.1 → r.0.left ≡ 0

-- a meaning counts its entries, wherever it starts
pub record KeepsCount (d : ℕ) {A : Type 0} (m : M A) : Type 0 where
  pub at : (s : State) → KeptCount d s (m s)

-- what is entered has one entry less
pub record KeepsCountBelow (d : ℕ) {A : Type 0} (m : M A) : Type 0 where
  pub low : (s : State) → (m s).0.left ≤ s.left
  pub sum : (s : State) → length (entries (m s).0.notes) + (m s).0.left ≡ length (entries s.notes) + s.left
  pub out : (s : State) → suc s.left < d → IsSpent (m s).1 → (m s).0.left ≡ 0

-- a body keeps this, where what it enters does
abbrev pub BodiesKeep : Bodies → Type 0
BodiesKeep bs =
    (d n : ℕ) (here : Here) (vs : Values) → ((k : ℕ) (ws : Values) → KeepsCountBelow d (here.enter k ws))
    → KeepsCount d (bs n here vs)

-- no call gives entries back
abbrev pub Lowers : (ℕ → Values → M Term) → Type 0
Lowers enter = (n : ℕ) (vs : Values) (s : State) → (enter n vs s).0.left ≤ s.left
