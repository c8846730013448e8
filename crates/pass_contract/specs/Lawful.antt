-- What every run keeps, whatever it does (this project's own).
use Rattle.std.specs.Prelude.{◌≡◌, ◌≤◌, ◌<◌, ℕ, List, ◌++◌, Contains}
use Rattle.erl_term.specs.Term.{Term}
use Rattle.erl_term.specs.Terms.{Values}
use Rattle.world_model.specs.World.{Message}
use Rattle.world_model.specs.Run.{Note, State, M}

-- From s a run may come to u: it gives no entries back and only adds notes, the next serial never falls, and below the
-- old one stand only messages that stood there.
pub record Lawful (s u : State) : Type 0 where
  pub left : u.left ≤ s.left
  pub notes : (later : List Note) × (u.notes ≡ later ++ s.notes)
  pub next : s.next ≤ u.next
  pub below : (m : Message) → Contains u.mailbox m → m.serial < s.next → Contains s.mailbox m

-- functions that keep it, however they are entered
abbrev pub IsLawful : (ℕ → Values → M Term) → Type 0
IsLawful enter = (n : ℕ) (vs : Values) (s : State) → Lawful s (enter n vs s).0
