-- What a run noted in order, and when it matches what a Core module does with a bound on entries.
use Rattle.std.specs.Prelude.{◌≡◌, ◌≤◌, ℕ, List, ◌++◌, reverse}
use Rattle.erl_term.specs.Term.{Term}
use Rattle.world_model.specs.World.{Happening}
use Rattle.world_model.specs.Run.{Entry, Outcome}
use Rattle.core_meaning.specs.CoreRun.{Result}
use Rattle.step_machine.specs.Steps as Steps
use Rattle.step_machine.specs.Steps.{Ran, over, happenings, entries, sites, serials}
use Rattle.step_machine.specs.Follows.{EndsAs, LeavesOut, KeepsTails, site_list}

-- what happened, in order
abbrev pub happened_in : Ran → List Happening
happened_in r = reverse (happenings r.log)

-- the entries, in order
abbrev pub entered_in : Ran → List Entry
entered_in r = reverse (entries r.log)

-- the functions that were entered
abbrev pub sites_in : Ran → List ℕ
sites_in r = reverse (sites r.log)

-- the messages that were looked at
abbrev pub examined_in : Ran → List ℕ
examined_in r = reverse (serials r.log)

-- the one begins with the other
abbrev pub IsPrefix : List Happening → List Happening → Type 0
IsPrefix xs ys = (later : List Happening) × (xs ++ later ≡ ys)

-- the same happenings, the same sites entered, and the same end, or none yet where the bound is met;
-- of the messages that were looked at only some that no clause accepted are left out
pub record ReachesResult (r : Ran) (e : Result) : Type 0 where
  pub happenings : happened_in r ≡ e.happenings
  pub sites : sites_in r ≡ site_list e.entries
  pub end : EndsAs r.end e.end
  pub examined : LeavesOut e.looks (examined_in r)

-- the happenings so far, the same sites entered, and at an end all happenings and that end
pub record StaysWithin (r : Ran) (e : Result) : Type 0 where
  pub happenings : IsPrefix (happened_in r) e.happenings
  pub sites : sites_in r ≡ site_list e.entries
  pub ends : (o : Outcome Term) → r.end ≡ over o → (happened_in r ≡ e.happenings) × (e.end ≡ o)

-- a tail entry of the module is a tail entry of the run
abbrev pub KeepsTailEntries : Ran → Result → Type 0
KeepsTailEntries r e = KeepsTails e.entries (entered_in r)

-- the messages that the module examines, none passed over that a clause accepts, and no more sub-binaries
pub record Costs (r : Ran) (e : Result) : Type 0 where
  pub examined : examined_in r ≡ e.examined
  pub passed : LeavesOut e.looks e.examined
  pub subs : Steps.subs r.log ≤ e.subs

-- every bound is reached, with tail entries kept
abbrev pub FollowsTails : (ℕ → Ran) → (ℕ → Result) → Type 0
FollowsTails run eval = (n : ℕ) → (k : ℕ) × ReachesResult (run k) (eval n) × KeepsTailEntries (run k) (eval n)

-- every bound is reached at these costs
abbrev pub FollowsCosts : (ℕ → Ran) → (ℕ → Result) → Type 0
FollowsCosts run eval = (n : ℕ) → (k : ℕ) × ReachesResult (run k) (eval n) × Costs (run k) (eval n)
