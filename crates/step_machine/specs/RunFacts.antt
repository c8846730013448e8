-- What every run keeps, whatever its steps are: the statements that laws are about.
use Rattle.std.specs.Prelude.{◌≡◌, ◌≢◌, ◌≤◌, ℕ, List, ◌++◌}
use Rattle.world_model.specs.World.{Request, Reply}
use Rattle.world_model.specs.Run.{waits}
use Rattle.step_machine.specs.Steps.{Event, Stepped, over, unfinished, Ran, ran, up, run, reach, from_there}

-- the second log is the first with later notes in front
abbrev pub Later : List Event → List Event → Type 0
Later old new = (front : List Event) × (new ≡ front ++ old)

-- a run is over, or broke a rule
abbrev pub IsEnded : Ran → Type 0
IsEnded r = r.end ≢ unfinished

-- a run does not end with a request that finds no reply
abbrev pub NotWaiting : Ran → Type 0
NotWaiting r = (q : Request) → r.end ≢ over (waits q)

-- what was noted before a run, under what it notes
abbrev pub under : List Event → Ran → Ran
under log r = ran (r.log ++ log) r.end

-- an ended run stays ended
abbrev pub EndedRunStays : Type 0 → Type 0
EndedRunStays S = (step : S → Stepped S) (k j : ℕ) (m : S) (rs : List Reply) (log : List Event) →
    k ≤ j → IsEnded (run step k m rs log) → run step j m rs log ≡ run step k m rs log

-- more steps only add to the log
abbrev pub LogGrows : Type 0 → Type 0
LogGrows S = (step : S → Stepped S) (k j : ℕ) (m : S) (rs : List Reply) (log : List Event) →
    k ≤ j → Later (run step k m rs log).log (run step j m rs log).log

-- j steps and k more are a run of k after j
abbrev pub RunSplits : Type 0 → Type 0
RunSplits S = (step : S → Stepped S) (j k : ℕ) (m : S) (rs : List Reply) (log : List Event) →
    run step (up j k) m rs log ≡ from_there (reach step j m rs log) (run step k)

-- what was noted before a run does not matter
abbrev pub EarlierNotesStay : Type 0 → Type 0
EarlierNotesStay S = (step : S → Stepped S) (k : ℕ) (m : S) (rs : List Reply) (log base : List Event) →
    run step k m rs (log ++ base) ≡ under base (run step k m rs log)

-- nor do replies that it does not ask for
abbrev pub UnaskedRepliesStay : Type 0 → Type 0
UnaskedRepliesStay S = (step : S → Stepped S) (k : ℕ) (m : S) (rs more : List Reply) (log : List Event) →
    NotWaiting (run step k m rs log) → run step k m (rs ++ more) log ≡ run step k m rs log
