-- What laws of traces say.
use Rattle.std.specs.Prelude.{◌≡◌, ◌≢◌, ◌<◌, ℕ, List, Bool, true, false}
use Rattle.world_model.specs.World.{Reply}
use Rattle.step_machine.specs.Steps.{Stepped, Event, End, unfinished, Ran, ran, run, AfterSteps, at, reach, up}
use Rattle.traced_run.specs.Traces.{Traced, TraceEnd, ended, beyond, trace}

-- a run that is this trace, where the trace ends as a run does
abbrev pub IsRun : Traced → Ran → Type 0
IsRun t r = (e : End) → t.end ≡ ended e → r ≡ ran t.log e

-- Given the steps of a machine, and the test of a step and the replies that are left.
module _ {S : Type 0} (passes : Stepped S → List Reply → Bool) (step : S → Stepped S) where
  -- the trace of at most k steps is the run of at most k steps, where it does not go beyond
  abbrev pub TraceIsRun : ℕ → S → List Reply → List Event → Type 0
  TraceIsRun k m rs log = IsRun (trace passes step k m rs log) (run step k m rs log)

  -- some number of steps below k leads to these notes, and the next step is the first that does not pass
  pub record StopsAt (k : ℕ) (m : S) (rs : List Reply) (log noted : List Event) : Type 0 where
    pub steps : ℕ
    pub few : steps < k
    pub state : S
    pub replies : List Reply
    pub reached : reach step steps m rs log ≡ at state replies noted
    pub refused : passes (step state) replies ≡ false
    pub before : (i : ℕ) (n : S) (ss : List Reply) (l : List Event) → i < steps → reach step i m rs log ≡ at n ss l
        → passes (step n) ss ≡ true

  -- a trace that goes beyond stops there
  abbrev pub BeyondStops : ℕ → S → List Reply → List Event → Type 0
  BeyondStops k m rs log =
      let t = trace passes step k m rs log in
      t.end ≡ beyond → StopsAt k m rs log t.log

  -- a trace that has ended is the same for any more steps
  abbrev pub EndedStays : ℕ → S → List Reply → List Event → Type 0
  EndedStays k m rs log =
      (j : ℕ) → (trace passes step k m rs log).end ≢ ended unfinished
      → trace passes step (up j k) m rs log ≡ trace passes step k m rs log
