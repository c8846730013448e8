-- Runs of a machine that end before the first step that a test refuses.
use Rattle.std.specs.Prelude.{ℕ, zero, suc, List, [], ◌∷◌, Bool, true, false}
use Rattle.world_model.specs.Run.{waits}
use Rattle.world_model.specs.World.{Reply, asked}
use Rattle.step_machine.specs.Steps.{Stepped, goes, ends, bad, notes, asks, Event, happened, End, over, unfinished, is_bad}

-- how a trace ends: as a run does, or before a step that is refused
pub data TraceEnd : Type 0 where
  ended : End → TraceEnd
  beyond : TraceEnd

-- what a trace noted, the latest first, and its end
pub record Traced : Type 0 where
  pub log : List Event
  pub end : TraceEnd

-- a trace with these notes and this end
abbrev pub traced : List Event → TraceEnd → Traced
traced log e = record { log = log; end = e }

-- what a step leads to is done: k goes on from the next state
abbrev pub trace_on : {S : Type 0} → Stepped S → (S → List Reply → List Event → Traced) → List Reply → List Event
    → Traced
trace_on (goes m) k rs log = k m rs log
trace_on (ends o) k rs log = traced log (ended (over o))
trace_on bad k rs log = traced log (ended is_bad)
trace_on (notes n s) k rs log = trace_on s k rs (n ∷ log)
trace_on (asks q f) k [] log = traced log (ended (over (waits q)))
trace_on (asks q f) k (r ∷ rs) log = trace_on (f r) k rs (happened (asked q r) ∷ log)

-- the trace that goes on, where the step is let through
abbrev pub trace_if : Bool → List Event → Traced → Traced
trace_if false log t = traced log beyond
trace_if true log t = t

-- Given the steps of a machine, and the test of a step and the replies that are left.
module _ {S : Type 0} (passes : Stepped S → List Reply → Bool) (step : S → Stepped S) where
  -- at most k steps, all of which pass
  unfoldable pub trace : ℕ → S → List Reply → List Event → Traced
  trace zero m rs log = traced log (ended unfinished)
  trace (suc k) m rs log = trace_if (passes (step m) rs) log (trace_on (step m) (trace k) rs log)
