-- Machines that make steps, note what they do, and ask the world.
use Rattle.std.specs.Prelude.{ℕ, zero, suc, List, [], ◌∷◌}
use Rattle.erl_term.specs.Term.{Term}
use Rattle.world_model.specs.Run.{Entry, Outcome, waits}
use Rattle.world_model.specs.World.{Request, Reply, Happening, asked}

-- what a step notes: what happened, a function that was entered, the serial of a message that was looked at, a
-- sub-binary that was made
pub data Event : Type 0 where
  happened : Happening → Event
  entered : Entry → Event
  examined : ℕ → Event
  sub_binary : Event

-- what a step leads to: another state, an end, or what must not be; before that it may note something, or
-- ask for a reply
pub data Stepped (S : Type 0) : Type 0 where
  goes : S → Stepped S
  ends : Outcome Term → Stepped S
  bad : Stepped S
  notes : Event → Stepped S → Stepped S
  asks : Request → (Reply → Stepped S) → Stepped S

-- how a run ends: with an outcome, with steps left to make, or with a broken rule
pub data End : Type 0 where
  over : Outcome Term → End
  unfinished : End
  is_bad : End

-- what a run noted, the latest first, and its end
pub record Ran : Type 0 where
  pub log : List Event
  pub end : End

-- a run with these notes and this end
abbrev pub ran : List Event → End → Ran
ran log e = record { log = log; end = e }

-- what a step leads to is done: k goes on from the next state
abbrev pub perform : {S : Type 0} → Stepped S → (S → List Reply → List Event → Ran) → List Reply → List Event → Ran
perform (goes m) k rs log = k m rs log
perform (ends o) k rs log = ran log (over o)
perform bad k rs log = ran log is_bad
perform (notes n s) k rs log = perform s k rs (n ∷ log)
perform (asks q f) k [] log = ran log (over (waits q))
perform (asks q f) k (r ∷ rs) log = perform (f r) k rs (happened (asked q r) ∷ log)

-- j steps more than k
abbrev pub up : ℕ → ℕ → ℕ
up zero k = k
up (suc j) k = suc (up j k)

-- at most k steps
unfoldable pub run : {S : Type 0} → (S → Stepped S) → ℕ → S → List Reply → List Event → Ran
run step zero m rs log = ran log unfinished
run step (suc k) m rs log = perform (step m) (run step k) rs log

-- what happened
abbrev pub happenings : List Event → List Happening
happenings [] = []
happenings (happened h ∷ ns) = h ∷ happenings ns
happenings (_ ∷ ns) = happenings ns

-- the functions that were entered
abbrev pub entries : List Event → List Entry
entries [] = []
entries (entered e ∷ ns) = e ∷ entries ns
entries (_ ∷ ns) = entries ns

-- the functions that local calls entered
abbrev pub sites : List Event → List ℕ
sites [] = []
sites (entered e ∷ ns) = e.site ∷ sites ns
sites (_ ∷ ns) = sites ns

-- the serials of the messages that were looked at
abbrev pub serials : List Event → List ℕ
serials [] = []
serials (examined n ∷ ns) = n ∷ serials ns
serials (_ ∷ ns) = serials ns

-- how many sub-binaries were made
abbrev pub subs : List Event → ℕ
subs [] = 0
subs (sub_binary ∷ ns) = suc (subs ns)
subs (_ ∷ ns) = subs ns

-- where a run stands after k steps, or how it ended before
pub data AfterSteps (S : Type 0) : Type 0 where
  at : S → List Reply → List Event → AfterSteps S
  stopped : Ran → AfterSteps S

-- the same as `perform`, where k says where the run stands later
abbrev pub reach_by : {S : Type 0} → Stepped S → (S → List Reply → List Event → AfterSteps S) → List Reply
    → List Event → AfterSteps S
reach_by (goes m) k rs log = k m rs log
reach_by (ends o) k rs log = stopped (ran log (over o))
reach_by bad k rs log = stopped (ran log is_bad)
reach_by (notes n s) k rs log = reach_by s k rs (n ∷ log)
reach_by (asks q f) k [] log = stopped (ran log (over (waits q)))
reach_by (asks q f) k (r ∷ rs) log = reach_by (f r) k rs (happened (asked q r) ∷ log)

-- after k steps
unfoldable pub reach : {S : Type 0} → (S → Stepped S) → ℕ → S → List Reply → List Event → AfterSteps S
reach step zero m rs log = at m rs log
reach step (suc k) m rs log = reach_by (step m) (reach step k) rs log

-- a run that goes on from where another one stands
abbrev pub from_there : {S : Type 0} → AfterSteps S → (S → List Reply → List Event → Ran) → Ran
from_there (at m rs log) f = f m rs log
from_there (stopped r) f = r
