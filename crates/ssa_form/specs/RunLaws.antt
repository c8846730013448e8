-- Laws of the runs of bodies.
use Rattle.std.specs.Prelude.{◌≡◌, ◌≢◌, ◌≤◌, ℕ, List, [], Option, if◌then◌else◌}
use Rattle.erl_base.specs.Lists.{among}
use Rattle.world_model.specs.Run.{State, Outcome}
use Rattle.erl_term.specs.Term.{Term}
use Rattle.erl_term.specs.Terms.{Values}
use Rattle.step_machine.specs.Bodies.{Here}
use Rattle.step_machine.specs.EntryBound.{Lowers}
use Rattle.step_machine.specs.Frames.{MatchContext}
use Rattle.ssa_form.specs.Ssa.{Body}
use Rattle.ssa_form.specs.Storage.{Held, Storage, Around, Frame, Ended, done, unfinished}
use Rattle.ssa_form.specs.SsaRun.{Raised, blocks, body_run, in_vars, params_hold, ssa_run, SsaGives}
use Rattle.ssa_form.specs.PlacedRun.{Placed, placed_run}
use Rattle.ssa_form.specs.FramedRun.{Framed, framed_run}
use Rattle.ssa_form.specs.WellFormed.{CycleRule, WellFormed}

-- A run that is over, or that broke a rule, stays so however many blocks more it is allowed.
abbrev pub MoreBlocksChangeNothing : Type 0 → Type 0
MoreBlocksChangeNothing S =
    (o : Storage S) (around : Around) (here : Here) (b : Body) (k j : ℕ) (e : Option Raised) (from n : ℕ) (f : Frame S)
    (s : State)
    → k ≤ j → blocks o around here b k e from n f s ≢ unfinished
    → blocks o around here b j e from n f s ≡ blocks o around here b k e from n f s

-- a body has at most one result
abbrev pub GivesOneResult : Type 0
GivesOneResult =
    (around : Around) (here : Here) (b : Body) (vs : Values) (s : State) (r q : State × Outcome Term)
    → SsaGives around here b vs s r → SsaGives around here b vs s q → r ≡ q

-- A run that is allowed ever more blocks: with some number of them it is over, or broke a rule.
pub record IsOver (run : ℕ → Ended) : Type 0 where
  pub within : ℕ
  pub over : run within ≢ unfinished

-- The meaning of each form is total under the cycle rule, on all arguments, contexts and states, where no call gives
-- entries back: each turn of a cycle uses an entry, a reply or a message, or it moves the save place on.
pub record RunsEnd : Type 0 where
  pub ssa : (around : Around) (here : Here) (b : Body) (hs : List Held) (cs : List MatchContext) (s : State)
      → CycleRule b → Lowers here.enter → IsOver (λ k. ssa_run around here b k hs cs s)
  pub placed : (around : Around) (here : Here) (p : Placed) (hs : List Held) (cs : List MatchContext) (s : State)
      → CycleRule p.body → Lowers here.enter → IsOver (λ k. placed_run around here p k hs cs s)
  pub framed : (around : Around) (here : Here) (p : Framed) (hs : List Held) (cs : List MatchContext) (s : State)
      → CycleRule p.body → Lowers here.enter → IsOver (λ k. framed_run around here p k hs cs s)

-- nor does a run give entries back: so functions whose bodies these are meet that condition, if those that they enter
-- do
pub record RunsLower : Type 0 where
  pub ssa : (around : Around) (here : Here) (b : Body) (k : ℕ) (hs : List Held) (cs : List MatchContext) (s u : State)
      (q : Outcome Term)
      → Lowers here.enter → ssa_run around here b k hs cs s ≡ done u q → u.left ≤ s.left
  pub placed : (around : Around) (here : Here) (p : Placed) (k : ℕ) (hs : List Held) (cs : List MatchContext)
      (s u : State) (q : Outcome Term)
      → Lowers here.enter → placed_run around here p k hs cs s ≡ done u q → u.left ≤ s.left
  pub framed : (around : Around) (here : Here) (p : Framed) (k : ℕ) (hs : List Held) (cs : List MatchContext)
      (s u : State) (q : Outcome Term)
      → Lowers here.enter → framed_run around here p k hs cs s ≡ done u q → u.left ≤ s.left

-- the arguments in their parameters, and any values in the other variables
abbrev pub beside_params : List ℕ → List Held → (ℕ → Held) → ℕ → Held
beside_params ps hs w v = if among v ps then params_hold ps hs v else w v

-- In a well-formed body no variable is looked at before it was set: what the variables that are no parameters hold at
-- first changes nothing.
abbrev pub UnsetIsNeverSeen : Type 0
UnsetIsNeverSeen =
    (around : Around) (here : Here) (b : Body) (k : ℕ) (hs : List Held) (cs : List MatchContext) (s : State)
    (w : ℕ → Held)
    → WellFormed b
    → body_run in_vars around here b k (record { values = beside_params b.params hs w; handlers = [] }) cs s
    ≡ ssa_run around here b k hs cs s
