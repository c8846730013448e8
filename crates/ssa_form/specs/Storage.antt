-- What a body has while it runs, and the rules of the places where it keeps its variables' values.
-- (This project's own, after Erlang/OTP 25's SSA and BEAM.)
use Rattle.std.specs.Prelude.{ℕ, List, Bool, true, false, Option, Some, None}
use Rattle.erl_term.specs.Term.{Term, Class}
use Rattle.world_model.specs.World.{Message}
use Rattle.world_model.specs.Run.{State, Outcome}
use Rattle.step_machine.specs.Frames.{MatchContext}
use Rattle.ssa_form.specs.Ssa.{FrameAction}

-- What a variable holds. A context names an object that its copies share.
pub data Held : Type 0 where
  unset : Held
  term : Term → Held
  context position marker : ℕ → Held

-- an open handler: the variable that names it, and the block where a raise lands
pub record Handler : Type 0 where
  pub tag : ℕ
  pub landing : ℕ

-- how control leaves for a while or for good: a call, a call or a value that ends the body, or a call that always
-- raises
pub data Leaving : Type 0 where
  calls ends_body always_raises : Leaving

-- The rules of a storage S; None is a broken rule. A write and a frame action are told whether they come in the receive
-- window.
pub record Storage (S : Type 0) : Type 0 where
  pub read : S → ℕ → Held
  pub write : Bool → ℕ → Held → S → Option S
  -- before an operation that may collect, before control leaves, and where a block begins
  pub collects : S → Option S
  pub leaves : Leaving → S → Option S
  pub arrives : ℕ → S → Option S
  -- what calls, looks and waits unset
  pub forgets : S → S
  -- a handler opens, the innermost one closes
  pub opens : Handler → S → Option S
  pub closes : ℕ → S → Option S
  pub handler : S → Option Handler
  pub acts : Bool → FrameAction → S → Option S

-- save: how many messages stand before the save place; window: the message that is looked at and not yet taken
pub record Frame (S : Type 0) : Type 0 where
  pub store : S
  pub contexts : List MatchContext
  pub save : ℕ
  pub window : Option Message

-- What follows a set: the next one, a choice between the two blocks of a last, a raise, an end, or a broken rule.
pub data After (S : Type 0) : Type 0 where
  next : Frame S → State → After S
  choose : Bool → Frame S → State → After S
  raise : Class → Term → Frame S → State → After S
  finish : State → Outcome Term → After S
  bad : After S

-- How a run of a body stands: it is over, it broke a rule, or it needs more blocks than it was allowed.
pub data Ended : Type 0 where
  done : State → Outcome Term → Ended
  bad : Ended
  unfinished : Ended

-- how a block's last takes the last set: not at all, as its result, by the success of it, or by a plain jump
pub data Mode : Type 0 where
  plain tail jump : Mode
  tests : ℕ → Mode

-- what is known of the module: how many parameters each function has, captures included; the parameters, as site and
-- number, at which a context may come; whether each marker that is used is still kept; and the variables whose part of
-- a
-- binary is handed on and counts as no sub-binary
pub record Around : Type 0 where
  pub arities : List ℕ
  pub reached : List (ℕ × ℕ)
  pub choices : List Bool
  pub uncounted : List ℕ

-- whether a message is looked at
abbrev pub in_window : {S : Type 0} → Frame S → Bool
in_window f = elim f.window [ None ↦ false | Some m ↦ true ]

-- goes on behind a set
abbrev pub go_on : {S : Type 0} → After S → (Frame S → State → After S) → After S
go_on (next f s) k = k f s
go_on (choose b f s) k = choose b f s
go_on (raise c r f s) k = raise c r f s
go_on (finish s o) k = finish s o
go_on After.bad k = After.bad

-- a rule
abbrev pub when : {S : Type 0} → Bool → After S → After S
when true a = a
when false a = After.bad

-- this is wanted
abbrev pub if_some : {A S : Type 0} → Option A → (A → After S) → After S
if_some None k = After.bad
if_some (Some a) k = k a

-- no message may be looked at
abbrev pub outside : {S : Type 0} → Frame S → After S → After S
outside f a = elim f.window [ None ↦ a | Some m ↦ After.bad ]

-- a message has to be looked at
abbrev pub inside : {S : Type 0} → Frame S → (Message → After S) → After S
inside f k = elim f.window [ None ↦ After.bad | Some m ↦ k m ]

-- with this storage
abbrev pub kept : {S : Type 0} → Frame S → S → Frame S
kept f st = record f { store = st }
