-- What every step keeps: the statements that laws are about.
use Rattle.std.specs.Prelude.{◌≡◌, ◌≤◌, ◌+◌, ◌⊎◌, ℕ, List, [], ◌∷◌, ◌++◌, length, Bool, true, false, Some, None}
use Rattle.erl_term.specs.Term.{Term, Class}
use Rattle.world_model.specs.World.{Reply, taken, asked}
use Rattle.world_model.specs.Run.{Entry, raises}
use Rattle.step_machine.specs.Steps.{Event, happened, entered, examined, sub_binary, goes, ends, bad, notes, asks, run, sites}
use Rattle.beam_table.specs.Code as C
use Rattle.beam_table.specs.Code.{AsmModule}
use Rattle.beam_table.specs.MachineState.{Kind, Activation, Machine}
use Rattle.beam_table.specs.GeneralRules.{Effect, tag_of, lands, unwinds}
use Rattle.beam_table.specs.Inbox.{Inbox, inbox, arrived, taken_out}
use Rattle.beam_table.specs.InstructionStep.{act, step}

-- the second is the first, or what is left of it
abbrev pub Suffix : List Activation → List Activation → Type 0
Suffix cs ds = (front : List Activation) × (cs ≡ front ++ ds)

-- a tail entry adds no activation, any other exactly one
abbrev pub Deeper : Bool → List Activation → List Activation → Type 0
Deeper true cs ds = ds ≡ cs
Deeper false cs ds = (f : Activation) × (ds ≡ f ∷ cs)

-- after an entry the run goes on
abbrev pub Entered : List Activation → Entry → Effect → Type 0
Entered cs e (goes u) = Deeper e.tail cs u.callers
Entered cs e _ = ⊥

-- a step enters at most one function, and then goes on there; without an entry no activation is added
abbrev pub Fine : List Activation → Effect → Type 0
Fine cs (goes u) = Suffix cs u.callers
Fine cs (ends o) = Unit {0}
Fine cs bad = Unit {0}
Fine cs (notes (entered e) s) = Entered cs e s
Fine cs (notes (happened h) s) = Fine cs s
Fine cs (notes (examined n) s) = Fine cs s
Fine cs (notes sub_binary s) = Fine cs s
Fine cs (asks q f) = (r : Reply) → Fine cs (f r)

-- the mailbox changes by the arrivals of the replies that are asked for, and by the message that is taken
abbrev pub ByEvents : Inbox → Effect → Type 0
ByEvents w (goes u) = inbox u ≡ w
ByEvents w (ends o) = Unit {0}
ByEvents w bad = Unit {0}
ByEvents w (notes (happened (taken n)) s) = ByEvents (taken_out n w) s
ByEvents w (notes (happened (asked q r)) s) = ⊥
ByEvents w (notes (entered e) s) = ByEvents w s
ByEvents w (notes (examined n) s) = ByEvents w s
ByEvents w (notes sub_binary s) = ByEvents w s
ByEvents w (asks q f) = (r : Reply) → ByEvents (arrived r w) (f r)

-- a step leaves the activations that wait as they are, with one more, or with some gone
abbrev pub StepsKeepTheStack : Type 0
StepsKeepTheStack = (a : AsmModule) (m : Machine) → Fine m.callers (step a m)

-- the mailbox changes by arrivals and by the message taken alone
abbrev pub OnlyEventsChangeTheMailbox : Type 0
OnlyEventsChangeTheMailbox = (a : AsmModule) (m : Machine) → ByEvents (inbox m) (step a m)

-- none of these activations has a tag
abbrev pub Untagged : List Activation → Type 0
Untagged [] = Unit {0}
Untagged (f ∷ fs) = (tag_of f.frame ≡ None) × Untagged fs

-- what a local call does where it is not bad: it enters one function, and goes on there
abbrev pub EntersOne : Bool → List Activation → Effect → Type 0
EntersOne tail cs s =
    (s ≡ bad)
    ⊎ ((n : ℕ) × (u : Machine) × (s ≡ notes (entered (record { site = n; tail = tail })) (goes u))
    × Deeper tail cs u.callers)

-- the three local calls note one entry, or are bad
pub record LocalCallsEnterOne (a : AsmModule) : Type 0 where
  pub call : (n l : ℕ) (m : Machine) → EntersOne false m.callers (act a (C.call n l) m)
  pub only : (n l : ℕ) (m : Machine) → EntersOne true m.callers (act a (C.call_only n l) m)
  pub last : (n l k : ℕ) (m : Machine) → EntersOne true m.callers (act a (C.call_last n l k) m)

-- k steps enter at most k functions
abbrev pub StepsEnterAtMostOne : AsmModule → Type 0
StepsEnterAtMostOne a =
    (k : ℕ) (m : Machine) (rs : List Reply) (log : List Event)
    → length (sites (run (step a) k m rs log).log) ≤ k + length (sites log)

-- a raise drops the activations without a tag up to the first that has one, and goes on at its lowest tag;
-- without a tag the run ends with it
pub record RaiseUnwinds (a : AsmModule) : Type 0 where
  pub past : (c : Class) (r : Term) (m : Machine) (fs gs : List Activation) → Untagged fs
      → unwinds a (fs ++ gs) c r m ≡ unwinds a gs c r m
  pub at : (c : Class) (r : Term) (m : Machine) (f : Activation) (fs : List Activation) (t : Kind × ℕ)
      → tag_of f.frame ≡ Some t →
      unwinds a (f ∷ fs) c r m ≡ lands a t.0 t.1 c r (record m { frame = f.frame; callers = fs })
  pub out : (c : Class) (r : Term) (m : Machine) (fs : List Activation) → Untagged fs
      → unwinds a fs c r m ≡ ends (raises c r)
