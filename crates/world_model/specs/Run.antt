-- Runs: what is noted, the state of a run, and meanings, which go from one state to the next.
use Rattle.std.specs.Prelude.{ℕ, ◌+◌, List, [], ◌∷◌, ◌++◌, Bool, Option, length}
use Rattle.erl_term.specs.Term.{Term, Class}
use Rattle.world_model.specs.World.{Request, Reply, Message, Happening, asked}

-- the function that a call entered, by its site, and whether it was a tail call by name
pub record Entry : Type 0 where
  pub site : ℕ
  pub tail : Bool

-- a message that a receive looked at, by its serial, and whether a clause accepted it
pub record Looked : Type 0 where
  pub serial : ℕ
  pub accepted : Bool

-- a reference that a marking call returned, the serial number that was the next one when it was asked for,
-- and the mailbox as it was then
pub record Marked : Type 0 where
  pub reference : Term
  pub serial : ℕ
  pub before : List Message

-- began: a receive has evaluated its timeout; the value of the variable that marks it, if one does
-- cut: clauses were tried, or none was left, which may make this many sub-binaries
pub data Note : Type 0 where
  happened : Happening → Note
  entered : Entry → Note
  looked : Looked → Note
  marked : Marked → Note
  began : Option Term → Note
  cut : ℕ → Note

-- what a run has: what the script still holds, the mailbox, how many entries are left, and what was noted,
-- the latest first
pub record State : Type 0 where
  pub replies : List Reply
  pub mailbox : List Message
  pub next : ℕ
  pub left : ℕ
  pub notes : List Note

-- with a note more
abbrev pub noting : Note → State → State
noting n s = record s { notes = n ∷ s.notes }

-- what happened
abbrev pub happenings : List Note → List Happening
happenings [] = []
happenings (happened h ∷ ns) = h ∷ happenings ns
happenings (_ ∷ ns) = happenings ns

-- the functions that were entered
abbrev pub entries : List Note → List Entry
entries [] = []
entries (entered e ∷ ns) = e ∷ entries ns
entries (_ ∷ ns) = entries ns

-- the messages that were looked at
abbrev pub looks : List Note → List Looked
looks [] = []
looks (looked l ∷ ns) = l ∷ looks ns
looks (_ ∷ ns) = looks ns

-- the references that marking calls returned
abbrev pub marks : List Note → List Marked
marks [] = []
marks (marked x ∷ ns) = x ∷ marks ns
marks (_ ∷ ns) = marks ns

-- the sum of the sub-binaries that the trying of clauses may make
abbrev pub sub_binaries : List Note → ℕ
sub_binaries [] = 0
sub_binaries (cut n ∷ ns) = n + sub_binaries ns
sub_binaries (_ ∷ ns) = sub_binaries ns

-- how a meaning ends: with a value, a raise, a request that finds no reply, or no entry left
pub data Outcome (A : Type 0) : Type 0 where
  gives : A → Outcome A
  raises : Class → Term → Outcome A
  waits : Request → Outcome A
  spent : Outcome A

-- a meaning: from a state it comes to another, with an outcome
abbrev pub M : Type 0 → Type 0
M A = State → State × Outcome A

-- an outcome, and what is done with what it gives
abbrev pub after : {A B : Type 0} → State → Outcome A → (A → M B) → State × Outcome B
after s (gives a) f = f a s
after s (raises c r) f = (s, raises c r)
after s (waits q) f = (s, waits q)
after s spent f = (s, spent)

-- the same, of a state with an outcome
abbrev pub going_on : {A B : Type 0} → State × Outcome A → (A → M B) → State × Outcome B
going_on r f = after r.0 r.1 f

infixl 15 ◌>>=◌
-- one meaning after the other
abbrev pub ◌>>=◌ : {A B : Type 0} → M A → (A → M B) → M B
m >>= f = λ s. going_on (m s) f

-- gives a value, and changes nothing
abbrev pub give : {A : Type 0} → A → M A
give a = λ s. (s, gives a)

-- raises, and changes nothing
abbrev pub fail : {A : Type 0} → Class → Term → M A
fail c r = λ s. (s, raises c r)

-- the messages with these terms, whose serials begin at n
abbrev pub numbered : ℕ → List Term → List Message
numbered n [] = []
numbered n (t ∷ ts) = record { serial = n; term = t } ∷ numbered (n + 1) ts

-- the next reply, whose arrivals join the mailbox
abbrev pub answered : Request → Reply → List Reply → State → State
answered q r rs s = record s {
  replies = rs;
  mailbox = s.mailbox ++ numbered s.next r.arrivals;
  next = s.next + length r.arrivals;
  notes = happened (asked q r) ∷ s.notes;
}

-- a request where these replies are left
abbrev pub ask_from : Request → List Reply → State → State × Outcome Reply
ask_from q [] s = (s, waits q)
ask_from q (r ∷ rs) s = (answered q r rs s, gives r)

-- asks the world, and gives its reply
abbrev pub ask : Request → M Reply
ask q = λ s. ask_from q s.replies s
