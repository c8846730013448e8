-- What asking and receiving do, in words.
use Rattle.std.specs.Prelude.{◌≡◌, ℕ, ◌+◌, ◌≤◌, List, [], ◌∷◌, ◌++◌, length, true, false, Some, None, All}
use Rattle.erl_term.specs.Term.{Term}
use Rattle.erl_term.specs.Terms.{Values}
use Rattle.world_model.specs.World.{Request, Reply, Message, asked, taken}
use Rattle.world_model.specs.Run.{Note, happened, looked, cut, happenings, entries, looks, State, gives, M, numbered, ask}
use Rattle.world_model.specs.Receive.{Tried, Timeout, without, receiving, looking}

-- A request that finds a reply gives it. It is one happening more, and nothing else is noted; the messages that came
-- join the end of the mailbox with the next serials.
pub record AsksOnce (q : Request) (r : Reply) (rs : List Reply) (s : State) : Type 0 where
  pub given : (ask q s).1 ≡ gives r
  pub left : (ask q s).0.replies ≡ rs
  pub joined : (ask q s).0.mailbox ≡ s.mailbox ++ numbered s.next r.arrivals
  pub counted : (ask q s).0.next ≡ s.next + length r.arrivals
  pub one_more : happenings (ask q s).0.notes ≡ asked q r ∷ happenings s.notes
  pub same_entries : entries (ask q s).0.notes ≡ entries s.notes
  pub same_looks : looks (ask q s).0.notes ≡ looks s.notes

-- the serials of these messages rise from n on and stay below the next one
abbrev pub RiseFrom : ℕ → List Message → ℕ → Type 0
RiseFrom n [] next = n ≤ next
RiseFrom n (m ∷ ms) next = (n ≤ m.serial) × RiseFrom (m.serial + 1) ms next

-- the serials of the mailbox rise, below the next one
abbrev pub SerialsRise : State → Type 0
SerialsRise s = RiseFrom 0 s.mailbox s.next

-- what is taken out of this mailbox by its serial is one message alone
abbrev pub TakesOneOut : List Message → Type 0
TakesOneOut ms =
    (passed later : List Message) (m : Message) → ms ≡ passed ++ m ∷ later → without m.serial ms ≡ passed ++ later

module _ {A : Type 0} (pick : Term → Tried A) where
  -- no clause accepts any of these messages
  abbrev pub AllRejected : List Message → Type 0
  AllRejected ms = All (λ m. (pick m.term).body ≡ None) ms

  -- what is noted of messages that are passed over
  abbrev pub passing : List Message → List Note → List Note
  passing [] ns = ns
  passing (m ∷ ms) ns =
      passing ms (looked (record { serial = m.serial; accepted = false }) ∷ cut (pick m.term).cuts ∷ ns)

  -- the state once a message is taken behind those that are passed over
  abbrev pub taking_behind : List Message → Message → State → State
  taking_behind passed m s = record s {
    mailbox = without m.serial s.mailbox;
    notes =
        happened (taken m.serial) ∷ looked (record { serial = m.serial; accepted = true })
        ∷ cut (pick m.term).cuts ∷ passing passed s.notes;
  }

-- a receive takes the first message in mailbox order that a clause accepts
abbrev pub TakesFirst : (Term → Tried Values) → Timeout → M Values → Type 0
TakesFirst pick timeout late =
    (s : State) (passed later : List Message) (m : Message) (body : M Values)
    → s.mailbox ≡ passed ++ m ∷ later → AllRejected pick passed → (pick m.term).body ≡ Some body
    → receiving pick timeout late s ≡ body (taking_behind pick passed m s)

-- where no clause accepts any of them, it looks for more
abbrev pub LooksForMore : (Term → Tried Values) → Timeout → M Values → Type 0
LooksForMore pick timeout late =
    (s : State) → AllRejected pick s.mailbox
    → receiving pick timeout late s
    ≡ looking pick timeout late s.replies (record s { notes = passing pick s.mailbox s.notes })
