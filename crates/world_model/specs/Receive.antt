-- How messages are tried, taken and waited for.
use Rattle.std.specs.Prelude.{ℕ, zero, suc, List, [], ◌∷◌, true, false, eqb, leb, Option, Some, None, if◌then◌else◌, pos, codes}
use Rattle.erl_base.specs.Names.{same_name}
use Rattle.erl_term.specs.Term as T
use Rattle.erl_term.specs.Term.{Term}
use Rattle.erl_term.specs.Terms.{word}
use Rattle.world_model.specs.World as W
use Rattle.world_model.specs.World.{Delay, forever, millis, Reply, Message, taken}
use Rattle.world_model.specs.Run.{happened, looked, cut, noting, waits, M, fail, numbered, answered}

-- what a receive does with its timeout: goes on at once, waits so long, or raises
pub data Timeout : Type 0 where
  now : Timeout
  in' : Delay → Timeout
  wrong : Timeout

-- the longest delay in milliseconds
abbrev pub most_millis : ℕ
most_millis = 4294967295

-- 0, a number of milliseconds that fits 32 bits, or 'infinity'; nothing else is a timeout
abbrev pub timeout_of : Term → Timeout
timeout_of (T.int (pos zero)) = now
timeout_of (T.int (pos (suc n))) = if leb (suc n) most_millis then in' (millis (suc n)) else wrong
timeout_of (T.atom a) = if same_name a (codes "infinity") then in' forever else wrong
timeout_of t = wrong

-- a mailbox without the message with this serial
abbrev pub without : ℕ → List Message → List Message
without n [] = []
without n (m ∷ ms) = if eqb n m.serial then ms else m ∷ without n ms

-- the message is taken, and the body goes on
abbrev pub take_message : {A : Type 0} → Message → M A → M A
take_message m body = λ s. body (record s {
  mailbox = without m.serial s.mailbox;
  notes = happened (taken m.serial) ∷ looked (record { serial = m.serial; accepted = true }) ∷ s.notes;
})

-- the message is looked at and stays
abbrev pub pass_over : {A : Type 0} → Message → M A → M A
pass_over m rest = λ s. rest (noting (looked (record { serial = m.serial; accepted = false })) s)

-- What comes of trying clauses: the body of the one that accepts, if one does, and how many sub-binaries the trying
-- may make.
pub record Tried (A : Type 0) : Type 0 where
  pub cuts : ℕ
  pub body : Option (M A)

-- notes that trying may have made n sub-binaries
abbrev pub cutting : {A : Type 0} → ℕ → M A → M A
cutting n m = λ s. m (noting (cut n) s)

-- the first where there are no messages, else the second
abbrev pub new_or : {A : Type 0} → List Term → A → A → A
new_or [] a b = a
new_or (t ∷ ts) a b = b

-- takes the message with the body that accepts it, or passes it over
abbrev pub taking : {A : Type 0} → Message → Option (M A) → M A → M A
taking m None rest = pass_over m rest
taking m (Some body) rest = take_message m body

module _ {A : Type 0} (pick : Term → Tried A) where
  abbrev pub try_one : Message → Tried A → M A → M A
  try_one m t rest = cutting t.cuts (taking m t.body rest)

  abbrev pub try_each : List Message → M A → M A
  try_each [] rest = rest
  try_each (m ∷ ms) rest = try_one m (pick m.term) (try_each ms rest)

  module _ (timeout : Timeout) (late : M A) where
    abbrev mutual
      -- at the end of the mailbox
      pub looking : List Reply → M A
      looking [] = λ s. (s, waits W.look)
      looking (r ∷ rs) = λ s.
          new_or r.arrivals
          (elim timeout [ now ↦ late | in' d ↦ waiting rs d | wrong ↦ fail T.error (word (codes "timeout_value")) ])
          (try_each (numbered s.next r.arrivals) (looking rs))
          (answered W.look r rs s)

      pub waiting : List Reply → Delay → M A
      waiting [] d = λ s. (s, waits (W.wait d))
      waiting (r ∷ rs) d = λ s.
          new_or r.arrivals
          (elim d [ forever ↦ looking rs | millis n ↦ late ])
          (try_each (numbered s.next r.arrivals) (looking rs))
          (answered (W.wait d) r rs s)

-- a receive tries the messages of the mailbox, the oldest first, and then looks for more
abbrev pub receiving : {A : Type 0} → (Term → Tried A) → Timeout → M A → M A
receiving pick timeout late = λ s. try_each pick s.mailbox (λ u. looking pick timeout late u.replies u) s
