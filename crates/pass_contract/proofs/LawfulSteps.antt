-- What a run does step by step is lawful.
use Rattle.std.proofs.Common.{◌≡◌, ◌≤◌, ◌<◌, ◌+◌, ⊎_elim, ℕ, zero, suc, List, [], ◌∷◌, ◌++◌, Bool, true, false, Contains, eqb, if◌then◌else◌, refl, sym, ap, ◌∙◌, arith, append_assoc}
use Rattle.std.proofs.lemmas.List.Elements.{Contains-append_cases}
use Rattle.erl_term.specs.Term.{Term}
use Rattle.world_model.specs.World.{Request, Reply, Message, asked, taken}
use Rattle.world_model.specs.Run.{Note, happened, looked, State, noting, numbered, answered}
use Rattle.world_model.specs.Receive.{without}
use Rattle.pass_contract.specs.Lawful.{Lawful}

pub lawful_twice : (s u v : State) → Lawful s u → Lawful u v → Lawful s v
lawful_twice s u v p q = record {
  left = omega (arith, p.left, q.left);
  notes = (
    q.notes.0 ++ p.notes.0,
    q.notes.1 ∙ ap (λ ns. q.notes.0 ++ ns) p.notes.1
        ∙ sym (append_assoc q.notes.0 p.notes.0 s.notes),
  );
  next = omega (arith, p.next, q.next);
  below = λ m c l. p.below m (q.below m c (omega (arith, l, p.next))) l;
}

-- a note, with so many entries left
pub noted_lawful : (n : Note) (k : ℕ) (s : State) → k ≤ s.left → Lawful s (noting n (record s { left = k }))
noted_lawful n k s l = record { left = l; notes = (n ∷ [], refl); next = omega arith; below = λ m c i. c }

pub noting_lawful : (n : Note) (s : State) → Lawful s (noting n s)
noting_lawful n s =
    record { left = omega arith; notes = (n ∷ [], refl); next = omega arith; below = λ m c i. c }

-- Messages that come have serials from the next one on.

numbered_from : (ts : List Term) (n : ℕ) (m : Message) → Contains (numbered n ts) m → n ≤ m.serial
numbered_from [] n m (k, l, e) = absurd (omega (arith, l))
numbered_from (t ∷ ts) n m (zero, l, e) = let p : n ≡ m.serial = ap (λ (x : Message). x.serial) e in omega (arith, p)
numbered_from (t ∷ ts) n m (suc k, l, e) =
    let p : n + 1 ≤ m.serial = numbered_from ts (n + 1) m (k, omega (arith, l), e) in omega (arith, p)

stood : (s : State) (ts : List Term) (m : Message) → Contains (s.mailbox ++ numbered s.next ts) m → m.serial < s.next
    → Contains s.mailbox m
stood s ts m c l = ⊎_elim (λ d. d)
    (λ d. let p : s.next ≤ m.serial = numbered_from ts s.next m d in absurd (omega (arith, p, l)))
    (Contains-append_cases s.mailbox (numbered s.next ts) m c)

pub answered_lawful : (q : Request) (r : Reply) (rs : List Reply) (s : State) → Lawful s (answered q r rs s)
answered_lawful q r rs s = record {
  left = omega arith;
  notes = (happened (asked q r) ∷ [], refl);
  next = omega arith;
  below = stood s r.arrivals;
}

-- A message that leaves the mailbox.

contains_next : {X : Type 0} (x y : X) (xs : List X) → Contains xs y → Contains (x ∷ xs) y
contains_next x y xs (k, l, e) = (suc k, omega (arith, l), e)

left_there : (n : ℕ) (ms : List Message) (m : Message) → Contains (without n ms) m → Contains ms m
left_there n [] m c = c
left_there n (x ∷ xs) m c = by (λ d. left_there n xs m d) (eqb n x.serial) c
  where
    by : (Contains (without n xs) m → Contains xs m) → (b : Bool)
        → Contains (if b then xs else x ∷ without n xs) m → Contains (x ∷ xs) m
    by h true d = contains_next x m xs d
    by h false (zero, l, e) = (zero, omega arith, e)
    by h false (suc k, l, e) = contains_next x m xs (h (k, omega (arith, l), e))

pub taken_lawful : (x : Message) (s : State)
    → Lawful s (record s {
      mailbox = without x.serial s.mailbox;
      notes = happened (taken x.serial) ∷ looked (record { serial = x.serial; accepted = true }) ∷ s.notes;
    })
taken_lawful x s = record {
  left = omega arith;
  notes = (happened (taken x.serial) ∷ looked (record { serial = x.serial; accepted = true }) ∷ [], refl);
  next = omega arith;
  below = λ m c l. left_there x.serial s.mailbox m c;
}
