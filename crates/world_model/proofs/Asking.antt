-- What asking does, and that serials rise.
use Rattle.std.proofs.Common.{◌≡◌, ℕ, ◌+◌, ◌≤◌, List, [], ◌∷◌, ◌++◌, length, Bool, true, false, eqb, if◌then◌else◌, ap, subst, arith}
use Rattle.erl_term.specs.Term.{Term}
use Rattle.world_model.specs.World.{Request, Reply, Message}
use Rattle.world_model.specs.Run.{State, waits, happenings, entries, looks, numbered, ask, ask_from}
use Rattle.world_model.specs.Receive.{without}
use Rattle.world_model.specs.Laws.{AsksOnce, RiseFrom, SerialsRise}

pub asks_once : (q : Request) (r : Reply) (rs : List Reply) (s : State) → s.replies ≡ r ∷ rs → AsksOnce q r rs s
asks_once q r rs s e = record {
  given = ap (λ ts. (ask_from q ts s).1) e;
  left = ap (λ ts. (ask_from q ts s).0.replies) e;
  joined = ap (λ ts. (ask_from q ts s).0.mailbox) e;
  counted = ap (λ ts. (ask_from q ts s).0.next) e;
  one_more = ap (λ ts. happenings (ask_from q ts s).0.notes) e;
  same_entries = ap (λ ts. entries (ask_from q ts s).0.notes) e;
  same_looks = ap (λ ts. looks (ask_from q ts s).0.notes) e;
}

pub asks_none : (q : Request) (s : State) → s.replies ≡ [] → ask q s ≡ (s, waits q)
asks_none q s e = ap (λ ts. ask_from q ts s) e

-- the messages that come rise from the next serial on
numbered_rise : (n : ℕ) (ts : List Term) → RiseFrom n (numbered n ts) (n + length ts)
numbered_rise n [] = omega arith
numbered_rise n (t ∷ ts) =
    (omega arith, subst (RiseFrom (n + 1) (numbered (n + 1) ts)) (omega arith) (numbered_rise (n + 1) ts))

rise_weaker : (n k : ℕ) (ms : List Message) (next : ℕ) → n ≤ k → RiseFrom k ms next → RiseFrom n ms next
rise_weaker n k [] next h r = omega (arith, r)
rise_weaker n k (m ∷ ms) next h r = (omega (arith, r.0), r.1)

joined_rise : (n : ℕ) (ms : List Message) (next : ℕ) (ts : List Term) → RiseFrom n ms next
    → RiseFrom n (ms ++ numbered next ts) (next + length ts)
joined_rise n [] next ts r = rise_weaker n next (numbered next ts) (next + length ts) r (numbered_rise next ts)
joined_rise n (m ∷ ms) next ts r = (r.0, joined_rise (m.serial + 1) ms next ts r.1)

-- asking keeps the serials rising
pub asked_rise : (q : Request) (s : State) → SerialsRise s → SerialsRise (ask q s).0
asked_rise q s h = from q s.replies s h
  where
    from : (q : Request) (rs : List Reply) (s : State) → SerialsRise s → SerialsRise (ask_from q rs s).0
    from q [] s h = h
    from q (r ∷ rs) s h = joined_rise 0 s.mailbox s.next r.arrivals h

-- the first mailbox has the serials from 0 on
pub first_rise : (ts : List Term) → RiseFrom 0 (numbered 0 ts) (length ts)
first_rise ts = subst (RiseFrom 0 (numbered 0 ts)) (omega arith) (numbered_rise 0 ts)

-- taking a message out keeps them rising
pub without_rise : (k n : ℕ) (ms : List Message) (next : ℕ) → RiseFrom n ms next → RiseFrom n (without k ms) next
without_rise k n [] next r = r
without_rise k n (m ∷ ms) next r =
    by (eqb k m.serial) (rise_weaker n (m.serial + 1) ms next (omega (arith, r.0)) r.1)
    (r.0, without_rise k (m.serial + 1) ms next r.1)
  where
    by : (b : Bool) → RiseFrom n ms next → RiseFrom n (m ∷ without k ms) next
        → RiseFrom n (if b then ms else m ∷ without k ms) next
    by true g h = g
    by false g h = h

pub ruleset rising = (first_rise, asked_rise)
