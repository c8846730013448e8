-- What a run of one operation does beside its values: to the state, the save place and the message that is looked at.
-- One walk over the operations tells it (`TwoDoes`); all that is asked of such a run follows from it by a few cases.
use Rattle.std.proofs.Common.{◌≡◌, ◌≤◌, ◌<◌, ℕ, suc, ◌+◌, ◌-◌, List, [], ◌∷◌, length, Bool, true, false, Option, Some, None, refl, sym, ap, ◌∙◌, arith, IsTrue, IsFalse, eqb, if◌then◌else◌, zero, slice_get}
use Rattle.std.proofs.lemmas.Option.{slice_get_within}
use Rattle.erl_term.specs.Term.{Term, Class}
use Rattle.erl_term.specs.Terms.{Values}
use Rattle.world_model.specs.World as World
use Rattle.world_model.specs.World.{Request, Reply, Message}
use Rattle.world_model.specs.Run.{Note, happened, looked, State, M, ◌>>=◌, ask, answered, noting}
use Rattle.world_model.specs.Meaning.{single}
use Rattle.world_model.specs.Receive.{without}
use Rattle.world_model.specs.Requests.{send_to, exit_of}
use Rattle.world_model.specs.RemoteCalls.{call_terms, apply_term}
use Rattle.step_machine.specs.Bodies.{Here, calling, callees}
use Rattle.step_machine.specs.EntryBound.{Lowers}
use Rattle.step_machine.specs.Frames.{MatchContext}
use Rattle.pass_contract.specs.Lawful.{Lawful, IsLawful}
use Rattle.pass_contract.proofs.Modules.{lawful_itself}
use Rattle.pass_contract.proofs.LawfulSteps.{lawful_twice, noting_lawful, answered_lawful, taken_lawful}
use Rattle.pass_contract.proofs.LawfulMeanings.{Goes, remote_goes, trace_goes, send_goes, call_goes, apply_goes, exit_goes}
use Rattle.ssa_form.specs.Storage.{Frame, Around}
use Rattle.ssa_form.proofs.Rank.{Rank, Lower, by_left, by_replies, by_ahead, by_mailbox, AtMost, lower, same, closed, rank}
use Rattle.ssa_form.proofs.OpenHandlers.{some_is}
use Rattle.ssa_form.proofs.Spending.{Uses, entry, reply, nothing, Spends, uses_low, bind_spends, ask_spends, give_spends, send_spends, remote_spends, call_spends, applied_spends, exit_spends}

abbrev pub at : {X : Type 0} → X → List MatchContext → ℕ → Option Message → Frame X
at x c n w = record { store = x; contexts = c; save = n; window = w }

-- without the message that was looked at
abbrev pub taking : Message → State → State
taking m s = record s {
  mailbox = without m.serial s.mailbox;
  notes = happened (World.taken m.serial) ∷ looked (record { serial = m.serial; accepted = true }) ∷ s.notes;
}

-- past the message that was looked at
abbrev pub passing : Message → State → State
passing m s = noting (looked (record { serial = m.serial; accepted = false })) s

module _ (around : Around) (here : Here) where
  -- the meanings that operations and landings run
  pub data Meant : M Values → Type 0 where
    of_call : (n : ℕ) (t : Bool) (vs : Values) → Meant (calling here n t vs >>= single)
    of_term : (t : Term) (vs : Values) → Meant (apply_term (callees around.arities here) t vs)
    of_names : (m f : Term) (vs : Values) → Meant (call_terms here.own m f vs)
    of_send : (to message : Term) → Meant (send_to to message)
    of_trace : Meant (ask World.trace >>= λ r. single r.term)
    of_exit : (c : Class) (r : Term) → Meant (exit_of c r)

  -- which state came of one
  pub data Came (s : State) : State → Type 0 where
    as_it_was : Came s s
    by_note : (n : Note) → Came s (noting n s)
    by_reply : (q : Request) (r : Reply) (rs : List Reply) → r ∷ rs ≡ s.replies → Came s (answered q r rs s)
    by_meaning : (m : M Values) → Meant m → Came s (m s).0
    by_taking : (m : Message) → Came s (taking m s)

  -- Where it came to, from this save place and this message that is looked at. look: the operation is a look; back: it
  -- moves the save place back.
  module _ (look back : Bool) (n : ℕ) (w : Option Message) (s : State) where
    pub data Went : ℕ → Option Message → State → Type 0 where
      nowhere : IsFalse look → Went n w s
      to_note : IsFalse look → (k : Note) → Went n w (noting k s)
      to_reply : w ≡ None → (q : Request) (r : Reply) (rs : List Reply) → r ∷ rs ≡ s.replies
          → Went n w (answered q r rs s)
      to_meaning : IsFalse look → w ≡ None → (m : M Values) → Meant m → Went n w (m s).0
      to_message : w ≡ None → (m : Message) → slice_get s.mailbox n ≡ Some m → Went n (Some m) s
      to_new_message : w ≡ None → (q : Request) (r : Reply) (rs : List Reply) → r ∷ rs ≡ s.replies → (m : Message)
          → slice_get (answered q r rs s).mailbox n ≡ Some m → Went n (Some m) (answered q r rs s)
      to_taking : IsFalse look → (m : Message) → w ≡ Some m → Went 0 None (taking m s)
      to_passing : IsFalse look → (m : Message) → w ≡ Some m → Went (suc n) None (passing m s)
      to_place : IsFalse look → IsTrue back → w ≡ None → (k : ℕ) (u : State) → Came s u → Went k w u

  -- What holds of the states.

  module _ (look back : Bool) (n : ℕ) (w : Option Message) (s : State) where
    pub came : (k : ℕ) (v : Option Message) (u : State) → Went look back n w s k v u → Came s u
    came _ _ _ (nowhere l) = as_it_was
    came _ _ _ (to_note l k) = by_note k
    came _ _ _ (to_reply e q r rs i) = by_reply q r rs i
    came _ _ _ (to_meaning l e m g) = by_meaning m g
    came _ _ _ (to_message e m i) = as_it_was
    came _ _ _ (to_new_message e q r rs i m j) = by_reply q r rs i
    came _ _ _ (to_taking l m e) = by_taking m
    came _ _ _ (to_passing l m e) = by_note _
    came _ _ _ (to_place l b e k u c) = c

  meant_goes : IsLawful here.enter → (m : M Values) → Meant m → Goes m
  meant_goes l _ (of_call n t vs) = call_goes here l n t vs
  meant_goes l _ (of_term t vs) = apply_goes here l around.arities t vs
  meant_goes l _ (of_names m f vs) = remote_goes here.own m f vs
  meant_goes l _ (of_send to message) = send_goes to message
  meant_goes l _ of_trace = trace_goes
  meant_goes l _ (of_exit c r) = exit_goes c r

  -- a relation that every change of a run keeps
  pub record Kept (R : State → State → Type 0) : Type 0 where
    pub itself : (s : State) → R s s
    pub twice : (s u v : State) → R s u → R u v → R s v
    pub comes : (s u : State) → Came s u → R s u

  came_lawful : IsLawful here.enter → (s u : State) → Came s u → Lawful s u
  came_lawful l s _ as_it_was = lawful_itself s
  came_lawful l s _ (by_note n) = noting_lawful n s
  came_lawful l s _ (by_reply q r rs e) = answered_lawful q r rs s
  came_lawful l s _ (by_meaning m g) = (meant_goes l m g).at s
  came_lawful l s _ (by_taking m) = taken_lawful m s

  pub lawful_kept : IsLawful here.enter → Kept Lawful
  lawful_kept l = record { itself = lawful_itself; twice = lawful_twice; comes = came_lawful l }

  meant_spends : Lowers here.enter → (m : M Values) → Meant m → Spends m
  meant_spends l _ (of_call n t vs) = call_spends around here l n t vs
  meant_spends l _ (of_term t vs) = applied_spends around here l t vs
  meant_spends l _ (of_names m f vs) = remote_spends here.own m f vs
  meant_spends l _ (of_send to message) = send_spends to message
  meant_spends l _ of_trace = bind_spends _ _ (ask_spends World.trace) (λ r. give_spends _)
  meant_spends l _ (of_exit c r) = exit_spends c r

  came_low : Lowers here.enter → (s u : State) → Came s u → u.left ≤ s.left
  came_low l s _ as_it_was = omega arith
  came_low l s _ (by_note n) = omega arith
  came_low l s _ (by_reply q r rs e) = omega arith
  came_low l s _ (by_meaning m g) = uses_low s (m s).0 ((meant_spends l m g).at s)
  came_low l s _ (by_taking m) = omega arith

  -- no more entries are left
  abbrev pub LeftLess : State → State → Type 0
  LeftLess s u = u.left ≤ s.left

  pub lowers_kept : Lowers here.enter → Kept LeftLess
  lowers_kept l = record {
    itself = λ s. omega arith;
    twice = λ s u v p q. omega (arith, p, q);
    comes = came_low l;
  }

-- What holds of the save place, and of the rank.

-- the message that is looked at stands at the save place
abbrev pub Stands : ℕ → Option Message → State → Type 0
Stands n w s = (m : Message) → w ≡ Some m → slice_get s.mailbox n ≡ Some m

abbrev pub rank_at : ℕ → Option Message → State → Rank
rank_at n w s = rank (at {X = Unit {0}} tt [] n w) s

no_look : {P : Type 0} {b : Bool} → IsFalse b → IsTrue b → P
no_look e f = let g : false ≡ true = sym e ∙ f in absurd cc

none_looked : {P : Type 0} (w : Option Message) (m : Message) → w ≡ None → w ≡ Some m → P
none_looked w m e f = let g : None ≡ Some m = sym e ∙ f in absurd cc

eqb_same : (n : ℕ) → eqb n n ≡ true
eqb_same n = grind arith

without_less : (ms : List Message) (i : ℕ) (m : Message) → slice_get ms i ≡ Some m
    → length (without m.serial ms) < length ms
without_less [] i m e = absurd cc
without_less (x ∷ xs) zero m e = first_goes (without m.serial xs) (eqb m.serial x.serial)
    (let p : x ≡ m = some_is x m e in rw p (eqb_same m.serial))
  where
    first_goes : (ys : List Message) (b : Bool) → b ≡ true → length (if b then xs else x ∷ ys) < suc (length xs)
    first_goes ys true p = omega arith
    first_goes ys false p = absurd cc
without_less (x ∷ xs) (suc i) m e = one_goes (without_less xs i m e) (eqb m.serial x.serial)
  where
    one_goes : length (without m.serial xs) < length xs → (b : Bool)
        → length (if b then xs else x ∷ without m.serial xs) < suc (length xs)
    one_goes l true = omega arith
    one_goes l false = omega (arith, l)

passed_less : (i n : ℕ) (w : Option Message) (m : Message) → w ≡ Some m → i < n
    → (n - suc i) + (n - suc i) + 1 < (n - i) + (n - i) + closed w
passed_less i n None m e l = absurd cc
passed_less i n (Some x) m e l = omega (arith, l)

seen_less : (n : ℕ) (m : Message) (w : Option Message) → w ≡ None → n + closed (Some m) < n + closed w
seen_less n m None e = omega arith
seen_less n m (Some x) e = absurd cc

fewer : (r : Reply) (rs qs : List Reply) → r ∷ rs ≡ qs → length rs < length qs
fewer r rs qs p = let k : suc (length rs) ≡ length qs = ap length p in omega (arith, k)

pub uses_most : (n : ℕ) (w : Option Message) (s u : State) → Uses s u → AtMost (rank_at n w u) (rank_at n w s)
uses_most n w s u (entry l) = lower (by_left l)
uses_most n w s u (reply e l) = lower (by_replies e l)
uses_most n w s u (nothing e p q) =
    same e (ap length p) (ap length q) (ap (λ ms. (length ms - n) + (length ms - n) + closed w) q)

module _ (around : Around) (here : Here) (look back : Bool) (n : ℕ) (w : Option Message) (s : State) where
  pub went_stands : (k : ℕ) (v : Option Message) (u : State) → Went around here look back n w s k v u → Stands n w s
      → Stands k v u
  went_stands _ _ _ (nowhere l) h = h
  went_stands _ _ _ (to_note l k) h = h
  went_stands _ _ _ (to_reply e q r rs i) h = λ m f. none_looked w m e f
  went_stands _ _ _ (to_meaning l e m g) h = λ m f. none_looked w m e f
  went_stands _ _ _ (to_message e m i) h = λ x f. i ∙ f
  went_stands _ _ _ (to_new_message e q r rs i m j) h = λ x f. j ∙ f
  went_stands _ _ _ (to_taking l m e) h = λ x f. none_looked None x refl f
  went_stands _ _ _ (to_passing l m e) h = λ x f. none_looked None x refl f
  went_stands _ _ _ (to_place l b e k u c) h = λ m f. none_looked w m e f

  pub went_falls : Lowers here.enter → IsFalse back → Stands n w s → (k : ℕ) (v : Option Message) (u : State)
      → Went around here look back n w s k v u → AtMost (rank_at k v u) (rank_at n w s)
  went_falls l b h _ _ _ (nowhere i) = same refl refl refl refl
  went_falls l b h _ _ _ (to_note i k) = same refl refl refl refl
  went_falls l b h _ _ _ (to_reply e q r rs i) = lower (by_replies refl (fewer r rs s.replies i))
  went_falls l b h _ _ _ (to_meaning i e m g) = uses_most n w s (m s).0 ((meant_spends around here l m g).at s)
  went_falls l b h _ _ _ (to_message e m i) = lower (by_ahead refl refl refl (seen_less _ m w e))
  went_falls l b h _ _ _ (to_new_message e q r rs i m j) = lower (by_replies refl (fewer r rs s.replies i))
  went_falls l b h _ _ _ (to_taking i m e) = lower (by_mailbox refl refl (without_less s.mailbox n m (h m e)))
  went_falls l b h _ _ _ (to_passing i m e) = lower (by_ahead refl refl refl
      (passed_less n (length s.mailbox) w m e (slice_get_within s.mailbox n m (h m e))))
  went_falls l b h _ _ _ (to_place i c e k u d) = let z : true ≡ false = sym c ∙ b in absurd cc

  pub went_lower : IsTrue look → (k : ℕ) (v : Option Message) (u : State) → Went around here look back n w s k v u
      → Lower (rank_at k v u) (rank_at n w s)
  went_lower t _ _ _ (to_reply e q r rs i) = by_replies refl (fewer r rs s.replies i)
  went_lower t _ _ _ (to_message e m i) = by_ahead refl refl refl (seen_less _ m w e)
  went_lower t _ _ _ (to_new_message e q r rs i m j) = by_replies refl (fewer r rs s.replies i)
  went_lower t _ _ _ (nowhere l) = no_look l t
  went_lower t _ _ _ (to_note l k) = no_look l t
  went_lower t _ _ _ (to_meaning l e m g) = no_look l t
  went_lower t _ _ _ (to_taking l m e) = no_look l t
  went_lower t _ _ _ (to_passing l m e) = no_look l t
  went_lower t _ _ _ (to_place l b e k u c) = no_look l t
