-- One induction over all rules of evaluation: what holds of giving, raising and waiting, and is kept by going on, by
-- catching and by what a run notes and reads, holds of every meaning.
use Rattle.std.proofs.Common.{◌≡◌, ℕ, List, [], ◌∷◌, ◌++◌, Bool, true, false, Option, Some, None, cond, refl, codes}
use Rattle.erl_base.specs.Names.{Name}
use Rattle.erl_term.specs.Term as T
use Rattle.erl_term.specs.Term.{Term, no_pair, Class}
use Rattle.erl_term.specs.Terms.{Values, only}
use Rattle.bif_table.specs.BuiltinAnswer.{Answer, value, raised}
use Rattle.world_model.specs.World as W
use Rattle.world_model.specs.World.{Delay, forever, millis, Request, Reply, Message}
use Rattle.world_model.specs.Run.{State, Note, happened, entered, looked, marked, began, cut, entries, gives, waits, M, ◌>>=◌, give, fail, ask, ask_from, answered, noting}
use Rattle.world_model.specs.Meaning.{one, single, either}
use Rattle.world_model.specs.Requests.{replied, sent, call_out, send_or_call, answers, exit_of}
use Rattle.world_model.specs.RemoteCalls.{raise_again}
use Rattle.world_model.specs.MapUpdate.{put_all, put_each, Put}
use Rattle.world_model.specs.Receive.{cutting, without}
use Rattle.core_meaning.specs.Calls.{primitive}
use Rattle.core_meaning.specs.ClauseChoice.{blank}
use Rattle.core_meaning.specs.MarkingCalls.{marking, last_mark, beginning}
use Rattle.core_meaning.specs.Evaluation.{bits_or_badarg}

abbrev pub with_left : ℕ → State → State
with_left k s = record s { left = k }

-- the changes of state that there are beside entries
pub data Move : (State → State) → Type 0 where
  move_noted : (n : Note) → Move (noting n)
  move_answered : (q : Request) (r : Reply) (rs : List Reply) → Move (answered q r rs)
  move_taken : (m : Message) → Move (λ s. record s {
    mailbox = without m.serial s.mailbox;
    notes = happened (W.taken m.serial) ∷ looked (record { serial = m.serial; accepted = true }) ∷ s.notes;
  })
  move_marked : (t : Term) (ns : List Note) → Move (last_mark t ns)

-- a change of state that has nothing to do with the entries left, and notes none
pub record Quiet (f : State → State) : Type 0 where
  pub move : Move f
  pub left : (s : State) → (f s).left ≡ s.left
  pub free : (s : State) (k : ℕ) → f (with_left k s) ≡ with_left k (f s)
  pub same : (s : State) → entries (f s).notes ≡ entries s.notes
  pub grows : (s : State) → (ns : List Note) × ((f s).notes ≡ ns ++ s.notes)

-- a relation of two meanings that every rule keeps
pub record Logic : Type 1 where
  pub Rel : {A : Type 0} → M A → M A → Type 0
  pub given : {A : Type 0} (a : A) → Rel (give a) (give a)
  pub failed : {A : Type 0} (c : Class) (r : Term) → Rel {A = A} (fail c r) (fail c r)
  pub waited : {A : Type 0} (q : Request) → Rel {A = A} (λ s. (s, waits q)) (λ s. (s, waits q))
  pub bound : {A B : Type 0} (m n : M A) (f g : A → M B) → Rel m n → ((a : A) → Rel (f a) (g a))
      → Rel (m >>= f) (n >>= g)
  pub caught : {A B : Type 0} (m n : M A) (f g : A → M B) (h i : Class → Term → M B) → Rel m n
      → ((a : A) → Rel (f a) (g a)) → ((c : Class) (r : Term) → Rel (h c r) (i c r)) → Rel (either m f h) (either n g i)
  pub moved : {A : Type 0} (f : State → State) → Quiet f → (m n : M A) → Rel m n → Rel (λ s. m (f s)) (λ s. n (f s))
  pub seen : {A X : Type 0} (g : State → X) → ((s : State) (k : ℕ) → g (with_left k s) ≡ g s) → (f h : X → M A)
      → ((x : X) → Rel (f x) (h x)) → Rel (λ s. f (g s) s) (λ s. h (g s) s)
  pub guard : (m n : M Values) → Rel m n → m blank ≡ n blank

pub noting_quiet : (n : Note) → ((s : State) → entries (noting n s).notes ≡ entries s.notes) → Quiet (noting n)
noting_quiet n e =
    record { move = move_noted n; left = λ s. refl; free = λ s k. refl; same = e; grows = λ s. (n ∷ [], refl) }

pub answered_quiet : (q : Request) (r : Reply) (rs : List Reply) → Quiet (answered q r rs)
answered_quiet q r rs = record {
  move = move_answered q r rs;
  left = λ s. refl;
  free = λ s k. refl;
  same = λ s. refl;
  grows = λ s. (happened (W.asked q r) ∷ [], refl);
}

module _ (L : Logic) where
  -- What is shared by all meanings.

  ask_from_ok : (q : Request) (rs : List Reply) → L.Rel (λ s. ask_from q rs s) (λ s. ask_from q rs s)
  ask_from_ok q [] = L.waited q
  ask_from_ok q (r ∷ rs) = L.moved (answered q r rs) (answered_quiet q r rs) (give r) (give r) (L.given r)

  pub ask_ok : (q : Request) → L.Rel (ask q) (ask q)
  ask_ok q = L.seen (λ s. s.replies) (λ s k. refl) (ask_from q) (ask_from q) (λ rs. ask_from_ok q rs)

  pub one_ok : {B : Type 0} (m n : M Values) (f g : Term → M B) → L.Rel m n → ((t : Term) → L.Rel (f t) (g t))
      → L.Rel (one m f) (one n g)
  one_ok m n f g r h = L.bound m n (λ vs. f (only vs)) (λ vs. g (only vs)) r (λ vs. h (only vs))

  pub single_ok : (t : Term) → L.Rel (single t) (single t)
  single_ok t = L.given (t ∷ [])

  pub if_ok : {A : Type 0} (b : Bool) (m n m' n' : M A) → L.Rel m m' → L.Rel n n' → L.Rel (cond b m n) (cond b m' n')
  if_ok true m n m' n' r q = r
  if_ok false m n m' n' r q = q

  replied_ok : (r : Reply) → L.Rel (replied r) (replied r)
  replied_ok r = go r.how
    where
      go : (h : W.How) →
          let m : M Values = elim h [
            | W.return ↦ single r.term
            | W.error ↦ fail T.error r.term
            | W.exit ↦ fail T.exit r.term
            | W.throw ↦ fail T.throw r.term
          ] in
          L.Rel m m
      go W.return = single_ok _
      go W.error = L.failed _ _
      go W.exit = L.failed _ _
      go W.throw = L.failed _ _

  pub call_out_ok : (m f : Name) (vs : Values) → L.Rel (call_out m f vs) (call_out m f vs)
  call_out_ok m f vs = L.bound _ _ _ _ (ask_ok _) replied_ok

  sent_ok : (t : Term) (r : Reply) → L.Rel (sent t r) (sent t r)
  sent_ok t r = go r.how
    where
      go : (h : W.How) →
          let m : M Values = elim h [
            | W.return ↦ single t
            | W.error ↦ fail T.error (T.atom (codes "badarg"))
            | W.exit ↦ fail T.error (T.atom (codes "badarg"))
            | W.throw ↦ fail T.error (T.atom (codes "badarg"))
          ] in
          L.Rel m m
      go W.return = single_ok _
      go W.error = L.failed _ _
      go W.exit = L.failed _ _
      go W.throw = L.failed _ _

  pub send_ok : (f : Name) (vs : Values) → L.Rel (send_or_call f vs) (send_or_call f vs)
  send_ok f [] = call_out_ok _ _ _
  send_ok f (t ∷ []) = call_out_ok _ _ _
  send_ok f (t ∷ u ∷ []) = L.bound _ _ _ _ (ask_ok _) (sent_ok u)
  send_ok f (t ∷ u ∷ v ∷ vs) = call_out_ok _ _ _

  pub answers_ok : (a : Answer) → L.Rel (answers a) (answers a)
  answers_ok (value t) = single_ok _
  answers_ok (raised c r) = L.failed c r

  put_each_ok : (qs : List Put) (ps : T.Pairs) → L.Rel (put_each qs ps) (put_each qs ps)
  unfolding put_each
  put_each_ok [] ps = single_ok _
  put_each_ok (q ∷ qs) ps = if_ok _ _ _ _ _ (L.failed _ _) (put_each_ok qs _)

  pub put_all_ok : (qs : List Put) (t : Term) → L.Rel (put_all qs t) (put_all qs t)
  unfolding put_all
  put_all_ok qs (T.map ps) = put_each_ok qs ps
  put_all_ok qs _ = L.failed _ _

  pub exit_ok : (c : Class) (r : Term) → L.Rel (exit_of c r) (exit_of c r)
  exit_ok T.error r = L.bound _ _ _ _ (ask_ok _) (λ r. single_ok _)
  exit_ok T.exit r = single_ok _
  exit_ok T.throw r = single_ok _

  again_ok : (t u : Term) → L.Rel (raise_again t u) (raise_again t u)
  again_ok (T.raw_trace c) u = L.failed _ _
  again_ok _ u = L.failed _ _

  pub primitive_ok : (n : Name) (vs : Values) → L.Rel (primitive n vs) (primitive n vs)
  primitive_ok n [] = L.failed _ _
  primitive_ok n (t ∷ []) = if_ok _ _ _ _ _ (L.failed _ _) (L.bound _ _ _ _ (ask_ok _) (λ r. single_ok _))
  primitive_ok n (t ∷ u ∷ us) = again_ok t u

  pub badarg_ok : (o : Option (List Bool)) → L.Rel (bits_or_badarg o) (bits_or_badarg o)
  badarg_ok None = L.failed _ _
  badarg_ok (Some bs) = single_ok _

  -- Notes.

  pub cutting_ok : {A : Type 0} (n : ℕ) (m m' : M A) → L.Rel m m' → L.Rel (cutting n m) (cutting n m')
  cutting_ok n m m' r = L.moved (noting (cut n)) (noting_quiet (cut n) (λ s. refl)) m m' r

  pub beginning_ok : {A : Type 0} (o : Option Term) (m m' : M A) → L.Rel m m' → L.Rel (beginning o m) (beginning o m')
  beginning_ok o m m' r = L.moved (noting (began o)) (noting_quiet (began o) (λ s. refl)) m m' r

  mark_quiet : (t : Term) (ns : List Note) → Quiet (last_mark t ns)
  mark_quiet t [] = record {
    move = move_marked t [];
    left = λ s. refl;
    free = λ s k. refl;
    same = λ s. refl;
    grows = λ s. ([], refl);
  }
  mark_quiet t (happened (W.asked q r) ∷ ns) = record {
    move = move_marked t (happened (W.asked q r) ∷ ns);
    left = λ s. refl;
    free = λ s k. refl;
    same = λ s. refl;
    grows = λ s. (marked _ ∷ [], refl);
  }
  mark_quiet t (happened (W.taken n) ∷ ns) = record {
    move = move_marked t (happened (W.taken n) ∷ ns);
    left = λ s. refl;
    free = λ s k. refl;
    same = λ s. refl;
    grows = λ s. ([], refl);
  }
  mark_quiet t (entered e ∷ ns) = record {
    move = move_marked t (entered e ∷ ns);
    left = λ s. refl;
    free = λ s k. refl;
    same = λ s. refl;
    grows = λ s. ([], refl);
  }
  mark_quiet t (looked l ∷ ns) = record {
    move = move_marked t (looked l ∷ ns);
    left = λ s. refl;
    free = λ s k. refl;
    same = λ s. refl;
    grows = λ s. ([], refl);
  }
  mark_quiet t (marked x ∷ ns) = record {
    move = move_marked t (marked x ∷ ns);
    left = λ s. refl;
    free = λ s k. refl;
    same = λ s. refl;
    grows = λ s. ([], refl);
  }
  mark_quiet t (began o ∷ ns) = record {
    move = move_marked t (began o ∷ ns);
    left = λ s. refl;
    free = λ s k. refl;
    same = λ s. refl;
    grows = λ s. ([], refl);
  }
  mark_quiet t (cut n ∷ ns) = let q : Quiet (last_mark t ns) = mark_quiet t ns in record {
    move = move_marked t (cut n ∷ ns);
    left = q.left;
    free = q.free;
    same = q.same;
    grows = q.grows;
  }

  marked_ok : (vs : Values)
      → L.Rel (λ s. (last_mark (only vs) s.notes s, gives vs)) (λ s. (last_mark (only vs) s.notes s, gives vs))
  marked_ok vs = L.seen (λ s. s.notes) (λ s k. refl) (λ ns s. (last_mark (only vs) ns s, gives vs))
      (λ ns s. (last_mark (only vs) ns s, gives vs))
      (λ ns. L.moved (last_mark (only vs) ns) (mark_quiet (only vs) ns) (give vs) (give vs) (L.given vs))

  pub marking_ok : (b : Bool) (m m' : M Values) → L.Rel m m' → L.Rel (marking b m) (marking b m')
  marking_ok false m m' r = r
  marking_ok true m m' r = L.bound m m' _ _ r marked_ok
