-- What is kept by the words that meanings are made of: from parts that agree come wholes that agree.
use Rattle.std.proofs.Common.{◌≡◌, ◌≤◌, ◌+◌, ℕ, zero, suc, List, [], ◌∷◌, ◌++◌, length, Bool, true, IsTrue, Option, Some, None, refl, sym, ap, subst, codes, arith}
use Rattle.erl_term.specs.Term as T
use Rattle.erl_term.specs.Term.{Term, Class}
use Rattle.erl_term.specs.Terms.{word}
use Rattle.world_model.specs.World as W
use Rattle.world_model.specs.World.{Delay, forever, millis, Request, Reply, Message, asked, taken}
use Rattle.world_model.specs.Run.{Note, happened, entered, looked, marked, began, cut, sub_binaries, State, Outcome, gives, raises, waits, spent, M, ◌>>=◌, after, give, fail, ask, ask_from, answered, numbered, noting}
use Rattle.world_model.specs.Meaning.{either, ends}
use Rattle.world_model.specs.Receive.{Timeout, now, in', wrong, Tried, cutting, taking, try_each, looking, waiting, new_or, receiving, without}
use Rattle.world_model.specs.Entries.{entry_left, counted}
use Rattle.pass_contract.specs.SameRun.{Compared, done, if_compared, SameState, SameResult, Agree}
use Rattle.kernel_meaning.specs.Agreement.{OptionAgrees, TriedAgrees}

module _ (what : Compared) where
  -- States.

  pub same_state : (s : State) → SameState what s s
  same_state s = record {
    replies = refl;
    mailbox = refl;
    next = refl;
    left = refl;
    done = refl;
    sub_binaries = λ c. omega arith;
  }

  -- what both runs note last, and what they note of sub-binaries
  joined : (s t : State) (ns ms : List Note) → SameState what s t → done what.marks ms ≡ done what.marks ns
      → (IsTrue what.cuts → sub_binaries ms ≤ sub_binaries ns)
      → SameState what (record s { notes = ns }) (record t { notes = ms })
  joined s t ns ms e d l =
      record { replies = e.replies; mailbox = e.mailbox; next = e.next; left = e.left; done = d; sub_binaries = l }

  more_cuts : (m n i j : ℕ) → n ≤ m → i ≤ j → n + i ≤ m + j
  more_cuts m n i j g h = omega arith

  pub cut_less : (m n : ℕ) (s t : State) → (IsTrue what.cuts → n ≤ m) → SameState what s t
      → SameState what (noting (cut m) s) (noting (cut n) t)
  cut_less m n s t l e = joined s t _ _ e e.done (λ c. more_cuts m n _ _ (l c) (e.sub_binaries c))

  compared_same : (b : Bool) (n : Note) (ns ms : List Note) → ms ≡ ns → if_compared b n ms ≡ if_compared b n ns
  compared_same b n ns ms e = ap (λ x. if_compared b n x) e

  -- a note that both runs make
  pub noted_same : (n : Note) (s t : State) → SameState what s t → SameState what (noting n s) (noting n t)
  noted_same (happened h) s t e = joined s t _ _ e (ap (λ ns. happened h ∷ ns) e.done) e.sub_binaries
  noted_same (entered x) s t e = joined s t _ _ e (ap (λ ns. entered x ∷ ns) e.done) e.sub_binaries
  noted_same (looked l) s t e = joined s t _ _ e (ap (λ ns. looked l ∷ ns) e.done) e.sub_binaries
  noted_same (marked x) s t e = joined s t _ _ e (compared_same what.marks (marked x) _ _ e.done) e.sub_binaries
  noted_same (began o) s t e = joined s t _ _ e (compared_same what.marks (began o) _ _ e.done) e.sub_binaries
  noted_same (cut n) s t e = cut_less n n s t (λ c. omega arith) e

  -- Meanings.

  module _ {A : Type 0} where
    pub give_agrees : (a : A) → Agree what (give a) (give a)
    give_agrees a s t e = record { state = e; end = refl }

    pub fail_agrees : (c : Class) (r : Term) → Agree what {A = A} (fail c r) (fail c r)
    fail_agrees c r s t e = record { state = e; end = refl }

    pub waits_agrees : (q : Request) → Agree what {A = A} (λ s. (s, waits q)) (λ s. (s, waits q))
    waits_agrees q s t e = record { state = e; end = refl }

    pub noting_agrees : (n : Note) (m k : M A) → Agree what m k → Agree what (λ s. m (noting n s)) (λ s. k (noting n s))
    noting_agrees n m k h s t e = h _ _ (noted_same n s t e)

    pub cutting_agrees : (m n : ℕ) (f g : M A) → (IsTrue what.cuts → n ≤ m) → Agree what f g
        → Agree what (cutting m f) (cutting n g)
    cutting_agrees m n f g l h s t e = h _ _ (cut_less m n s t l e)

  module _ {A B : Type 0} where
    after_agrees : (s t : State) (o p : Outcome A) (f g : A → M B) → SameState what s t → p ≡ o
        → ((a : A) → Agree what (f a) (g a))
        → SameResult what (after s o f) (after t p g)
    after_agrees s t o p f g e q h = subst (λ x. SameResult what (after s o f) (after t x g)) (sym q) (go o)
      where
        go : (o : Outcome A) → SameResult what (after s o f) (after t o g)
        go (gives a) = h a s t e
        go (raises c r) = record { state = e; end = refl }
        go (waits q) = record { state = e; end = refl }
        go spent = record { state = e; end = refl }

    pub bind_agrees : (m k : M A) (f g : A → M B) → Agree what m k → ((a : A) → Agree what (f a) (g a))
        → Agree what (m >>= f) (k >>= g)
    bind_agrees m k f g h i s t e = after_agrees (m s).0 (k t).0 (m s).1 (k t).1 f g (h s t e).state (h s t e).end i

    ends_agree : (s t : State) (o p : Outcome A) (f g : A → M B) (u v : Class → Term → M B) → SameState what s t → p ≡ o
        → ((a : A) → Agree what (f a) (g a)) → ((c : Class) (r : Term) → Agree what (u c r) (v c r))
        → SameResult what (ends s o f u) (ends t p g v)
    ends_agree s t o p f g u v e q h i = subst (λ x. SameResult what (ends s o f u) (ends t x g v)) (sym q) (go o)
      where
        go : (o : Outcome A) → SameResult what (ends s o f u) (ends t o g v)
        go (gives a) = h a s t e
        go (raises c r) = i c r s t e
        go (waits q) = record { state = e; end = refl }
        go spent = record { state = e; end = refl }

    pub either_agrees : (m k : M A) (f g : A → M B) (u v : Class → Term → M B) → Agree what m k
        → ((a : A) → Agree what (f a) (g a))
        → ((c : Class) (r : Term) → Agree what (u c r) (v c r)) → Agree what (either m f u) (either k g v)
    either_agrees m k f g u v h i j s t e =
        ends_agree (m s).0 (k t).0 (m s).1 (k t).1 f g u v (h s t e).state (h s t e).end i j

  -- an answer joins the state
  pub answered_same : (q : Request) (r : Reply) (rs : List Reply) (s t : State) → SameState what s t
      → SameState what (answered q r rs s) (answered q r rs t)
  answered_same q r rs s t e = record {
    replies = refl;
    mailbox = λ i. e.mailbox i ++ numbered (e.next i) r.arrivals;
    next = λ i. e.next i + length r.arrivals;
    left = e.left;
    done = λ i. happened (asked q r) ∷ e.done i;
    sub_binaries = e.sub_binaries;
  }

  pub ask_agrees : (q : Request) → Agree what (ask q) (ask q)
  ask_agrees q s t e = subst (λ x. SameResult what (ask_from q s.replies s) (ask_from q x t)) (sym e.replies)
      (go s.replies)
    where
      go : (rs : List Reply) → SameResult what (ask_from q rs s) (ask_from q rs t)
      go [] = record { state = e; end = refl }
      go (r ∷ rs) = record { state = answered_same q r rs s t e; end = refl }

  pub left_agrees : {A : Type 0} (e : _) (m k : M A) → Agree what m k → Agree what (counted e m) (counted e k)
  left_agrees x m k h s t e =
      subst (λ n. SameResult what (entry_left s.left x m s) (entry_left n x k t)) (sym e.left) (go s.left)
    where
      go : (n : ℕ) → SameResult what (entry_left n x m s) (entry_left n x k t)
      go zero = record { state = e; end = refl }
      go (suc n) = h _ _ (noted_same (entered x) (record s { left = n }) (record t { left = n })
          (record {
            replies = e.replies;
            mailbox = e.mailbox;
            next = e.next;
            left = refl;
            done = e.done;
            sub_binaries = e.sub_binaries;
          }))

  -- Clauses.

  module _ {A : Type 0} where
    taking_agrees : (x : Message) (o p : Option (M A)) (m k : M A) → OptionAgrees what o p → Agree what m k
        → Agree what (taking x o m) (taking x p k)
    unfolding OptionAgrees
    taking_agrees x None None m k a h = λ s t e. h _ _ (noted_same _ s t e)
    taking_agrees x None (Some q) m k a h = absurd a
    taking_agrees x (Some p) None m k a h = absurd a
    taking_agrees x (Some p) (Some q) m k a h = λ s t e. a _ _ (record {
      replies = e.replies;
      mailbox = λ i. without x.serial (e.mailbox i);
      next = e.next;
      left = e.left;
      done = λ i. happened (taken x.serial) ∷ looked (record { serial = x.serial; accepted = true }) ∷ e.done i;
      sub_binaries = e.sub_binaries;
    })

    module _ (p q : Term → Tried A) (same : (u : Term) → TriedAgrees what (p u) (q u)) where
      try_each_agrees : (ms : List Message) (m k : M A) → Agree what m k
          → Agree what (try_each p ms m) (try_each q ms k)
      try_each_agrees [] m k h = h
      try_each_agrees (x ∷ xs) m k h =
          cutting_agrees (p x.term).cuts (q x.term).cuts _ _ (same x.term).cuts
          (taking_agrees x (p x.term).body (q x.term).body _ _ (same x.term).body (try_each_agrees xs m k h))

      new_or_agrees : (ts : List Term) (m k u v : M A) → Agree what m k → Agree what u v
          → Agree what (new_or ts m u) (new_or ts k v)
      new_or_agrees [] m k u v h i = h
      new_or_agrees (x ∷ xs) m k u v h i = i

      module _ (z : Timeout) (l r : M A) (late : Agree what l r) where
        timed_agrees : (y : Timeout) (w v : Delay → M A) → ((d : Delay) → Agree what (w d) (v d)) →
            Agree what (elim y as (λ _. M A) [
              | now ↦ l
              | in' d ↦ w d
              | wrong ↦ fail T.error
                  (word (codes "timeout_value"))
            ])
            (elim y as (λ _. M A) [ now ↦ r | in' d ↦ v d | wrong ↦ fail T.error (word (codes "timeout_value")) ])
        timed_agrees now w v h = late
        timed_agrees (in' d) w v h = h d
        timed_agrees wrong w v h = fail_agrees _ _

        delayed_agrees : (d : Delay) (w v : M A) → Agree what w v →
            Agree what (elim d as (λ _. M A) [ forever ↦ w | millis n ↦ l ])
            (elim d as (λ _. M A) [ forever ↦ v | millis n ↦ r ])
        delayed_agrees forever w v h = h
        delayed_agrees (millis n) w v h = late

        mutual
          looking_agrees : (rs : List Reply) → Agree what (looking p z l rs) (looking q z r rs)
          looking_agrees [] = waits_agrees W.look
          looking_agrees (x ∷ xs) = λ s t e.
              new_or_agrees x.arrivals _ _ _ _ (timed_agrees z _ _ (λ d. waiting_agrees xs d))
              (subst (λ n. Agree what (try_each p (numbered s.next x.arrivals) (looking p z l xs))
              (try_each q (numbered n x.arrivals) (looking q z r xs))) (sym e.next)
              (try_each_agrees (numbered s.next x.arrivals) _ _ (looking_agrees xs)))
              _ _ (answered_same W.look x xs s t e)

          waiting_agrees : (rs : List Reply) (d : Delay) → Agree what (waiting p z l rs d) (waiting q z r rs d)
          waiting_agrees [] d = waits_agrees (W.wait d)
          waiting_agrees (x ∷ xs) d = λ s t e.
              new_or_agrees x.arrivals _ _ _ _ (delayed_agrees d _ _ (looking_agrees xs))
              (subst (λ n. Agree what (try_each p (numbered s.next x.arrivals) (looking p z l xs))
              (try_each q (numbered n x.arrivals) (looking q z r xs))) (sym e.next)
              (try_each_agrees (numbered s.next x.arrivals) _ _ (looking_agrees xs)))
              _ _ (answered_same (W.wait d) x xs s t e)

      pub receiving_agrees : (z : Timeout) (l r : M A) → Agree what l r → Agree what (receiving p z l) (receiving q z r)
      receiving_agrees z l r h s t e =
          subst (λ ms. SameResult what (receiving p z l s) (try_each q ms (λ u. looking q z r u.replies u) t))
          (sym e.mailbox)
          (try_each_agrees s.mailbox _ _ at_end s t e)
        where
          at_end : Agree what (λ u. looking p z l u.replies u) (λ u. looking q z r u.replies u)
          at_end u v f = subst (λ rs. SameResult what (looking p z l u.replies u) (looking q z r rs v)) (sym f.replies)
              (looking_agrees z l r h u.replies u v f)
