-- The words that meanings are made of are lawful, where what they enter is.
use Rattle.std.proofs.Common.{◌≡◌, ℕ, zero, suc, List, [], ◌∷◌, ◌++◌, length, Bool, true, false, not, ◌&&◌, Option, Some, None, if◌then◌else◌, refl, codes, arith}
use Rattle.erl_base.specs.Names.{Name, same_name}
use Rattle.erl_term.specs.Term as T
use Rattle.erl_term.specs.Term.{Term, Class}
use Rattle.erl_term.specs.Terms.{Values, word, listed, tagged, value_at, is_there, put}
use Rattle.bif_table.specs.BuiltinAnswer.{Answer, value, raised, answer, lookup}
use Rattle.bif_table.specs.Builtins.{Bif}
use Rattle.world_model.specs.World as W
use Rattle.world_model.specs.World.{Delay, forever, millis, Request, Reply, Message}
use Rattle.world_model.specs.Run.{Note, Entry, entered, looked, cut, State, Outcome, gives, raises, waits, spent, M, ◌>>=◌, after, give, fail, ask, ask_from, noting, numbered, answered}
use Rattle.world_model.specs.Meaning.{single, either, ends}
use Rattle.world_model.specs.MapUpdate.{Put, put_each, put_all}
use Rattle.world_model.specs.Requests.{call_out, send_to, answers, is_send, send_or_call, exit_of}
use Rattle.world_model.specs.Entries.{entry_left, counted, enter_site}
use Rattle.world_model.specs.RemoteCalls.{call_erlang, call_terms, apply_term, raise_again}
use Rattle.world_model.specs.Receive.{Timeout, now, in', wrong, Tried, taking, try_each, looking, waiting, new_or, receiving}
use Rattle.step_machine.specs.Bodies.{Here, calling, callees}
use Rattle.pass_contract.specs.Lawful.{Lawful, IsLawful}
use Rattle.pass_contract.proofs.Modules.{lawful_itself}
use Rattle.pass_contract.proofs.LawfulSteps.{lawful_twice, noted_lawful, noting_lawful, answered_lawful, taken_lawful}

-- a meaning that is lawful wherever it starts
pub record Goes {A : Type 0} (m : M A) : Type 0 where
  pub at : (s : State) → Lawful s (m s).0

pub give_goes : {A : Type 0} (a : A) → Goes (give a)
give_goes a = record { at = λ s. lawful_itself s }

pub fail_goes : {A : Type 0} (c : Class) (r : Term) → Goes (fail {A = A} c r)
fail_goes c r = record { at = λ s. lawful_itself s }

pub waits_goes : {A : Type 0} (q : Request) → Goes {A = A} (λ s. (s, waits q))
waits_goes q = record { at = λ s. lawful_itself s }

after_lawful : {A B : Type 0} (s u : State) (o : Outcome A) (f : A → M B) → Lawful s u → ((a : A) → Goes (f a))
    → Lawful s (after u o f).0
after_lawful s u (gives a) f l h = lawful_twice s u (f a u).0 l ((h a).at u)
after_lawful s u (raises c r) f l h = l
after_lawful s u (waits q) f l h = l
after_lawful s u spent f l h = l

pub bind_goes : {A B : Type 0} (m : M A) (f : A → M B) → Goes m → ((a : A) → Goes (f a)) → Goes (m >>= f)
bind_goes m f h k = record { at = λ s. after_lawful s (m s).0 (m s).1 f (h.at s) k }

ends_lawful : {A B : Type 0} (s u : State) (o : Outcome A) (f : A → M B) (g : Class → Term → M B) → Lawful s u
    → ((a : A) → Goes (f a)) → ((c : Class) (r : Term) → Goes (g c r)) → Lawful s (ends u o f g).0
ends_lawful s u (gives a) f g l h k = lawful_twice s u (f a u).0 l ((h a).at u)
ends_lawful s u (raises c r) f g l h k = lawful_twice s u (g c r u).0 l ((k c r).at u)
ends_lawful s u (waits q) f g l h k = l
ends_lawful s u spent f g l h k = l

pub either_goes : {A B : Type 0} (m : M A) (f : A → M B) (g : Class → Term → M B) → Goes m → ((a : A) → Goes (f a))
    → ((c : Class) (r : Term) → Goes (g c r)) → Goes (either m f g)
either_goes m f g h k i = record { at = λ s. ends_lawful s (m s).0 (m s).1 f g (h.at s) k i }

-- after a change of the state
pub moved_goes : {A : Type 0} (f : State → State) (m : M A) → ((s : State) → Lawful s (f s)) → Goes m
    → Goes (λ s. m (f s))
moved_goes f m h k = record { at = λ s. lawful_twice s (f s) (m (f s)).0 (h s) (k.at (f s)) }

pub noting_goes : {A : Type 0} (n : Note) (m : M A) → Goes m → Goes (λ s. m (noting n s))
noting_goes n m h = moved_goes (noting n) m (noting_lawful n) h

-- Requests.

ask_from_lawful : (q : Request) (rs : List Reply) (s : State) → Lawful s (ask_from q rs s).0
ask_from_lawful q [] s = lawful_itself s
ask_from_lawful q (r ∷ rs) s = answered_lawful q r rs s

pub ask_goes : (q : Request) → Goes (ask q)
ask_goes q = record { at = λ s. ask_from_lawful q s.replies s }

how_goes : (h : W.How) (a b c d : M Values) → Goes a → Goes b → Goes c → Goes d
    → Goes (elim h as (λ _. M Values) [ W.return ↦ a | W.error ↦ b | W.exit ↦ c | W.throw ↦ d ])
how_goes W.return a b c d h i j k = h
how_goes W.error a b c d h i j k = i
how_goes W.exit a b c d h i j k = j
how_goes W.throw a b c d h i j k = k

pub call_out_goes : (m f : Name) (vs : Values) → Goes (call_out m f vs)
call_out_goes m f vs = bind_goes _ _ (ask_goes _)
    (λ r. how_goes r.how _ _ _ _ (give_goes _) (fail_goes _ _) (fail_goes _ _) (fail_goes _ _))

pub send_goes : (to message : Term) → Goes (send_to to message)
send_goes to message = bind_goes _ _ (ask_goes _)
    (λ r. how_goes r.how _ _ _ _ (give_goes _) (fail_goes _ _) (fail_goes _ _) (fail_goes _ _))

pub answers_goes : (a : Answer) → Goes (answers a)
answers_goes (value t) = give_goes _
answers_goes (raised c r) = fail_goes _ _

send_or_call_goes : (f : Name) (vs : Values) → Goes (send_or_call f vs)
send_or_call_goes f [] = call_out_goes _ f []
send_or_call_goes f (t ∷ []) = call_out_goes _ f (t ∷ [])
send_or_call_goes f (t ∷ u ∷ []) = send_goes t u
send_or_call_goes f (t ∷ u ∷ v ∷ vs) = call_out_goes _ f (t ∷ u ∷ v ∷ vs)

pub if_goes : {A : Type 0} (b : Bool) (m n : M A) → Goes m → Goes n → Goes (if b then m else n)
if_goes true m n h k = h
if_goes false m n h k = k

erlang_goes : (own : Term) (f : Name) (vs : Values) → Goes (call_erlang own f vs)
unfolding call_erlang
erlang_goes own f vs = listed_or (lookup f (length vs))
  where
    listed_or : (o : Option Bif)
        → Goes (elim o [
          | Some b ↦ answers (answer b own vs)
          | None ↦ if is_send f then send_or_call f vs
              else call_out (codes "erlang") f vs
        ])
    listed_or (Some b) = answers_goes (answer b own vs)
    listed_or None = if_goes (is_send f) _ _ (send_or_call_goes f vs) (call_out_goes _ f vs)

pub remote_goes : (own m f : Term) (vs : Values) → Goes (call_terms own m f vs)
unfolding call_terms
remote_goes own (T.atom m) (T.atom f) vs =
    if_goes (same_name m (codes "erlang")) _ _ (erlang_goes own f vs) (call_out_goes m f vs)
remote_goes own _ _ vs = fail_goes _ _

put_each_goes : (qs : List Put) (ps : T.Pairs) → Goes (put_each qs ps)
unfolding put_each
put_each_goes [] ps = give_goes _
put_each_goes (q ∷ qs) ps = if_goes (q.exact && not (is_there (value_at ps q.key)))
    (fail T.error (tagged (codes "badkey") q.key)) (put_each qs (put q.key q.value ps)) (fail_goes _ _)
    (put_each_goes qs (put q.key q.value ps))

pub put_all_goes : (qs : List Put) (t : Term) → Goes (put_all qs t)
unfolding put_all
put_all_goes qs (T.map ps) = put_each_goes qs ps
put_all_goes qs t = fail_goes _ _

pub again_goes : (t r : Term) → Goes (raise_again t r)
again_goes (T.raw_trace c) r = fail_goes _ _
again_goes _ r = fail_goes _ _

pub trace_goes : Goes (ask W.trace >>= λ r. single r.term)
trace_goes = bind_goes _ _ (ask_goes W.trace) (λ r. give_goes _)

pub exit_goes : (c : Class) (r : Term) → Goes (exit_of c r)
exit_goes T.throw r = give_goes _
exit_goes T.exit r = give_goes _
exit_goes T.error r = bind_goes _ _ (ask_goes W.trace) (λ t. give_goes _)

-- Entries.

entry_lawful : {A : Type 0} (e : Entry) (m : M A) → Goes m → (k : ℕ) (s : State) → k ≡ s.left
    → Lawful s (entry_left k e m s).0
entry_lawful e m h zero s p = lawful_itself s
entry_lawful e m h (suc k) s p = lawful_twice s (noting (entered e) (record s { left = k })) _
    (noted_lawful (entered e) k s (omega (arith, p))) (h.at (noting (entered e) (record s { left = k })))

pub counted_goes : {A : Type 0} (e : Entry) (m : M A) → Goes m → Goes (counted e m)
counted_goes e m h = record { at = λ s. entry_lawful e m h s.left s refl }

module _ (enter : ℕ → Values → M Term) (lawful : IsLawful enter) where
  pub enters_goes : (n : ℕ) (tail : Bool) (vs : Values) → Goes (enter_site enter n tail vs)
  enters_goes n tail vs =
      bind_goes _ _ (counted_goes _ (enter n vs) (record { at = lawful n vs })) (λ a. give_goes _)

module _ (here : Here) (lawful : IsLawful here.enter) where
  pub call_goes : (n : ℕ) (tail : Bool) (vs : Values) → Goes (calling here n tail vs >>= single)
  call_goes n tail vs =
      bind_goes _ _ (counted_goes _ (here.enter n vs) (record { at = lawful n vs })) (λ a. give_goes _)

  pub apply_goes : (ws : List ℕ) (t : Term) (vs : Values) → Goes (apply_term (callees ws here) t vs)
  apply_goes ws (T.fun m s a cs) vs = if_goes _ _ _ (fail_goes _ _)
      (if_goes _ _ _ (enters_goes here.enter lawful s false (vs ++ listed cs)) (call_out_goes _ _ _))
  apply_goes ws (T.extern m f a) vs = if_goes _ _ _ (fail_goes _ _) (call_out_goes _ _ _)
  apply_goes ws t vs = fail_goes _ _

-- Receives.

-- what a row does, if one is taken
unfoldable pub BodyGoes : {A : Type 0} → Option (M A) → Type 0
BodyGoes None = Unit {0}
BodyGoes (Some m) = Goes m

module _ {A : Type 0} where
  taking_goes : (x : Message) (o : Option (M A)) (m : M A) → BodyGoes o → Goes m → Goes (taking x o m)
  unfolding BodyGoes
  taking_goes x None m b h = noting_goes (looked (record { serial = x.serial; accepted = false })) m h
  taking_goes x (Some k) m b h = moved_goes _ k (taken_lawful x) b

  module _ (p : Term → Tried A) (goes : (u : Term) → BodyGoes (p u).body) where
    try_each_goes : (ms : List Message) (m : M A) → Goes m → Goes (try_each p ms m)
    try_each_goes [] m h = h
    try_each_goes (x ∷ xs) m h = noting_goes (cut (p x.term).cuts) _
        (taking_goes x (p x.term).body _ (goes x.term) (try_each_goes xs m h))

    new_or_goes : (ts : List Term) (m u : M A) → Goes m → Goes u → Goes (new_or ts m u)
    new_or_goes [] m u h i = h
    new_or_goes (x ∷ xs) m u h i = i

    module _ (z : Timeout) (l : M A) (late : Goes l) where
      timed_goes : (y : Timeout) (w : Delay → M A) → ((d : Delay) → Goes (w d)) →
          Goes (elim y as (λ _. M A) [ now ↦ l | in' d ↦ w d | wrong ↦ fail T.error (word (codes "timeout_value")) ])
      timed_goes now w h = late
      timed_goes (in' d) w h = h d
      timed_goes wrong w h = fail_goes _ _

      delayed_goes : (d : Delay) (w : M A) → Goes w →
          Goes (elim d as (λ _. M A) [ forever ↦ w | millis n ↦ l ])
      delayed_goes forever w h = h
      delayed_goes (millis n) w h = late

      mutual
        looking_goes : (rs : List Reply) → Goes (looking p z l rs)
        looking_goes [] = waits_goes W.look
        looking_goes (x ∷ xs) = record {
          at = λ s. lawful_twice s (answered W.look x xs s) _ (answered_lawful W.look x xs s)
              ((new_or_goes x.arrivals _ _ (timed_goes z _ (λ d. waiting_goes xs d))
              (try_each_goes (numbered s.next x.arrivals) _ (looking_goes xs))).at (answered W.look x xs s));
        }

        waiting_goes : (rs : List Reply) (d : Delay) → Goes (waiting p z l rs d)
        waiting_goes [] d = waits_goes (W.wait d)
        waiting_goes (x ∷ xs) d = record {
          at = λ s. lawful_twice s (answered (W.wait d) x xs s) _ (answered_lawful (W.wait d) x xs s)
              ((new_or_goes x.arrivals _ _ (delayed_goes d _ (looking_goes xs))
              (try_each_goes (numbered s.next x.arrivals) _ (looking_goes xs))).at (answered (W.wait d) x xs s));
        }

    pub receiving_goes : (z : Timeout) (l : M A) → Goes l → Goes (receiving p z l)
    receiving_goes z l h = record {
      at = λ s. (try_each_goes s.mailbox (λ u. looking p z l u.replies u)
          (record { at = λ u. (looking_goes z l h u.replies).at u })).at s;
    }
