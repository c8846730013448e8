-- What calls and requests use up, and which listed functions never raise.
use Rattle.std.proofs.Common.{◌≡◌, ◌≤◌, ◌<◌, ℕ, zero, suc, List, [], ◌∷◌, ◌++◌, length, Bool, true, false, not, ◌&&◌, Option, Some, None, refl, ap, ◌∙◌, arith, eqb, IsTrue, if◌then◌else◌, codes}
use Rattle.erl_base.specs.Names.{Name, same_name}
use Rattle.erl_term.specs.Term as T
use Rattle.erl_term.specs.Term.{Term, Class}
use Rattle.erl_term.specs.Terms.{Values, word, listed, tagged, value_at, is_there, put}
use Rattle.bif_table.specs.BuiltinAnswer.{Answer, value, raised, answer}
use Rattle.bif_table.specs.Builtins as B
use Rattle.bif_table.specs.Builtins.{Bif, arity_of, is_guard, is_collecting, lookup}
use Rattle.world_model.specs.World as W
use Rattle.world_model.specs.World.{Request, Reply, Message}
use Rattle.world_model.specs.Run.{State, Entry, entered, Outcome, gives, raises, waits, spent, M, ◌>>=◌, after, give, fail, ask, ask_from, noting}
use Rattle.world_model.specs.Meaning.{single}
use Rattle.world_model.specs.MapUpdate.{Put, put_each, put_all}
use Rattle.world_model.specs.Requests.{replied, exit_of, call_out, sent, send_to, answers, is_send, send_or_call}
use Rattle.world_model.specs.Entries.{entry_left}
use Rattle.world_model.specs.RemoteCalls.{call_erlang, call_terms, apply_term}
use Rattle.step_machine.specs.Bodies.{Here, calling, callees}
use Rattle.step_machine.specs.EntryBound.{Lowers}
use Rattle.ssa_form.specs.Storage.{Around}
use Rattle.ssa_form.specs.SetFacts.{never_raises}

-- What a meaning uses up: an entry, or a reply, or nothing.
pub data Uses (s u : State) : Type 0 where
  entry : u.left < s.left → Uses s u
  reply : u.left ≡ s.left → length u.replies < length s.replies → Uses s u
  nothing : u.left ≡ s.left → u.replies ≡ s.replies → u.mailbox ≡ s.mailbox → Uses s u

pub record Spends {A : Type 0} (m : M A) : Type 0 where
  pub at : (s : State) → Uses s (m s).0

pub uses_twice : (s u v : State) → Uses s u → Uses u v → Uses s v
uses_twice s u v (entry l) (entry m) = entry (omega (arith, l, m))
uses_twice s u v (entry l) (reply e m) = entry (omega (arith, l, e))
uses_twice s u v (entry l) (nothing e f g) = entry (omega (arith, l, e))
uses_twice s u v (reply e l) (entry m) = entry (omega (arith, e, m))
uses_twice s u v (reply e l) (reply f m) = reply (f ∙ e) (omega (arith, l, m))
uses_twice s u v (reply e l) (nothing f g h) =
    let k : length v.replies ≡ length u.replies = ap length g in reply (f ∙ e) (omega (arith, l, k))
uses_twice s u v (nothing e f g) (entry m) = entry (omega (arith, e, m))
uses_twice s u v (nothing e f g) (reply h m) =
    let k : length u.replies ≡ length s.replies = ap length f in reply (h ∙ e) (omega (arith, m, k))
uses_twice s u v (nothing e f g) (nothing h i j) = nothing (h ∙ e) (i ∙ f) (j ∙ g)

pub uses_low : (s u : State) → Uses s u → u.left ≤ s.left
uses_low s u (entry l) = omega (arith, l)
uses_low s u (reply e l) = omega (arith, e)
uses_low s u (nothing e f g) = omega (arith, e)

-- Meanings.

pub give_spends : {A : Type 0} (a : A) → Spends (give a)
give_spends a = record { at = λ s. nothing refl refl refl }

pub fail_spends : {A : Type 0} (c : Class) (r : Term) → Spends (fail {A = A} c r)
fail_spends c r = record { at = λ s. nothing refl refl refl }

then_spends : {A B : Type 0} (f : A → M B) → ((a : A) → Spends (f a)) → (s u : State) (q : Outcome A) → Uses s u
    → Uses s (after u q f).0
then_spends f h s u (gives a) w = uses_twice s u (f a u).0 w ((h a).at u)
then_spends f h s u (raises c r) w = w
then_spends f h s u (waits q) w = w
then_spends f h s u spent w = w

pub bind_spends : {A B : Type 0} (m : M A) (f : A → M B) → Spends m → ((a : A) → Spends (f a)) → Spends (m >>= f)
bind_spends m f h k = record { at = λ s. then_spends f k s (m s).0 (m s).1 (h.at s) }

ask_from_uses : (q : Request) (rs : List Reply) (s : State) → rs ≡ s.replies → Uses s (ask_from q rs s).0
ask_from_uses q [] s e = nothing refl refl refl
ask_from_uses q (r ∷ rs) s e = let k : suc (length rs) ≡ length s.replies = ap length e in reply refl (omega (arith, k))

pub ask_spends : (q : Request) → Spends (ask q)
ask_spends q = record { at = λ s. ask_from_uses q s.replies s refl }

replied_spends : (r : Reply) → Spends (replied r)
replied_spends r = by_way r.how
  where
    by_way : (w : W.How) → Spends
        (elim w [
          | W.return ↦ single r.term
          | W.error ↦ fail T.error r.term
          | W.exit ↦ fail T.exit r.term
          | W.throw ↦ fail T.throw r.term
        ])
    by_way W.return = give_spends _
    by_way W.error = fail_spends _ _
    by_way W.exit = fail_spends _ _
    by_way W.throw = fail_spends _ _

call_out_spends : (m f : Name) (vs : Values) → Spends (call_out m f vs)
call_out_spends m f vs = bind_spends _ _ (ask_spends _) replied_spends

sent_spends : (t : Term) (r : Reply) → Spends (sent t r)
sent_spends t r = by_way r.how
  where
    by_way : (w : W.How) → Spends
        (elim w [
          | W.return ↦ single t
          | W.error ↦ fail T.error (word (codes "badarg"))
          | W.exit ↦ fail T.error (word (codes "badarg"))
          | W.throw ↦ fail T.error (word (codes "badarg"))
        ])
    by_way W.return = give_spends _
    by_way W.error = fail_spends _ _
    by_way W.exit = fail_spends _ _
    by_way W.throw = fail_spends _ _

pub send_spends : (to message : Term) → Spends (send_to to message)
send_spends to message = bind_spends _ _ (ask_spends _) (sent_spends message)

-- the value of a catch, for which the trace may be asked
pub exit_spends : (c : Class) (r : Term) → Spends (exit_of c r)
exit_spends T.throw r = give_spends _
exit_spends T.exit r = give_spends _
exit_spends T.error r = bind_spends _ _ (ask_spends W.trace) (λ t. give_spends _)

answers_spends : (a : Answer) → Spends (answers a)
answers_spends (value t) = give_spends _
answers_spends (raised c r) = fail_spends _ _

send_or_call_spends : (f : Name) (vs : Values) → Spends (send_or_call f vs)
send_or_call_spends f (to ∷ message ∷ []) = send_spends to message
send_or_call_spends f vs = call_out_spends _ f vs

if_spends : {A : Type 0} (b : Bool) (m n : M A) → Spends m → Spends n → Spends (if b then m else n)
if_spends true m n h k = h
if_spends false m n h k = k

erlang_spends : (own : Term) (f : Name) (vs : Values) → Spends (call_erlang own f vs)
unfolding call_erlang
erlang_spends own f vs = listed_or (lookup f (length vs))
  where
    listed_or : (o : Option Bif)
        → Spends (elim o [
          | Some b ↦ answers (answer b own vs)
          | None ↦ if is_send f then send_or_call f vs
              else call_out (codes "erlang") f vs
        ])
    listed_or (Some b) = answers_spends (answer b own vs)
    listed_or None = if_spends (is_send f) _ _ (send_or_call_spends f vs) (call_out_spends _ f vs)

pub remote_spends : (own m f : Term) (vs : Values) → Spends (call_terms own m f vs)
unfolding call_terms
remote_spends own (T.atom m) (T.atom f) vs =
    if_spends (same_name m (codes "erlang")) _ _ (erlang_spends own f vs) (call_out_spends m f vs)
remote_spends own _ _ vs = fail_spends _ _

if_stays : {A : Type 0} (b : Bool) (m n : M A) (s : State) → (m s).0 ≡ s → (n s).0 ≡ s → ((if b then m else n) s).0 ≡ s
if_stays true m n s h k = h
if_stays false m n s h k = k

put_each_stays : (qs : List Put) (ps : T.Pairs) (s : State) → (put_each qs ps s).0 ≡ s
unfolding put_each
put_each_stays [] ps s = refl
put_each_stays (q ∷ qs) ps s = if_stays (q.exact && not (is_there (value_at ps q.key)))
    (fail {A = Values} T.error (tagged (codes "badkey") q.key)) (put_each qs (put q.key q.value ps)) s refl
    (put_each_stays qs (put q.key q.value ps) s)

pub put_all_stays : (qs : List Put) (t : Term) (s : State) → (put_all qs t s).0 ≡ s
unfolding put_all
put_all_stays qs (T.map ps) s = put_each_stays qs ps s
put_all_stays qs t s = refl

-- Calls of the module's functions.

module _ (around : Around) (here : Here) (lowers : Lowers here.enter) where
  entry_uses : (k : ℕ) (e : Entry) (n : ℕ) (vs : Values) (s : State) → k ≡ s.left
      → Uses s (entry_left k e (here.enter n vs) s).0
  entry_uses zero e n vs s p = nothing refl refl refl
  entry_uses (suc k) e n vs s p = let l : (here.enter n vs (noting (entered e) (record s { left = k }))).0.left ≤ k =
      lowers n vs (noting (entered e) (record s { left = k })) in entry (omega (arith, l, p))

  pub call_spends : (n : ℕ) (t : Bool) (vs : Values) → Spends (calling here n t vs >>= single)
  call_spends n t vs = bind_spends (calling here n t vs) single (record { at = λ s. entry_uses s.left _ n vs s refl })
      (λ a. give_spends _)

  pub applied_spends : (t : Term) (vs : Values) → Spends (apply_term (callees around.arities here) t vs)
  applied_spends (T.fun m s a cs) vs = if_spends _ _ _ (fail_spends _ _)
      (if_spends _ _ _ (call_spends s false (vs ++ listed cs)) (call_out_spends _ _ _))
  applied_spends (T.extern m f a) vs = if_spends _ _ _ (fail_spends _ _) (call_out_spends _ _ _)
  applied_spends t vs = fail_spends _ _

-- The listed functions that never raise.

one_long : (n : ℕ) → eqb (suc (suc n)) 1 ≡ true → ⊥
one_long n h = grind arith

two_long : (n : ℕ) → eqb (suc (suc (suc n))) 2 ≡ true → ⊥
two_long n h = grind arith

answers_two : (b : Bif) (own : Term) (vs : Values) (f : Term → Term → Term)
    → ((x y : Term) → answer b own (x ∷ y ∷ []) ≡ value (f x y)) → eqb (length vs) 2 ≡ true
    → (t : Term) × (answer b own vs ≡ value t)
answers_two b own [] f h e = absurd cc
answers_two b own (x ∷ []) f h e = absurd cc
answers_two b own (x ∷ y ∷ []) f h e = (f x y, h x y)
answers_two b own (x ∷ y ∷ z ∷ zs) f h e = absurd (two_long (length zs) e)

answers_one : (b : Bif) (own : Term) (vs : Values) (f : Term → Term)
    → ((x : Term) → answer b own (x ∷ []) ≡ value (f x)) → eqb (length vs) 1 ≡ true
    → (t : Term) × (answer b own vs ≡ value t)
answers_one b own [] f h e = absurd cc
answers_one b own (x ∷ []) f h e = (f x, h x)
answers_one b own (x ∷ y ∷ ys) f h e = absurd (one_long (length ys) e)

answers_none : (b : Bif) (own : Term) (vs : Values) → answer b own [] ≡ value own → eqb (length vs) 0 ≡ true
    → (t : Term) × (answer b own vs ≡ value t)
answers_none b own [] h e = (own, h)
answers_none b own (x ∷ xs) h e = absurd (grind arith)

pub answers_value : (b : Bif) (own : Term) (vs : Values) → IsTrue (never_raises b) → eqb (length vs) (arity_of b) ≡ true
    → (t : Term) × (answer b own vs ≡ value t)
unfolding answer
answers_value B.Equals own vs n e = answers_two B.Equals own vs _ (λ x y. refl) e
answers_value B.Exactly own vs n e = answers_two B.Exactly own vs _ (λ x y. refl) e
answers_value B.Differs own vs n e = answers_two B.Differs own vs _ (λ x y. refl) e
answers_value B.ExactlyNot own vs n e = answers_two B.ExactlyNot own vs _ (λ x y. refl) e
answers_value B.Below own vs n e = answers_two B.Below own vs _ (λ x y. refl) e
answers_value B.AtMost own vs n e = answers_two B.AtMost own vs _ (λ x y. refl) e
answers_value B.Above own vs n e = answers_two B.Above own vs _ (λ x y. refl) e
answers_value B.AtLeast own vs n e = answers_two B.AtLeast own vs _ (λ x y. refl) e
answers_value B.IsAtom own vs n e = answers_one B.IsAtom own vs _ (λ x. refl) e
answers_value B.IsBinary own vs n e = answers_one B.IsBinary own vs _ (λ x. refl) e
answers_value B.IsBitstring own vs n e = answers_one B.IsBitstring own vs _ (λ x. refl) e
answers_value B.IsBoolean own vs n e = answers_one B.IsBoolean own vs _ (λ x. refl) e
answers_value B.IsFloat own vs n e = answers_one B.IsFloat own vs _ (λ x. refl) e
answers_value B.IsFunction own vs n e = answers_one B.IsFunction own vs _ (λ x. refl) e
answers_value B.IsInteger own vs n e = answers_one B.IsInteger own vs _ (λ x. refl) e
answers_value B.IsList own vs n e = answers_one B.IsList own vs _ (λ x. refl) e
answers_value B.IsMap own vs n e = answers_one B.IsMap own vs _ (λ x. refl) e
answers_value B.IsNumber own vs n e = answers_one B.IsNumber own vs _ (λ x. refl) e
answers_value B.IsPid own vs n e = answers_one B.IsPid own vs _ (λ x. refl) e
answers_value B.IsPort own vs n e = answers_one B.IsPort own vs _ (λ x. refl) e
answers_value B.IsReference own vs n e = answers_one B.IsReference own vs _ (λ x. refl) e
answers_value B.IsTuple own vs n e = answers_one B.IsTuple own vs _ (λ x. refl) e
answers_value B.Self own vs n e = answers_none B.Self own vs refl e
answers_value _ own vs n e = absurd cc
