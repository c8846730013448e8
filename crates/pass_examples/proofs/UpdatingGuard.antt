-- A receive whose guard updates a map, in kernel form and as a body: both do the same, message by message.
use Rattle.std.proofs.Common.{◌≡◌, ◌<◌, ◌||◌, ◌+◌, inl, Contains, get_or, ℕ, zero, suc, List, [], ◌∷◌, ◌++◌, length, Bool, true, false, eqb, slice_get, Option, Some, None, if◌then◌else◌, refl, sym, ap, ◌∙◌, subst, append_assoc, arith}
use Rattle.std.proofs.lemmas.Bool.{eq-eqb}
use Rattle.erl_base.specs.Lists.{among}
use Rattle.erl_base.specs.declared.ids.FunKey.{FunKey}
use Rattle.erl_term.specs.Term as T
use Rattle.erl_term.specs.Term.{Term}
use Rattle.erl_term.specs.Terms.{Values}
use Rattle.erl_term.specs.Depth.{depths}
use Rattle.erl_term.specs.WellFormed.{maps_rise}
use Rattle.world_model.specs.World as W
use Rattle.world_model.specs.World.{Reply, Message, asked, taken}
use Rattle.world_model.specs.Run.{Note, happened, looked, began, cut, noting, State, Outcome, gives, waits, M, give, answered, numbered}
use Rattle.world_model.specs.Meaning.{one}
use Rattle.world_model.specs.MapUpdate.{put_each, put_all}
use Rattle.world_model.specs.Receive.{now, new_or, without, taking, try_each, looking, Tried}
use Rattle.step_machine.specs.Bodies.{Here, here_of}
use Rattle.kernel_meaning.specs.Environment.{Env, Setting, no_rests, no_values, with_value, with_values}
use Rattle.kernel_meaning.specs.KernelRun.{meaning, tree_does, no_falls, fun_does}
use Rattle.kernel_meaning.specs.KernelPredicate.{WellFormed}
use Rattle.kernel_meaning.specs.Forms as Kernel
use Rattle.kernel_meaning.specs.Forms.{setting_in, kernel_does}
use Rattle.kernel_meaning.proofs.Agreeing.{noted_same, answered_same}
use Rattle.ssa_form.specs.Storage as Held
use Rattle.ssa_form.specs.Storage.{Frame}
use Rattle.ssa_form.specs.SsaRun.{Vars, in_vars, blocks, all_terms, ssa_run}
use Rattle.ssa_form.specs.PassView.{result_of, around_in, ssa_does, ssa_form}
use Rattle.pass_contract.specs.InModule.{InModule}
use Rattle.pass_contract.specs.SameRun.{Compared, SameState, SameResult}
use Rattle.pass_contract.specs.PassContract.{undef, ComesTo, GivesSame, Agrees, KeepsShape, AddsNoTest}
use Rattle.pass_examples.proofs.FormedReceive.{formed}
use Rattle.pass_examples.specs.UpdatingGuard.{late, takes_maps, receiving_map, kernel_receives, body_receives, but_marks, none_to_come, UpdatingGuardsKeep}

-- What the receive does, by itself.

abbrev is_map : Term → Bool
is_map (T.map ps) = true
is_map _ = false

abbrev passed : Message → State → State
passed x s = noting (looked (record { serial = x.serial; accepted = false })) s

abbrev took : Message → State → State
took x s = record s {
  mailbox = without x.serial s.mailbox;
  notes = happened (taken x.serial) ∷ looked (record { serial = x.serial; accepted = true }) ∷ s.notes;
}

abbrev tries_one : Bool → Message → M Term → M Term
tries_one true x k = λ s. (took x s, gives x.term)
tries_one false x k = λ s. k (passed x s)

abbrev tries : List Message → M Term → M Term
tries [] k = k
tries (x ∷ xs) k = tries_one (is_map x.term) x (tries xs k)

abbrev looks : List Reply → M Term
looks [] = λ s. (s, waits W.look)
looks (r ∷ rs) = λ s. new_or r.arrivals (give late) (tries (numbered s.next r.arrivals) (looks rs))
    (answered W.look r rs s)

abbrev receives : M Term
receives s = tries s.mailbox (λ u. looks u.replies u) s

-- Kernel form.

abbrev after_give : M Values → M Term
after_give m = one m give

module _ (c : Bool) where
  abbrev what : Compared
  what = but_marks c

  module _ (w : Setting) (here : Here) (env : Env) where
    abbrev pick : Term → Tried Values
    pick u = tree_does w here takes_maps (with_value env 1 u) no_rests true no_falls

    abbrev picked : Bool → Term → Option (M Values)
    picked true u = Some (give (u ∷ []))
    picked false u = None

    pick_is : (u : Term) → (pick u).body ≡ picked (is_map u) u
    unfolding meaning put_all put_each
    pick_is (T.map ps) = refl
    pick_is u = refl

    cut_first : (i : ℕ) (s t : State) → SameState what s t → SameState what (noting (cut i) s) t
    cut_first i s t e = record {
      replies = e.replies;
      mailbox = e.mailbox;
      next = e.next;
      left = e.left;
      done = e.done;
      sub_binaries = λ z. omega (arith, e.sub_binaries z);
    }

    took_same : (x : Message) (s t : State) → SameState what s t → SameState what (took x s) (took x t)
    took_same x s t e = record {
      replies = e.replies;
      mailbox = ap (without x.serial) e.mailbox;
      next = e.next;
      left = e.left;
      done = ap (λ ns. happened (taken x.serial) ∷ looked (record { serial = x.serial; accepted = true }) ∷ ns) e.done;
      sub_binaries = e.sub_binaries;
    }

    abbrev Goes : M Values → M Term → Type 0
    Goes k k' = (s t : State) → SameState what s t → SameResult what (after_give k s) (k' t)

    tries_agree : (k : M Values) (k' : M Term) → Goes k k' → (ms : List Message) → Goes (try_each pick ms k)
        (tries ms k')
    tries_agree k k' h [] s t e = h s t e
    tries_agree k k' h (x ∷ xs) s t e = by (tries_agree k k' h xs) (is_map x.term) (pick x.term).body (pick_is x.term)
      where
        s1 : State
        s1 = noting (cut (pick x.term).cuts) s

        by : Goes (try_each pick xs k) (tries xs k') → (b : Bool) (o : Option (M Values)) → o ≡ picked b x.term
            → SameResult what (after_give (taking x o (try_each pick xs k)) s1) (tries_one b x (tries xs k') t)
        by ih true o p = subst
            (λ z. SameResult what (after_give (taking x z (try_each pick xs k)) s1) (took x t, gives x.term)) (sym p)
            (record { state = took_same x s1 t (cut_first _ s t e); end = refl })
        by ih false o p = subst
            (λ z. SameResult what (after_give (taking x z (try_each pick xs k)) s1) (tries xs k' (passed x t))) (sym p)
            (ih (passed x s1) (passed x t)
            (noted_same what (looked (record { serial = x.serial; accepted = false })) s1 t (cut_first _ s t e)))

    looks_agree : (rs : List Reply) → Goes (looking pick now (give (late ∷ [])) rs) (looks rs)
    looks_agree [] s t e = record { state = e; end = refl }
    looks_agree (r ∷ rs) s t e = by (looks_agree rs) r.arrivals (answered_same what W.look r rs s t e)
      where
        by : Goes (looking pick now (give (late ∷ [])) rs) (looks rs) → (us : List Term) → SameState what
            (answered W.look r rs s) (answered W.look r rs t) → SameResult what
            (after_give (new_or us (give (late ∷ []))
            (try_each pick (numbered s.next us) (looking pick now (give (late ∷ [])) rs))) (answered W.look r rs s))
            (new_or us (give late) (tries (numbered t.next us) (looks rs)) (answered W.look r rs t))
        by ih [] i = record { state = i; end = refl }
        by ih (u ∷ us) i = subst (λ j. SameResult what
            (after_give (try_each pick (numbered s.next (u ∷ us)) (looking pick now (give (late ∷ [])) rs))
            (answered W.look r rs s)) (tries (numbered j (u ∷ us)) (looks rs) (answered W.look r rs t))) (sym e.next)
            (tries_agree _ _ ih (numbered s.next (u ∷ us)) _ _ i)

    ends_agree : Goes (λ u. looking pick now (give (late ∷ [])) u.replies u) (λ u. looks u.replies u)
    ends_agree s t e = subst
        (λ rs. SameResult what (after_give (looking pick now (give (late ∷ [])) s.replies) s) (looks rs t))
        (sym e.replies)
        (looks_agree s.replies s t e)

    receives_agree : (o : Option Term) (s t : State) → SameState what s t → SameResult what
        (after_give (try_each pick s.mailbox (λ u. looking pick now (give (late ∷ [])) u.replies u))
        (noting (began o) s))
        (receives t)
    receives_agree o s t e = subst (λ ms. SameResult what
        (after_give (try_each pick s.mailbox (λ u. looking pick now (give (late ∷ [])) u.replies u))
        (noting (began o) s))
        (tries ms (λ u. looks u.replies u) t)) (sym e.mailbox)
        (tries_agree _ _ ends_agree s.mailbox (noting (began o) s) t (record {
          replies = e.replies;
          mailbox = e.mailbox;
          next = e.next;
          left = e.left;
          done = e.done;
          sub_binaries = e.sub_binaries;
        }))

  kernel_same : (m : InModule) (k : FunKey) (n : ℕ) (here : Here) (v : Term) (s t : State) → SameState what s t
      → SameResult what (fun_does (setting_in m) (kernel_receives k n) here (v ∷ []) s) (receives t)
  unfolding fun_does meaning
  kernel_same m k n here v s t e = receives_agree (setting_in m) here (with_values no_values (0 ∷ []) (v ∷ [])) _ s t e

-- The body, from its look on.

abbrev with_state : List Reply → List Message → ℕ → ℕ → List Note → State
with_state rs ms i l ns = record { replies = rs; mailbox = ms; next = i; left = l; notes = ns }

abbrev framed : (ℕ → Held.Held) → ℕ → Option Message → Frame Vars
framed vals k x =
    record { store = record { values = vals; handlers = [] }; contexts = []; save = k; window = x }

abbrev seeing : Term → (ℕ → Held.Held) → ℕ → Held.Held
seeing t vals y = if eqb y 1 then Held.term t else vals y

module _ (w : Held.Around) (here : Here) (n : ℕ) where
  pub record Over (from at : ℕ) (f : Frame Vars) (s : State) (r : State × Outcome Term) : Type 0 where
    pub within : ℕ
    pub gives : result_of (blocks in_vars w here (body_receives n) within None from at f s) ≡ Some r

  -- a message was found
  found : (t : Term) (i : ℕ) (vals : ℕ → Held.Held) (k : ℕ) (s : State) (go : M Term)
      → ((later : ℕ → Held.Held) → Over 5 1 (framed later (suc k) None) (passed (record { serial = i; term = t }) s)
      (go (passed (record { serial = i; term = t }) s)))
      → Over 1 2 (framed (seeing t vals) k (Some (record { serial = i; term = t }))) s
      (tries_one (is_map t) (record { serial = i; term = t }) go s)
  unfolding blocks put_all put_each
  found (T.map ps) i vals k s go h = record { within = 2; gives = refl }
  found t i vals k s go h =
      let c : Over 5 1 (framed (seeing t vals) (suc k) None) (passed (record { serial = i; term = t }) s)
      (go (passed (record { serial = i; term = t }) s)) = h (seeing t vals) in
      record { within = suc (suc c.within); gives = c.gives }

  -- a message stands at the save place
  sees : (from k : ℕ) (vals : ℕ → Held.Held) (x : Message) (s : State) (r : State × Outcome Term)
      → slice_get s.mailbox k ≡ Some x → Over 1 2 (framed (seeing x.term vals) k (Some x)) s r
      → Over from 1 (framed vals k None) s r
  unfolding blocks
  sees from k vals x s r e c = record { within = suc c.within; gives = rw (e, result_of) c.gives }

  abbrev Ends : List Reply → Type 0
  Ends rs = (from : ℕ) (vals : ℕ → Held.Held) (ms : List Message) (k i l : ℕ) (ns : List Note) → k ≡ length ms
      → Over from 1 (framed vals k None) (with_state rs ms i l ns) (looks rs (with_state rs ms i l ns))

  none_at : (ms : List Message) (k : ℕ) → k ≡ length ms → slice_get ms k ≡ None
  none_at [] k e = refl
  none_at (x ∷ ms) zero e = absurd (omega (arith, e))
  none_at (x ∷ ms) (suc k) e = none_at ms k (omega (arith, e))

  first_at : (ms : List Message) (x : Message) (xs : List Message) (k : ℕ) → k ≡ length ms
      → slice_get (ms ++ x ∷ xs) k ≡ Some x
  first_at [] x xs zero e = refl
  first_at [] x xs (suc k) e = absurd (omega (arith, e))
  first_at (y ∷ ms) x xs zero e = absurd (omega (arith, e))
  first_at (y ∷ ms) x xs (suc k) e = first_at ms x xs k (omega (arith, e))

  one_more : (ms : List Message) (x : Message) (k : ℕ) → k ≡ length ms → suc k ≡ length (ms ++ x ∷ [])
  one_more [] x k e = omega (arith, e)
  one_more (y ∷ ms) x zero e = absurd (omega (arith, e))
  one_more (y ∷ ms) x (suc k) e =
      let p : suc k ≡ length (ms ++ x ∷ []) = one_more ms x k (omega (arith, e)) in omega (arith, p)

  append_none : (ms : List Message) → ms ++ [] ≡ ms
  append_none [] = refl
  append_none (x ∷ ms) = ap (λ z. x ∷ z) (append_none ms)

  pending : (rs : List Reply) → Ends rs → (go : M Term)
      → ((ms : List Message) (i l : ℕ) (ns : List Note)
      → go (with_state rs ms i l ns) ≡ looks rs (with_state rs ms i l ns))
      → (xs ms all : List Message) (from : ℕ) (vals : ℕ → Held.Held) (k i l : ℕ) (ns : List Note)
      → all ≡ ms ++ xs → k ≡ length ms
      → Over from 1 (framed vals k None) (with_state rs all i l ns) (tries xs go (with_state rs all i l ns))
  pending rs h go same [] ms all from vals k i l ns e p =
      subst (λ r. Over from 1 (framed vals k None) (with_state rs all i l ns) r) (sym (same all i l ns))
      (h from vals all k i l ns (p ∙ ap length (sym (append_none ms) ∙ sym e)))
  pending rs h go same (x ∷ xs) ms all from vals k i l ns e p =
      sees from k vals x (with_state rs all i l ns) _
      (subst (λ z. slice_get z k ≡ Some x) (sym e) (first_at ms x xs k p))
      (found x.term x.serial vals k (with_state rs all i l ns) (tries xs go)
      (λ later. pending rs h go same xs (ms ++ x ∷ []) all 5 later (suc k) i l _
      (e ∙ sym (append_assoc ms (x ∷ []) xs)) (one_more ms x k p)))

  arrived : (us : List Term) (how : W.How) (t : Term) (rs : List Reply) → Ends rs
      → Ends (record { arrivals = us; how = how; term = t } ∷ rs)
  unfolding blocks
  arrived [] how t rs h from vals ms k i l ns e = record {
    within = 3;
    gives = rw (none_at ms k e) (rw (ap (λ z. slice_get z k) (append_none ms) ∙ none_at ms k e) refl);
  }
  arrived (u ∷ us) how t rs h from vals ms k i l ns e =
      let x : Message = record { serial = i; term = u } in
      let c : Over 1 2 (framed (seeing u vals) k (Some x)) _ _ =
      found u i vals k (answered W.look (record { arrivals = u ∷ us; how = how; term = t }) rs
      (with_state (record { arrivals = u ∷ us; how = how; term = t } ∷ rs) ms i l ns))
      (tries (numbered (i + 1) us) (looks rs))
      (λ later. pending rs h (looks rs) (λ a b d f. refl) (numbered (i + 1) us) (ms ++ x ∷ [])
      (ms ++ x ∷ numbered (i + 1) us) 5 later (suc k) _ l _
      (sym (append_assoc ms (x ∷ []) (numbered (i + 1) us))) (one_more ms x k e)) in
      record {
        within = suc c.within;
        gives = rw (none_at ms k e) (rw (first_at ms x (numbered (i + 1) us) k e) c.gives);
      }

  ends : (rs : List Reply) → Ends rs
  unfolding blocks
  ends [] from vals ms k i l ns e = record { within = 1; gives = rw (none_at ms k e) refl }
  ends (r ∷ rs) from vals ms k i l ns e = arrived r.arrivals r.how r.term rs (ends rs) from vals ms k i l ns e

  whole : (v : Term) (s : State) → ComesTo (ssa_does (body_receives n) w) here (v ∷ []) s (receives s)
  unfolding ssa_run
  whole v s =
      let c : Over 0 1 (framed _ 0 None) s (receives s) =
      pending s.replies (ends s.replies) (λ u. looks u.replies u) (λ a b d f. refl) s.mailbox [] s.mailbox 0
      (λ y. if eqb y 0 then Held.term v else Held.unset) 0 s.next s.left s.notes refl refl in
      record { within = suc c.within; gives = c.gives }

-- Both with any terms.

more_than_one : (i : ℕ) → eqb (suc (suc i)) 1 ≡ false
more_than_one i = grind arith

some_is : (a b : State × Outcome Term) → Some a ≡ Some b → a ≡ b
some_is a b e = cc

kernel_refuses : (w : Setting) (k : FunKey) (n : ℕ) (here : Here) (vs : Values) (s : State) → eqb (length vs) 1 ≡ false
    → fun_does w (kernel_receives k n) here vs s ≡ (s, undef)
unfolding fun_does
kernel_refuses w k n here vs s e = by (eqb (length vs) 1) e
  where
    by : (b : Bool) → b ≡ false
        → (if b then one (meaning w here receiving_map (with_values no_values (0 ∷ []) vs) true) give
        else λ z. (z, undef)) s ≡ (s, undef)
    by false p = refl
    by true p = absurd cc

body_refuses : (w : Held.Around) (here : Here) (n : ℕ) (vs : Values) (s : State) → eqb (length vs) 1 ≡ false
    → ComesTo (ssa_does (body_receives n) w) here vs s (s, undef)
body_refuses w here n vs s e = record {
  within = 0;
  gives = ap
      (λ b. if b then result_of (ssa_run w here (body_receives n) 0 (all_terms vs) [] s) else Some (s, undef)) e;
}

module _ (c : Bool) (m : InModule) (k : FunKey) (n : ℕ) where
  agree : Agrees (but_marks c) (kernel_does (kernel_receives k n) m) (ssa_does (body_receives n) (around_in m))
  agree name own f g lf lg h vs s t e r z = by_number vs (some_is _ _ z.gives)
    where
      refused : (vs : Values) → eqb (length vs) 1 ≡ false
          → fun_does (setting_in m) (kernel_receives k n) (here_of name own f) vs s ≡ r
          → GivesSame (but_marks c) (ssa_does (body_receives n) (around_in m)) (here_of name own g) vs t r
      refused vs q p = record {
        result = (t, undef);
        gives = body_refuses (around_in m) (here_of name own g) n vs t q;
        same = subst (λ a. SameResult (but_marks c) a (t, undef))
            (sym (kernel_refuses (setting_in m) k n (here_of name own f) vs s q) ∙ p)
            (record { state = e; end = refl });
      }

      by_number : (vs : Values) → fun_does (setting_in m) (kernel_receives k n) (here_of name own f) vs s ≡ r
          → GivesSame (but_marks c) (ssa_does (body_receives n) (around_in m)) (here_of name own g) vs t r
      by_number [] p = refused [] refl p
      by_number (v ∷ []) p = record {
        result = receives t;
        gives = whole (around_in m) (here_of name own g) n v t;
        same = subst (λ a. SameResult (but_marks c) a (receives t)) p
            (kernel_same c m k n (here_of name own f) v s t e);
      }
      by_number (v ∷ u ∷ vs) p = refused (v ∷ u ∷ vs) (more_than_one (length vs)) p

  shape : KeepsShape (Kernel.form_of (kernel_receives k n)) (ssa_form none_to_come (body_receives n))
  unfolding depths maps_rise
  shape = record {
    arity = refl;
    receives = λ v d. d;
    added = λ v d. inl d;
    next = omega arith;
    calls = λ v d e. d;
    stays = λ v d e. d;
    variables = omega arith;
    deepest = omega arith;
    fitting = λ e. refl;
    widest = omega arith;
    highest = omega arith;
  }

  tests : AddsNoTest (Kernel.form_of (kernel_receives k n)) (ssa_form none_to_come (body_receives n))
  tests = record { tests = omega arith; choices = omega arith }

-- The function is well formed.

not_in : (v : ℕ) (vs : List ℕ) → among v vs ≡ false → Contains vs v → ⊥
not_in v [] e (i, l, p) = omega (arith, l)
not_in v (u ∷ vs) e (zero, l, p) =
    let q : eqb v u ≡ true = eq-eqb v u (sym p) in
    let z : (eqb v u || among v vs) ≡ true = ap (λ b. b || among v vs) q in absurd cc
not_in v (u ∷ vs) e (suc i, l, p) = not_in v vs (right (eqb v u) e) (i, omega (arith, l), p)
  where
    right : (b : Bool) → (b || among v vs) ≡ false → among v vs ≡ false
    right true f = absurd cc
    right false f = f

below_three : (i d : ℕ) → i < 3 → get_or (0 ∷ 1 ∷ 2 ∷ []) i d < 3
below_three zero d l = omega arith
below_three (suc zero) d l = omega arith
below_three (suc (suc zero)) d l = omega arith
below_three (suc (suc (suc i))) d l = absurd (omega (arith, l))

source : (ws : List ℕ) (k : FunKey) (n : ℕ) → WellFormed ws (kernel_receives k n)
source ws k n = record {
  gives = refl;
  fresh = (not_in 0 (1 ∷ 2 ∷ []) refl, (not_in 1 (2 ∷ []) refl, (not_in 2 [] refl, tt)));
  scoped = refl;
  next = below_three;
  calls = refl;
  switches = refl;
  steps = refl;
  guards = refl;
  plain_guards = refl;
  windows = refl;
  receives = (not_in 7 [] refl, tt);
}

pub updating_guards_keep : UpdatingGuardsKeep
updating_guards_keep c m k n = record {
  source = source m.widths k n;
  formed = formed n;
  kept = record { agrees = agree c m k n; shape = shape c m k n };
  tests = tests c m k n;
}
