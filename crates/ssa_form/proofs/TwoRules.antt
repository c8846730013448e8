-- The rules that operations are made of, on two storages: what one does the other does. Conditions, values and calls.
use Rattle.std.proofs.Common.{◌≡◌, ℕ, List, [], ◌∷◌, length, Bool, true, false, not, ◌&&◌, Option, Some, None, refl, sym, ap, subst, ◌∙◌, eqb, IsTrue, IsFalse, slice_get}
use Rattle.erl_term.specs.Term.{Term, Class}
use Rattle.erl_term.specs.Terms.{Values, only}
use Rattle.bif_table.specs.BuiltinAnswer.{Answer, value, raised}
use Rattle.world_model.specs.World as World
use Rattle.world_model.specs.World.{Reply, Message, Delay, forever, millis}
use Rattle.world_model.specs.Run.{State, Outcome, gives, raises, waits, spent, M, ◌>>=◌, ask, ask_from, going_on}
use Rattle.world_model.specs.Meaning.{single}
use Rattle.world_model.specs.RemoteCalls.{takes, call_terms, apply_term}
use Rattle.step_machine.specs.Bodies.{Here, callees}
use Rattle.step_machine.specs.Frames.{MatchContext}
use Rattle.ssa_form.specs.Storage.{Held, term, Leaving, calls, ends_body, always_raises, Storage, Frame, After, next, choose, raise, Mode, plain, tail, jump, tests, Around, go_on, when, if_some, outside}
use Rattle.ssa_form.specs.Values.{handed, raises_for_sure, is_tail}
use Rattle.ssa_form.specs.SetFacts.{is_tests}
use Rattle.ssa_form.specs.Operations.{put, collected, gives_held, asked, found, answers, leaving, follows, follows_by, ends_with, calls_by, leaving_of, local_does, remote_does, fun_does, send_does}
use Rattle.ssa_form.proofs.Moves.{at, Meant, of_call, of_term, of_names, of_send, of_trace, Came, by_meaning, Went, to_meaning, came}
use Rattle.ssa_form.proofs.TwoStorages.{Opt, opt_none, opt_some, lk, left_by, Two, Traits, Steady, Calm, left_so, Keeps, Start, Sim, sim_on, sim_pick, sim_up, sim_over, sim_bad}

module _ {S T : Type 0} (start : Start S T) where
  abbrev two : Two S T
  two = start.two

  abbrev kind : Traits
  kind = start.kind

  abbrev keeps : Keeps two kind
  keeps = start.keeps

  abbrev n0 : ℕ
  n0 = start.save

  abbrev w0 : Option Message
  w0 = start.window

  abbrev s0 : State
  s0 = start.state

  abbrev o : Storage S
  o = two.o

  abbrev p : Storage T
  p = two.p

  abbrev around : Around
  around = two.around

  abbrev here : Here
  here = two.here

  abbrev d : Option ℕ
  d = two.dst

  abbrev before : Bool → S → T → Type 0
  before = two.before

  abbrev cleared : S → T → Type 0
  cleared = two.cleared

  abbrev done : Bool → Bool → S → T → Type 0
  done = two.done

  abbrev ok : Leaving → Type 0
  ok = two.ok

  abbrev wr : Bool
  wr = kind.writes

  abbrev ts : Bool
  ts = kind.tested

  abbrev B : After S → After T → Type 0
  B a z = Sim two kind n0 w0 s0 a z

  -- the run came there from the start
  abbrev W : ℕ → Option Message → State → Type 0
  W n w s = Went around here kind.looks kind.back n0 w0 s0 n w s

  abbrev C : State → Type 0
  C s = Came around here s0 s

  pub came_so : (n : ℕ) (w : Option Message) (s : State) → W n w s → C s
  came_so n w s q = came around here kind.looks kind.back n0 w0 s0 n w s q

  -- Conditions.

  pub some_sim : {A : Type 0} (x : Option A) (k : A → After S) (l : A → After T) → ((a : A) → B (k a) (l a))
      → B (if_some x k) (if_some x l)
  some_sim None k l h = sim_bad After.bad
  some_sim (Some a) k l h = h a

  pub opt_sim : (R : S → T → Type 0) (x : Option S) (y : Option T) (k : S → After S) (l : T → After T) → Opt R x y
      → ((a : S) (b : T) → R a b → B (k a) (l b)) → B (if_some x k) (if_some y l)
  opt_sim R _ _ k l (opt_none y) h = sim_bad (if_some y l)
  opt_sim R _ _ k l (opt_some a b r) h = h a b r

  -- the same before what goes on
  pub opt_go : (R : S → T → Type 0) (x : Option S) (y : Option T) (k : S → After S) (l : T → After T)
      (f : Frame S → State → After S) (g : Frame T → State → After T) → Opt R x y
      → ((a : S) (b : T) → R a b → B (go_on (k a) f) (go_on (l b) g))
      → B (go_on (if_some x k) f) (go_on (if_some y l) g)
  opt_go R _ _ k l f g (opt_none y) h = sim_bad (go_on (if_some y l) g)
  opt_go R _ _ k l f g (opt_some a b r) h = h a b r

  pub when_sim : (b : Bool) (a : After S) (z : After T) → (b ≡ true → B a z) → B (when b a) (when b z)
  when_sim true a z h = h refl
  when_sim false a z h = sim_bad After.bad

  pub outside_sim : (x : S) (y : T) (c : List MatchContext) (n : ℕ) (w : Option Message) (a : After S) (z : After T)
      → (w ≡ None → B a z) → B (outside (at x c n w) a) (outside (at y c n w) z)
  outside_sim x y c n None a z h = h refl
  outside_sim x y c n (Some m) a z h = sim_bad After.bad

  pub collected_sim : (x : S) (y : T) (c : List MatchContext) (n : ℕ) (w : Option Message) → before (lk w) x y
      → (k : Frame S → After S) (l : Frame T → After T)
      → ((a : S) (b : T) → before (lk w) a b → B (k (at a c n w)) (l (at b c n w)))
      → B (collected o around here (at x c n w) k) (collected p around here (at y c n w) l)
  collected_sim x y c n w r k l h = opt_sim (before (lk w)) (o.collects x) (p.collects y) (λ st. k (at st c n w))
      (λ st. l (at st c n w)) (keeps.collects (lk w) x y r) h

  pub same_and : (b : Bool) → b ≡ (b && true)
  same_and true = refl
  same_and false = refl

  pub no_and : (b : Bool) → IsFalse (b && false)
  no_and true = refl
  no_and false = refl

  pub not_false : true ≡ false → IsFalse kind.opens
  not_false e = absurd cc

  -- Raises.

  pub same_up : IsTrue kind.raises → (k : Class) (t : Term) (x : S) (y : T) (c : List MatchContext) (n : ℕ)
      (w : Option Message) → before (lk w) x y → (s : State) → C s
      → B (raise k t (at x c n w) s) (raise k t (at y c n w) s)
  same_up m k t x y c n w r s g = sim_up m k t x y c n w s (keeps.rises (lk w) x y r) g

  pub cleared_up : IsTrue kind.raises → (k : Class) (t : Term) (x : S) (y : T) → cleared x y → (c : List MatchContext)
      (n : ℕ) (w : Option Message) (s : State) → C s → B (raise k t (at x c n w) s) (raise k t (at y c n w) s)
  cleared_up m k t x y r c n w s g = sim_up m k t x y c n w s (keeps.rises_cleared x y r) g

  pub cleared_pick : Steady kind → (b : Bool) → IsTrue ts → IsFalse (wr && b) → (x : S) (y : T) → cleared x y
      → (c : List MatchContext) (n : ℕ) (s : State) → W n None s
      → B (choose b (at x c n None) s) (choose b (at y c n None) s)
  cleared_pick z b tested e x y r c n s g = sim_pick b tested z.closes (λ i. z.opens) x y c n None s
      (subst (λ t. done t false x y) (sym e) (keeps.stays_cleared z x y r)) g

  -- a raise that a test does not take is allowed
  abbrev pub Permits : Mode → Answer → Type 0
  Permits m (value t) = Unit {0}
  Permits m (raised c t) = IsFalse (is_tests m) → IsTrue kind.raises

  -- what is raised may be
  abbrev pub MayRaise : Outcome Values → Type 0
  MayRaise q = (k : Class) (t : Term) → q ≡ raises k t → IsTrue kind.raises

  module _ (calm : Calm kind) where
    -- Values.

    pub picked_sim : IsTrue ts → (a : After S) (z : After T) → B a z → B (go_on a (choose true)) (go_on z (choose true))
    picked_sim tested _ _ (sim_on l f x y c n w s r q) = sim_pick true tested calm.steady.closes not_false x y c n w s
        (subst (λ b. done b (lk w) x y) (same_and wr) r) q
    picked_sim tested _ _ (sim_pick b t z f x y c n w s r q) = sim_pick b t z f x y c n w s r q
    picked_sim tested _ _ (sim_up m k r x y c n w s q g) = sim_up m k r x y c n w s q g
    picked_sim tested _ _ (sim_over s q g) = sim_over s q g
    picked_sim tested _ _ (sim_bad z) = sim_bad (go_on z (choose true))

    pub put_sim : IsTrue wr → (h : Held) (x : S) (y : T) (c : List MatchContext) (n : ℕ) (w : Option Message)
        → before (lk w) x y → (s : State) → W n w s
        → B (put o around here d h (at x c n w) s) (put p around here d h (at y c n w) s)
    put_sim e h x y c n w b s g = by d refl
      where
        by : (z : Option ℕ) → d ≡ z → B (put o around here z h (at x c n w) s) (put p around here z h (at y c n w) s)
        by None q = sim_on calm.looks calm.steady.opens x y c n w s
            (subst (λ t. done t (lk w) x y) (sym e) (keeps.drops e (lk w) q x y b)) g
        by (Some v) q = opt_sim (done true (lk w)) (o.write (lk w) v h x) (p.write (lk w) v h y)
            (λ st. next (at st c n w) s) (λ st. next (at st c n w) s) (keeps.puts e (lk w) v h q x y b)
            (λ a z r. sim_on calm.looks calm.steady.opens a z c n w s (subst (λ t. done t (lk w) a z) (sym e) r) g)

    put_cleared : IsTrue wr → (h : Held) (x : S) (y : T) → cleared x y → (c : List MatchContext) (n : ℕ)
        (w : Option Message) (s : State) → kind.looks ≡ lk w → W n w s
        → B (put o around here d h (at x c n w) s) (put p around here d h (at y c n w) s)
    put_cleared e h x y b c n w s u g = by d refl
      where
        by : (z : Option ℕ) → d ≡ z → B (put o around here z h (at x c n w) s) (put p around here z h (at y c n w) s)
        by None q = sim_on calm.looks calm.steady.opens x y c n w s (subst (λ t. done t (lk w) x y) (sym e)
            (subst (λ t. done true t x y) u (keeps.drops_cleared e q x y b))) g
        by (Some v) q = opt_sim (done true (lk w)) (o.write (lk w) v h x) (p.write (lk w) v h y)
            (λ st. next (at st c n w) s) (λ st. next (at st c n w) s)
            (subst (λ t. Opt (done true t) (o.write t v h x) (p.write t v h y)) u (keeps.puts_cleared e v h q x y b))
            (λ a z r. sim_on calm.looks calm.steady.opens a z c n w s (subst (λ t. done t (lk w) a z) (sym e) r) g)

    same_flag : (b : Bool) → (b && not kind.takes) ≡ b
    same_flag b = ap (λ t. b && not t) calm.takes ∙ sym (same_and b)

    pub same_on : IsFalse wr → (x : S) (y : T) (c : List MatchContext) (n : ℕ) (w : Option Message)
        → (v : Option Message) → v ≡ w → before (lk v) x y → (s : State) → W n w s
        → B (next (at x c n w) s) (next (at y c n w) s)
    same_on e x y c n w v i b s g = sim_on calm.looks calm.steady.opens x y c n w s (subst (λ t. done t (lk w) x y)
        (sym e)
        (subst (λ t. done false t x y) (same_flag (lk v) ∙ ap lk i) (keeps.stays calm.steady (lk v) x y b))) g

    pub cleared_on : IsFalse wr → (x : S) (y : T) → cleared x y → (c : List MatchContext) (n : ℕ) (s : State)
        → W n None s → B (next (at x c n None) s) (next (at y c n None) s)
    cleared_on e x y b c n s g = sim_on calm.looks calm.steady.opens x y c n None s
        (subst (λ t. done t false x y) (sym e) (keeps.stays_cleared calm.steady x y b)) g

    same_pick : (b : Bool) → IsTrue ts → IsFalse (wr && b) → (x : S) (y : T) (c : List MatchContext) (n : ℕ)
        (w : Option Message) → before (lk w) x y → (s : State) → W n w s
        → B (choose b (at x c n w) s) (choose b (at y c n w) s)
    same_pick b tested e x y c n w r s g = sim_pick b tested calm.steady.closes (λ i. calm.steady.opens) x y c n w s
        (subst (λ t. done t (lk w) x y) (sym e)
        (subst (λ t. done false t x y) (same_flag (lk w)) (keeps.stays calm.steady (lk w) x y r))) g

    module _ (x : S) (y : T) (c : List MatchContext) (n : ℕ) (w : Option Message) (r : before (lk w) x y) (s : State)
        (g : W n w s) where
      pub gives_sim : IsTrue wr → (m : Mode) → is_tests m ≡ ts → (h : Held)
          → B (gives_held o around here m d h (at x c n w) s) (gives_held p around here m d h (at y c n w) s)
      gives_sim e (tests z) tested h = picked_sim (sym tested) _ _ (put_sim e h x y c n w r s g)
      gives_sim e plain tested h = put_sim e h x y c n w r s g
      gives_sim e tail tested h = put_sim e h x y c n w r s g
      gives_sim e jump tested h = put_sim e h x y c n w r s g

      pub asked_sim : (m : Mode) → is_tests m ≡ ts → (b : Bool) → IsFalse (wr && b)
          → B (asked o around here m b (at x c n w) s) (asked p around here m b (at y c n w) s)
      asked_sim (tests z) tested b e = same_pick b (sym tested) e x y c n w r s g
      asked_sim plain tested b e = sim_bad After.bad
      asked_sim tail tested b e = sim_bad After.bad
      asked_sim jump tested b e = sim_bad After.bad

      pub found_sim : IsTrue wr → (m : Mode) → is_tests m ≡ ts → (h : Option Held)
          → B (found o around here m d h (at x c n w) s) (found p around here m d h (at y c n w) s)
      found_sim e (tests z) tested None = same_pick false (sym tested) (no_and wr) x y c n w r s g
      found_sim e (tests z) tested (Some h) = picked_sim (sym tested) _ _ (put_sim e h x y c n w r s g)
      found_sim e plain tested h = sim_bad After.bad
      found_sim e tail tested h = sim_bad After.bad
      found_sim e jump tested h = sim_bad After.bad

      pub answers_sim : IsTrue wr → (m : Mode) → is_tests m ≡ ts → (a : Answer) → Permits m a
          → B (answers o around here m d a (at x c n w) s) (answers p around here m d a (at y c n w) s)
      answers_sim e (tests z) tested (value t) i = picked_sim (sym tested) _ _ (put_sim e (term t) x y c n w r s g)
      answers_sim e (tests z) tested (raised k t) i = same_pick false (sym tested) (no_and wr) x y c n w r s g
      answers_sim e plain tested (value t) i = put_sim e (term t) x y c n w r s g
      answers_sim e tail tested (value t) i = put_sim e (term t) x y c n w r s g
      answers_sim e jump tested (value t) i = put_sim e (term t) x y c n w r s g
      answers_sim e plain tested (raised k t) i = same_up (i refl) k t x y c n w r s (came_so n w s g)
      answers_sim e tail tested (raised k t) i = same_up (i refl) k t x y c n w r s (came_so n w s g)
      answers_sim e jump tested (raised k t) i = same_up (i refl) k t x y c n w r s (came_so n w s g)

    pub follows_sim : IsTrue wr → (x : S) (y : T) (c : List MatchContext) (n : ℕ) (w : Option Message)
        → before (lk w) x y → (q : State × Outcome Values) → W n w q.0 → MayRaise q.1
        → B (follows o around here d (at x c n w) q) (follows p around here d (at y c n w) q)
    follows_sim e x y c n w r (u, gives vs) g h = put_sim e (term (only vs)) x y c n w r u g
    follows_sim e x y c n w r (u, raises k t) g h = same_up (h k t refl) k t x y c n w r u (came_so n w u g)
    follows_sim e x y c n w r (u, waits q) g h = sim_over u (waits q) (came_so n w u g)
    follows_sim e x y c n w r (u, spent) g h = sim_over u spent (came_so n w u g)

    pub follows_by_sim : IsTrue wr → (x : S) (y : T) (c : List MatchContext) (n : ℕ) (w : Option Message)
        → before (lk w) x y → (m : Mode) → is_tests m ≡ ts → (IsFalse (is_tests m) → IsTrue kind.raises)
        → (q : State × Outcome Values) → W n w q.0
        → B (follows_by o around here m d (at x c n w) q) (follows_by p around here m d (at y c n w) q)
    follows_by_sim e x y c n w r (tests z) tested h (v, gives vs) g =
        picked_sim (sym tested) _ _ (put_sim e (term (only vs)) x y c n w r v g)
    follows_by_sim e x y c n w r (tests z) tested h (v, raises k t) g =
        same_pick false (sym tested) (no_and wr) x y c n w r v g
    follows_by_sim e x y c n w r (tests z) tested h (v, waits q) g = sim_over v (waits q) (came_so n w v g)
    follows_by_sim e x y c n w r (tests z) tested h (v, spent) g = sim_over v spent (came_so n w v g)
    follows_by_sim e x y c n w r plain tested h q g = follows_sim e x y c n w r q g (λ k t i. h refl)
    follows_by_sim e x y c n w r tail tested h q g = follows_sim e x y c n w r q g (λ k t i. h refl)
    follows_by_sim e x y c n w r jump tested h q g = follows_sim e x y c n w r q g (λ k t i. h refl)

    -- Calls.

    follows_cleared : IsTrue wr → (x : S) (y : T) → cleared x y → (c : List MatchContext) (n : ℕ) (w : Option Message)
        → kind.looks ≡ lk w → (q : State × Outcome Values) → W n w q.0 → MayRaise q.1
        → B (follows o around here d (at x c n w) q) (follows p around here d (at y c n w) q)
    follows_cleared e x y r c n w f (u, gives vs) g h = put_cleared e (term (only vs)) x y r c n w u f g
    follows_cleared e x y r c n w f (u, raises k t) g h = cleared_up (h k t refl) k t x y r c n w u (came_so n w u g)
    follows_cleared e x y r c n w f (u, waits q) g h = sim_over u (waits q) (came_so n w u g)
    follows_cleared e x y r c n w f (u, spent) g h = sim_over u spent (came_so n w u g)

    ends_sim : (q : State × Outcome Values) → C q.0 → B (ends_with o around here q) (ends_with p around here q)
    ends_sim (u, gives vs) g = sim_over u _ g
    ends_sim (u, raises k t) g = sim_over u _ g
    ends_sim (u, waits q) g = sim_over u _ g
    ends_sim (u, spent) g = sim_over u _ g

    no_end : calls ≡ ends_body → ⊥
    no_end e = cc

    no_end_of_raising : always_raises ≡ ends_body → ⊥
    no_end_of_raising e = cc

    -- a call that comes back, or that always raises
    leaving_sim : IsTrue kind.clears → (l : Leaving) → ok l → (l ≡ ends_body → ⊥) → (x : S) (y : T)
        (c : List MatchContext) (n : ℕ) (w : Option Message) → before (lk w) x y → (k : Frame S → After S)
        (z : Frame T → After T) → (w ≡ None → (a : S) (b : T) → cleared a b → B (k (at a c n w)) (z (at b c n w)))
        → B (leaving o around here l (at x c n w) k) (leaving p around here l (at y c n w) z)
    leaving_sim t l j i x y c n (Some m) r k z h = sim_bad After.bad
    leaving_sim t calls j i x y c n None r k z h = when_sim (eqb n 0) _ _ (λ q.
        opt_sim (before false) (o.leaves calls x) (p.leaves calls y) (λ st. k (at (o.forgets st) c n None))
        (λ st. z (at (p.forgets st) c n None)) (keeps.leaves calls j x y r)
        (λ a b q. h refl (o.forgets a) (p.forgets b) (keeps.forgets t false a b q)))
    leaving_sim t always_raises j i x y c n None r k z h = when_sim (eqb n 0) _ _ (λ q.
        opt_sim (before false) (o.leaves always_raises x) (p.leaves always_raises y)
        (λ st. k (at (o.forgets st) c n None)) (λ st. z (at (p.forgets st) c n None))
        (keeps.leaves always_raises j x y r)
        (λ a b q. h refl (o.forgets a) (p.forgets b) (keeps.forgets t false a b q)))
    leaving_sim t ends_body j i x y c n None r k z h = absurd (i refl)

    -- the end of a body
    ending_sim : ok ends_body → (x : S) (y : T) (c : List MatchContext) (n : ℕ) (w : Option Message)
        → before (lk w) x y → (a : After S) (z : After T) → B a z
        → B (leaving o around here ends_body (at x c n w) (λ g. a)) (leaving p around here ends_body (at y c n w)
        (λ g. z))
    ending_sim j x y c n (Some m) r a z h = sim_bad After.bad
    ending_sim j x y c n None r a z h = when_sim (eqb n 0) _ _ (λ q.
        opt_sim (left_so (before false) ends_body) (o.leaves ends_body x) (p.leaves ends_body y) (λ st. a) (λ st. z)
        (keeps.leaves ends_body j x y r) (λ f g q. h))

    module _ (x : S) (y : T) (c : List MatchContext) (r : before (lk w0) x y) (e : IsTrue wr)
        (t : IsTrue kind.clears) where
      pub calls_sim : (m : Mode) (l : Leaving) → ok (left_by m l) → (l ≡ ends_body → ⊥) → (q : M Values)
          → Meant around here q → MayRaise (q s0).1
          → B (calls_by o around here m l d q (at x c n0 w0) s0) (calls_by p around here m l d q (at y c n0 w0) s0)
      calls_sim tail l j v q g h = ending_sim j x y c n0 w0 r (ends_with o around here (q s0))
          (ends_with p around here (q s0)) (ends_sim (q s0) (by_meaning q g))
      calls_sim plain l j v q g h = leaving_sim t l j v x y c n0 w0 r (λ f. follows o around here d f (q s0))
          (λ f. follows p around here d f (q s0)) (λ f a b z. follows_cleared e a b z c n0 w0
          (calm.looks ∙ sym (ap lk f)) (q s0) (to_meaning calm.looks f q g) h)
      calls_sim jump l j v q g h = leaving_sim t l j v x y c n0 w0 r (λ f. follows o around here d f (q s0))
          (λ f. follows p around here d f (q s0)) (λ f a b z. follows_cleared e a b z c n0 w0
          (calm.looks ∙ sym (ap lk f)) (q s0) (to_meaning calm.looks f q g) h)
      calls_sim (tests i) l j v q g h = leaving_sim t l j v x y c n0 w0 r (λ f. follows o around here d f (q s0))
          (λ f. follows p around here d f (q s0)) (λ f a b z. follows_cleared e a b z c n0 w0
          (calm.looks ∙ sym (ap lk f)) (q s0) (to_meaning calm.looks f q g) h)

      module _ (h : IsTrue kind.raises) where
        pub local_sim : (k : ℕ) (m : Mode) → ok (left_by m calls) → (vs : List Held)
            → B (local_does o around here k m d vs (at x c n0 w0) s0) (local_does p around here k m d vs
            (at y c n0 w0) s0)
        local_sim k m j vs = when_sim (takes (slice_get around.arities k) (length vs)) _ _ (λ q.
            some_sim (handed (is_tail m) c around.reached k vs) _ _ (λ ts. calls_sim m calls j no_end _
            (of_call k (is_tail m) ts) (λ a b i. h)))

        pub remote_sim : (m : Mode) → ok (left_by m calls) → ok (left_by m always_raises) → (vs : Values)
            → B (remote_does o around here m d vs (at x c n0 w0) s0) (remote_does p around here m d vs
            (at y c n0 w0) s0)
        remote_sim m j i (u ∷ f ∷ vs) = by (raises_for_sure u f (length vs))
          where
            q : M Values
            q = call_terms here.own u f vs

            by : (b : Bool) → B (calls_by o around here m (leaving_of o around here b) d q (at x c n0 w0) s0)
                (calls_by p around here m (leaving_of p around here b) d q (at y c n0 w0) s0)
            by true = calls_sim m always_raises i no_end_of_raising q (of_names u f vs) (λ a b z. h)
            by false = calls_sim m calls j no_end q (of_names u f vs) (λ a b z. h)
        remote_sim m j i [] = sim_bad After.bad
        remote_sim m j i (u ∷ []) = sim_bad After.bad

        pub fun_sim : ok calls → (vs : Values)
            → B (fun_does o around here d vs (at x c n0 w0) s0) (fun_does p around here d vs (at y c n0 w0) s0)
        fun_sim j (u ∷ vs) = calls_sim plain calls j no_end (apply_term (callees around.arities here) u vs)
            (of_term u vs) (λ a b i. h)
        fun_sim j [] = sim_bad After.bad

        pub send_sim : (m : Mode) → ok (left_by m calls) → (vs : Values)
            → B (send_does o around here m d vs (at x c n0 w0) s0) (send_does p around here m d vs (at y c n0 w0) s0)
        send_sim m j (u ∷ v ∷ []) = calls_sim m calls j no_end _ (of_send u v) (λ a b i. h)
        send_sim m j [] = sim_bad After.bad
        send_sim m j (u ∷ []) = sim_bad After.bad
        send_sim m j (u ∷ v ∷ z ∷ vs) = sim_bad After.bad

      trace_gives : (rs : List Reply) (s : State) (k : Class) (v : Term)
          → (going_on (ask_from World.trace rs s) (λ q. single q.term)).1 ≡ raises k v → ⊥
      trace_gives [] s k v i = cc
      trace_gives (q ∷ rs) s k v i = cc

      pub trace_sim : ok calls
          → B (calls_by o around here plain calls d (ask World.trace >>= λ q. single q.term) (at x c n0 w0) s0)
          (calls_by p around here plain calls d (ask World.trace >>= λ q. single q.term) (at y c n0 w0) s0)
      trace_sim j = calls_sim plain calls j no_end (ask World.trace >>= λ q. single q.term) of_trace
          (λ k v i. absurd (trace_gives s0.replies s0 k v i))
