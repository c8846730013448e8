-- The rules of terms, bit strings, handlers, receives and markers, on two storages.
use Rattle.std.proofs.Common.{◌≡◌, ℕ, suc, List, [], ◌∷◌, length, Bool, true, false, not, ◌&&◌, leb, Option, Some, None, refl, sym, ap, subst, IsTrue, IsFalse, slice_get}
use Rattle.erl_term.specs.Term as Tm
use Rattle.erl_term.specs.Term.{Term, Class}
use Rattle.erl_term.specs.Terms.{Values, listed, value_at}
use Rattle.erl_term.specs.Segments.{Shape, taken_size}
use Rattle.world_model.specs.World as World
use Rattle.world_model.specs.World.{Reply, Message, Delay, forever, millis}
use Rattle.world_model.specs.Run.{State, answered}
use Rattle.world_model.specs.MapUpdate.{put_all}
use Rattle.world_model.specs.Receive.{Timeout, now, in', wrong, timeout_of, new_or}
use Rattle.world_model.specs.RemoteCalls.{raise_again}
use Rattle.step_machine.specs.Bodies.{Here}
use Rattle.step_machine.specs.Frames.{MatchContext, rest_of}
use Rattle.ssa_form.specs.Ssa.{Arg, var}
use Rattle.ssa_form.specs.Storage.{Held, term, context, position, marker, Leaving, Storage, Frame, After, next, choose, Mode, plain, tail, jump, tests, Around, outside}
use Rattle.ssa_form.specs.Values.{puts_of}
use Rattle.ssa_form.specs.SetFacts.{is_tests}
use Rattle.ssa_form.specs.Operations.{put, found, follows, raise_does, cons_does, map_does, option_held, key_does, element_does, cell_does, fun_made, start_does, with_context, at_context, took, takes_segment, restore_does, open_does, close_does, seen, seen_or, looks, peek_does, take_does, skip_does, waited, waits_for, wait_does, bind_does, use_does}
use Rattle.ssa_form.proofs.Moves.{at, taking, Came, as_it_was, by_note, Went, nowhere, to_note, to_reply, to_message, to_new_message, to_taking, to_passing, to_place}
use Rattle.ssa_form.proofs.Spending.{put_all_stays}
use Rattle.ssa_form.proofs.TwoStorages.{Opt, lk, Two, Traits, Steady, Calm, Keeps, Start, Sim, sim_on, sim_pick, sim_over, sim_bad}
use Rattle.ssa_form.proofs.TwoRules.{came_so, some_sim, opt_sim, opt_go, when_sim, outside_sim, no_and, not_false, same_up, cleared_up, cleared_pick, put_sim, same_on, cleared_on, gives_sim, asked_sim, found_sim, follows_by_sim}

module _ {S T : Type 0} (start : Start S T) where
  abbrev two : Two S T
  two = start.two

  abbrev kind : Traits
  kind = start.kind

  abbrev keeps : Keeps two kind
  keeps = start.keeps

  abbrev n0 : ℕ
  n0 = start.save

  abbrev w0 : Option Message
  w0 = start.window

  abbrev s0 : State
  s0 = start.state

  abbrev o : Storage S
  o = two.o

  abbrev p : Storage T
  p = two.p

  abbrev around : Around
  around = two.around

  abbrev here : Here
  here = two.here

  abbrev d : Option ℕ
  d = two.dst

  abbrev before : Bool → S → T → Type 0
  before = two.before

  abbrev cleared : S → T → Type 0
  cleared = two.cleared

  abbrev done : Bool → Bool → S → T → Type 0
  done = two.done

  abbrev ok : Leaving → Type 0
  ok = two.ok

  abbrev wr : Bool
  wr = kind.writes

  abbrev ts : Bool
  ts = kind.tested

  abbrev B : After S → After T → Type 0
  B a z = Sim two kind n0 w0 s0 a z

  -- the run came there from the start
  abbrev W : ℕ → Option Message → State → Type 0
  W n w s = Went around here kind.looks kind.back n0 w0 s0 n w s

  abbrev C : State → Type 0
  C s = Came around here s0 s

  -- Terms.

  module _ (calm : Calm kind) (x : S) (y : T) (c : List MatchContext) (n : ℕ) (w : Option Message)
      (r : before (lk w) x y) (s : State) (g : W n w s) where
    puts : IsTrue wr → (h : Held) → B (put o around here d h (at x c n w) s) (put p around here d h (at y c n w) s)
    puts e h = put_sim start calm e h x y c n w r s g

    again_sim : IsTrue kind.raises → (u v : Term) → B (follows o around here None (at x c n w) (raise_again u v s))
        (follows p around here None (at y c n w) (raise_again u v s))
    again_sim h (Tm.raw_trace k) v =
        same_up start h _ _ x y c n w r s (came_so start n w s g)
    again_sim h _ v = same_up start h _ _ x y c n w r s (came_so start n w s g)

    pub raise_sim : IsTrue kind.raises → (vs : Values)
        → B (raise_does o around here vs (at x c n w) s) (raise_does p around here vs (at y c n w) s)
    raise_sim h (u ∷ v ∷ []) = again_sim h u v
    raise_sim h [] = sim_bad After.bad
    raise_sim h (u ∷ []) = sim_bad After.bad
    raise_sim h (u ∷ v ∷ z ∷ vs) = sim_bad After.bad

    pub cons_sim : IsTrue wr → (vs : Values)
        → B (cons_does o around here d vs (at x c n w) s) (cons_does p around here d vs (at y c n w) s)
    cons_sim e (u ∷ v ∷ []) = puts e _
    cons_sim e [] = sim_bad After.bad
    cons_sim e (u ∷ []) = sim_bad After.bad
    cons_sim e (u ∷ v ∷ z ∷ vs) = sim_bad After.bad

    pub map_sim : IsTrue wr → (exact : Bool) (m : Mode) → is_tests m ≡ ts → (IsFalse (is_tests m) → IsTrue kind.raises)
        → (vs : Values)
        → B (map_does o around here exact m d vs (at x c n w) s) (map_does p around here exact m d vs (at y c n w) s)
    map_sim e exact m tested h (u ∷ vs) = some_sim start (puts_of exact vs) _ _ (λ qs.
        follows_by_sim start calm e x y c n w r m tested h (put_all qs u s)
        (subst (λ z. W n w z) (sym (put_all_stays qs u s)) g))
    map_sim e exact m tested h [] = sim_bad After.bad

    pub key_sim : IsTrue wr → (m : Mode) → is_tests m ≡ ts → (vs : Values)
        → B (key_does o around here m d vs (at x c n w) s) (key_does p around here m d vs (at y c n w) s)
    key_sim e m tested (Tm.map ps ∷ k ∷ []) = by (value_at ps k)
      where
        by : (q : Option Term) → B (found o around here m d (option_held o around here q) (at x c n w) s)
            (found p around here m d (option_held p around here q) (at y c n w) s)
        by None = found_sim start calm x y c n w r s g e m tested None
        by (Some t) = found_sim start calm x y c n w r s g e m tested (Some (term t))
    key_sim e m tested _ = sim_bad _

    pub element_sim : IsTrue wr → (k : ℕ) (vs : Values)
        → B (element_does o around here k d vs (at x c n w) s) (element_does p around here k d vs (at y c n w) s)
    element_sim e k (Tm.tuple ts ∷ []) = some_sim start (slice_get (listed ts) k) _ _ (λ t. puts e _)
    element_sim e k _ = sim_bad _

    pub cell_sim : IsTrue wr → (first : Bool) (vs : Values)
        → B (cell_does o around here first d vs (at x c n w) s) (cell_does p around here first d vs (at y c n w) s)
    cell_sim e first (Tm.cons t u ∷ []) = puts e _
    cell_sim e first _ = sim_bad _

    pub fun_made_sim : IsTrue wr → (k : ℕ) (vs : Values)
        → B (fun_made o around here k d vs (at x c n w) s) (fun_made p around here k d vs (at y c n w) s)
    fun_made_sim e k vs = some_sim start (slice_get around.arities k) _ _
        (λ a. when_sim start (leb (length vs) a) _ _ (λ l. puts e _))

    -- Bit strings.

    pub start_sim : IsTrue wr → (m : Mode) → is_tests m ≡ ts → (xs : List Held)
        → B (start_does o around here m d xs (at x c n w) s) (start_does p around here m d xs (at y c n w) s)
    start_sim e m tested (context k ∷ []) =
        gives_sim start calm x y c n w r s g e m tested (context k)
    start_sim e m tested (term (Tm.bits bs) ∷ []) =
        gives_sim start calm x y _ n w r s g e m tested (context (length c))
    start_sim e m tested (term t ∷ []) =
        asked_sim start calm x y c n w r s g m tested false (no_and start wr)
    start_sim e m tested _ = sim_bad _

    with_sim : (h : Held) (k : ℕ → MatchContext → After S) (l : ℕ → MatchContext → After T)
        → ((i : ℕ) (z : MatchContext) → B (k i z) (l i z))
        → B (with_context o around here (at x c n w) h k) (with_context p around here (at y c n w) h l)
    with_sim (context i) k l h = some_sim start (slice_get c i) (k i) (l i) (h i)
    with_sim _ k l h = sim_bad _

    pub at_sim : (xs : List Held) (k : MatchContext → After S) (l : MatchContext → After T)
        → ((z : MatchContext) → B (k z) (l z))
        → B (at_context o around here (at x c n w) xs k) (at_context p around here (at y c n w) xs l)
    at_sim (h ∷ []) k l i = with_sim h (λ j z. k z) (λ j z. l z) (λ j z. i z)
    at_sim [] k l i = sim_bad After.bad
    at_sim (h ∷ f ∷ hs) k l i = sim_bad After.bad

    took_sim : (m : Mode) → is_tests m ≡ ts → (i : ℕ) (z : MatchContext) (j : Option ℕ)
        (k : List Bool → Frame S → After S) (l : List Bool → Frame T → After T)
        → ((bs : List Bool) (e : List MatchContext) → B (k bs (at x e n w)) (l bs (at y e n w)))
        → B (took o around here m i z j (at x c n w) s k) (took p around here m i z j (at y c n w) s l)
    took_sim m tested i z None k l h =
        asked_sim start calm x y c n w r s g m tested false (no_and start wr)
    took_sim m tested i z (Some j) k l h = h _ _

    pub segment_sim : (f : Shape) (m : Mode) → is_tests m ≡ ts → (xs : List Held) (k : List Bool → Frame S → After S)
        (l : List Bool → Frame T → After T)
        → ((bs : List Bool) (e : List MatchContext) → B (k bs (at x e n w)) (l bs (at y e n w)))
        → B (takes_segment o around here f m xs (at x c n w) s k) (takes_segment p around here f m xs (at y c n w) s l)
    segment_sim f m tested (h ∷ term size ∷ []) k l i = with_sim h _ _
        (λ j z. took_sim m tested j z (taken_size f (Some size) (length (rest_of z))) k l i)
    segment_sim f m tested _ k l i = sim_bad _

    pub restore_sim : IsFalse wr → (xs : List Held)
        → B (restore_does o around here xs (at x c n w) s) (restore_does p around here xs (at y c n w) s)
    restore_sim e (h ∷ position q ∷ []) =
        with_sim h _ _ (λ j z. same_on start calm e x y _ n w w refl r s g)
    restore_sim e _ = sim_bad _

  -- Handlers.

  pub close_sim : IsFalse wr → IsFalse kind.looks → IsFalse kind.opens → IsTrue kind.closes
      → (x : S) (y : T) (c : List MatchContext)
      → before (lk w0) x y → (as' : List Arg)
      → B (close_does o around here as' (at x c n0 w0) s0) (close_does p around here as' (at y c n0 w0) s0)
  close_sim e l f does_so x y c r (var v ∷ []) = outside_sim start x y c n0 w0 _ _ (λ i.
      opt_sim start (done false (lk w0)) (o.closes v x) (p.closes v y)
      (λ st. next (at st c n0 w0) s0) (λ st. next (at st c n0 w0) s0)
      (subst (λ t. Opt (done false (lk t)) (o.closes v x) (p.closes v y)) (sym i)
      (keeps.closes does_so v x y (subst (λ t. before (lk t) x y) i r)))
      (λ a b q. sim_on l f a b c n0 w0 s0 (subst (λ t. done t (lk w0) a b) (sym e) q) (nowhere l)))
  close_sim e l f does_so x y c r _ = sim_bad _

  pub open_sim : IsFalse wr → IsFalse kind.looks → IsFalse kind.closes → IsTrue kind.opens
      → (x : S) (y : T) (c : List MatchContext)
      → before (lk w0) x y → (m : Mode) → two.mode ≡ m → is_tests m ≡ ts → (z : Option ℕ) → d ≡ z
      → B (open_does o around here m z (at x c n0 w0) s0) (open_does p around here m z (at y c n0 w0) s0)
  open_sim e l f does_so x y c r (tests b) mode tested (Some v) is_dst =
      outside_sim start x y c n0 w0 _ _ (λ i.
      opt_sim start (done false (lk w0)) (o.opens (record { tag = v; landing = b }) x)
      (p.opens (record { tag = v; landing = b }) y) (λ st. choose true (at st c n0 w0) s0)
      (λ st. choose true (at st c n0 w0) s0)
      (subst (λ t. Opt (done false (lk t)) (o.opens (record { tag = v; landing = b }) x)
      (p.opens (record { tag = v; landing = b }) y)) (sym i)
      (keeps.opens does_so (record { tag = v; landing = b }) is_dst mode x y (subst (λ t. before (lk t) x y) i r)))
      (λ a z q. sim_pick true (sym tested) f (not_false start) a z c n0 w0 s0
      (subst (λ t. done t (lk w0) a z) (sym (ap (λ t. t && true) e)) q) (nowhere l)))
  open_sim e l f does_so x y c r (tests b) mode tested None is_dst = sim_bad After.bad
  open_sim e l f does_so x y c r plain mode tested z is_dst = sim_bad After.bad
  open_sim e l f does_so x y c r tail mode tested z is_dst = sim_bad After.bad
  open_sim e l f does_so x y c r jump mode tested z is_dst = sim_bad After.bad

  -- Receives.

  -- no message is looked at
  none_went : w0 ≡ None → (s : State) → W n0 w0 s → W n0 None s
  none_went e s g = subst (λ w. W n0 w s) e g

  module _ (calm : Calm kind) (e : IsFalse wr) (x : S) (y : T) (c : List MatchContext) where
    waited_sim : w0 ≡ None → IsTrue ts → (a : S) (b : T) → cleared a b → (t : Delay) (rs : List Reply)
        → rs ≡ s0.replies
        → B (waited o around here t rs (at a c n0 None) s0) (waited p around here t rs (at b c n0 None) s0)
    waited_sim i tested a b r t [] k = sim_over s0 _ as_it_was
    waited_sim i tested a b r forever (q ∷ rs) k = cleared_pick start calm.steady true tested
        (ap (λ z. z && true) e) a b r c n0 _ (none_went i _ (to_reply i (World.wait forever) q rs k))
    waited_sim i tested a b r (millis m) (q ∷ rs) k = cleared_pick start calm.steady
        (new_or q.arrivals false true) tested (ap (λ z. z && new_or q.arrivals false true) e) a b r c n0
        (answered (World.wait (millis m)) q rs s0) (none_went i _ (to_reply i (World.wait (millis m)) q rs k))

    waits_sim : w0 ≡ None → IsTrue ts → IsTrue kind.raises → (a : S) (b : T) → cleared a b → (t : Timeout)
        → B (waits_for o around here t (at a c n0 None) s0) (waits_for p around here t (at b c n0 None) s0)
    waits_sim i tested h a b r now = cleared_pick start calm.steady false tested
        (no_and start wr) a b r c n0 s0 (none_went i s0 (nowhere calm.looks))
    waits_sim i tested h a b r (in' t) = waited_sim i tested a b r t s0.replies refl
    waits_sim i tested h a b r wrong = cleared_up start h _ _ a b r c 0 None s0 as_it_was

    pub wait_sim : IsTrue kind.clears → IsTrue kind.raises → (w : Option Message) → w0 ≡ w → before (lk w) x y
        → (m : Mode) → is_tests m ≡ ts → (vs : Values)
        → B (wait_does o around here m vs (at x c n0 w) s0) (wait_does p around here m vs (at y c n0 w) s0)
    wait_sim t h None i r (tests j) tested (u ∷ []) = waits_sim i (sym tested) h (o.forgets x) (p.forgets y)
        (keeps.forgets t false x y r) (timeout_of u)
    wait_sim t h (Some q) i r (tests j) tested (u ∷ []) = sim_bad After.bad
    wait_sim t h w i r (tests j) tested [] = sim_bad After.bad
    wait_sim t h w i r (tests j) tested (u ∷ v ∷ vs) = sim_bad After.bad
    wait_sim t h w i r plain tested vs = sim_bad After.bad
    wait_sim t h w i r tail tested vs = sim_bad After.bad
    wait_sim t h w i r jump tested vs = sim_bad After.bad

    pub skip_sim : IsTrue kind.clears → (w : Option Message) → w0 ≡ w → before (lk w) x y → (m : Mode)
        → B (skip_does o around here m (at x c n0 w) s0) (skip_does p around here m (at y c n0 w) s0)
    skip_sim t None i r jump = sim_bad After.bad
    skip_sim t (Some m) i r jump = cleared_on start calm e (o.forgets x) (p.forgets y)
        (keeps.forgets t true x y r) c (suc n0) _ (to_passing calm.looks m i)
    skip_sim t w i r plain = sim_bad After.bad
    skip_sim t w i r tail = sim_bad After.bad
    skip_sim t w i r (tests j) = sim_bad After.bad

    -- Markers.

    pub bind_sim : before (lk w0) x y → (xs : List Held)
        → B (bind_does o around here xs (at x c n0 w0) s0) (bind_does p around here xs (at y c n0 w0) s0)
    bind_sim r (marker k ∷ term (Tm.reference q) ∷ []) =
        same_on start calm e x y c n0 w0 w0 refl r _ (to_note calm.looks _)
    bind_sim r _ = sim_bad _

    -- the save place moves
    pub back_sim : IsTrue kind.back → before (lk w0) x y → (k : ℕ) (u : State) → C u
        → B (outside (at x c n0 w0) (next (at x c k w0) u)) (outside (at y c n0 w0) (next (at y c k w0) u))
    back_sim b r k u g = outside_sim start x y c n0 w0 _ _ (λ i.
        same_on start calm e x y c k w0 w0 refl r u (to_place calm.looks b i k u g))

    pub use_sim : IsTrue kind.back → before (lk w0) x y → (vs : Values)
        → B (use_does o around here vs (at x c n0 w0) s0) (use_does p around here vs (at y c n0 w0) s0)
    use_sim b r (Tm.reference q ∷ []) = back_sim b r _ _ (by_note _)
    use_sim b r _ = sim_bad _

  pub take_sim : IsFalse wr → IsFalse kind.looks → IsTrue kind.takes → Steady kind → (x : S) (y : T)
      (c : List MatchContext) (w : Option Message) → w0 ≡ w → before (lk w) x y
      → B (take_does o around here (at x c n0 w) s0) (take_does p around here (at y c n0 w) s0)
  take_sim e l u z x y c None i r = sim_bad After.bad
  take_sim e l u z x y c (Some m) i r = sim_on l z.opens x y c 0 None (taking m s0)
      (subst (λ t. done t false x y) (sym e) (subst (λ t. done false (not t) x y) u (keeps.stays z true x y r)))
      (to_taking l m i)

  module _ (e : IsTrue wr) (t : IsTrue kind.clears) (f : IsTrue kind.looks) (z : Steady kind) (tested : IsTrue ts)
      (x : S) (y : T) (r : before false x y) (c : List MatchContext) (i : w0 ≡ None) where
    seen_sim : (v : ℕ) → d ≡ Some v → (m : Message) (s : State) → W n0 (Some m) s
        → B (seen o around here v m (at x c n0 None) s) (seen p around here v m (at y c n0 None) s)
    seen_sim v q m s g = opt_go start (done true true) (o.write true v (term m.term) (o.forgets x))
        (p.write true v (term m.term) (p.forgets y)) (λ st. next (at st c n0 (Some m)) s)
        (λ st. next (at st c n0 (Some m)) s) (choose true) (choose true)
        (subst (λ k. Opt (done true k) (o.write k v (term m.term) (o.forgets x))
        (p.write k v (term m.term) (p.forgets y))) f
        (keeps.puts_cleared e v (term m.term) q (o.forgets x) (p.forgets y) (keeps.forgets t false x y r)))
        (λ a b k. sim_pick true tested z.closes (not_false start) a b c n0 (Some m) s
        (subst (λ j. done j true a b) (sym (ap (λ j. j && true) e)) k) g)

    seen_or_sim : (v : ℕ) → d ≡ Some v → (s : State) (a : After S) (b : After T)
        → ((m : Message) → slice_get s.mailbox n0 ≡ Some m → W n0 (Some m) s) → B a b
        → B (seen_or o around here v (at x c n0 None) s a) (seen_or p around here v (at y c n0 None) s b)
    seen_or_sim v q s a b g h = by (slice_get s.mailbox n0) g
      where
        by : (j : Option Message) → ((m : Message) → j ≡ Some m → W n0 (Some m) s)
            → B (elim j [ Some m ↦ seen o around here v m (at x c n0 None) s | None ↦ a ])
            (elim j [ Some m ↦ seen p around here v m (at y c n0 None) s | None ↦ b ])
        by None g = h
        by (Some m) g = seen_sim v q m s (g m refl)

    looks_sim : (v : ℕ) → d ≡ Some v → (rs : List Reply) → rs ≡ s0.replies
        → B (looks o around here v rs (at x c n0 None) s0) (looks p around here v rs (at y c n0 None) s0)
    looks_sim v q [] k = sim_over s0 _ as_it_was
    looks_sim v q (u ∷ rs) k = seen_or_sim v q (answered World.look u rs s0) _ _
        (λ m j. to_new_message i World.look u rs k m j)
        (cleared_pick start z false tested (no_and start wr) (o.forgets x)
        (p.forgets y) (keeps.forgets t false x y r) c n0 (answered World.look u rs s0)
        (none_went i _ (to_reply i World.look u rs k)))

  pub peek_sim : IsTrue wr → IsTrue kind.clears → IsTrue kind.looks → Steady kind → (x : S) (y : T)
      (c : List MatchContext) (w : Option Message) → w0 ≡ w → before (lk w) x y → (m : Mode) → is_tests m ≡ ts
      → (b : Option ℕ) → d ≡ b
      → B (peek_does o around here m b (at x c n0 w) s0) (peek_does p around here m b (at y c n0 w) s0)
  peek_sim e t f z x y c None i r (tests j) tested (Some v) q =
      seen_or_sim e t f z (sym tested) x y r c i v q s0 _ _ (λ m k. to_message i m k)
      (looks_sim e t f z (sym tested) x y r c i v q s0.replies refl)
  peek_sim e t f z x y c (Some k) i r (tests j) tested (Some v) q = sim_bad After.bad
  peek_sim e t f z x y c w i r (tests j) tested None q = sim_bad After.bad
  peek_sim e t f z x y c w i r plain tested b q = sim_bad After.bad
  peek_sim e t f z x y c w i r tail tested b q = sim_bad After.bad
  peek_sim e t f z x y c w i r jump tested b q = sim_bad After.bad
