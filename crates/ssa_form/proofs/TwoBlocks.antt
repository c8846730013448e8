-- How two runs go from one block to the next: by a last, and into a block by its phis or its landing.
use Rattle.std.proofs.Common.{◌≡◌, ℕ, List, [], ◌∷◌, map, Bool, true, false, ◌&&◌, if◌then◌else◌, Contains, Option, Some, None, IsTrue, refl, sym, ap, ◌∙◌, subst, eqb, codes}
use Rattle.erl_term.specs.Term as T
use Rattle.erl_term.specs.Term.{Term, Class}
use Rattle.erl_term.specs.Terms.{Values, only, class_word, tagged}
use Rattle.world_model.specs.World as World
use Rattle.world_model.specs.World.{Message, Reply}
use Rattle.world_model.specs.Meaning.{single}
use Rattle.world_model.specs.Run.{State, Outcome, gives, raises, waits, spent, going_on, ask_from}
use Rattle.world_model.specs.Requests.{exit_of}
use Rattle.step_machine.specs.Bodies.{Here}
use Rattle.step_machine.specs.Frames.{MatchContext}
use Rattle.ssa_form.specs.Ssa.{Arg, landing, catch_end, FrameAction, Set, Last, br, succeeded, switch, ret, Block}
use Rattle.ssa_form.specs.Storage.{Held, unset, term, context, position, marker, ends_body, Storage, Frame, After, next, Ended, Around, go_on, when, if_some}
use Rattle.ssa_form.specs.Flow.{targets}
use Rattle.ssa_form.specs.Operations.{held, put, follows}
use Rattle.ssa_form.specs.SsaRun.{Raised, reads_tag, is_landing, is_catch_end, none_before, lands, ends_catch, truth_in, picked, either_end, choice_of, Go, goes_by, switched, ended, returned, leave_next, phi_values, put_each, closed, catches, landed, begins, entered_by, chain_does}
use Rattle.ssa_form.proofs.Turns.{here_in, choice_in, picked_in}
use Rattle.ssa_form.proofs.Moves.{at}
use Rattle.ssa_form.proofs.TwoStorages.{Opt, opt_none, opt_some, lk}
use Rattle.ssa_form.proofs.TwoRuns.{Same, same_done, same_bad, Acted, acted, acted_bad, Out, out_over, out_bad}

-- the operand that a last reads
abbrev pub read_by : Last → Option Arg
read_by (br a pass fail) = Some a
read_by (succeeded v pass fail) = None
read_by (switch a d cs) = Some a
read_by (ret a) = Some a

-- the last ends the body
abbrev pub gives_back : Last → Bool
gives_back (ret a) = true
gives_back _ = false

module _ {S U : Type 0} (o : Storage S) (p : Storage U) (around : Around) (here : Here) where
  -- Lasts.

  -- both go on alike wherever a block is arrived at behind block n
  abbrev Alike : (Option Raised → ℕ → ℕ → Bool → S → U → Type 0) → ℕ → Go o around here → Go p around here → Type 0
  Alike arrives n go go' = (e : Option Raised) (t : ℕ) (x : S) (y : U) (c : List MatchContext) (i : ℕ)
      (w : Option Message) (s : State) → arrives e n t (lk w) x y
      → Same (go e n t (at x c i w) s) (go' e n t (at y c i w) s)

  -- what is to be shown of a last: it reads the same, leads to related stores, and may leave on both sides
  pub record LastPlan (arrives : Option Raised → ℕ → ℕ → Bool → S → U → Type 0) (n : ℕ) (l : Last)
      (r : Bool → S → U → Type 0) : Type 0 where
    pub reads : (a : Arg) → read_by l ≡ Some a → (x : S) (y : U) (c : List MatchContext) (i : ℕ) (w : Option Message)
        → r (lk w) x y → held p around here (at y c i w) a ≡ held o around here (at x c i w) a
    pub leads : (t : ℕ) → Contains (targets l) t → (w : Bool) (x : S) (y : U) → r w x y → arrives None n t w x y
    pub ends : IsTrue (gives_back l) → (x : S) (y : U) → r false x y
        → Opt (λ a b. Unit {0}) (o.leaves ends_body x) (p.leaves ends_body y)

  module _ (arrives : Option Raised → ℕ → ℕ → Bool → S → U → Type 0) (n : ℕ) (r : Bool → S → U → Type 0)
      (go : Go o around here) (go' : Go p around here) (alike : Alike arrives n go go')
      (x : S) (y : U) (c : List MatchContext) (i : ℕ) (w : Option Message) (s : State) (here' : r (lk w) x y) where
    either_same : (b : Bool) (a z : Ended) (a' z' : Ended) → Same a a' → Same z z'
        → Same (either_end b a z) (either_end b a' z')
    either_same true a z a' z' h k = h
    either_same false a z a' z' h k = k

    goes_same : (t : Option Bool) (pass fail : ℕ) → ((d : ℕ) → Contains (pass ∷ fail ∷ []) d
        → arrives None n d (lk w) x y)
        → Same (goes_by o around here t go n pass fail (at x c i w) s)
        (goes_by p around here t go' n pass fail (at y c i w) s)
    goes_same None pass fail h = same_bad _
    goes_same (Some b) pass fail h =
        alike None (picked b pass fail) x y c i w s (h (picked b pass fail) (picked_in b pass fail))

    switched_same : (h : Held) (d : ℕ) (cs : List (Term × ℕ))
        → ((t : ℕ) → Contains (d ∷ map (λ e. e.1) cs) t → arrives None n t (lk w) x y)
        → Same (switched o around here h go n d cs (at x c i w) s) (switched p around here h go' n d cs (at y c i w) s)
    unfolding switched
    switched_same (term t) d cs h = alike None (choice_of cs t d) x y c i w s (h (choice_of cs t d) (choice_in cs t d))
    switched_same unset d cs h = same_bad _
    switched_same (context j) d cs h = same_bad _
    switched_same (position j) d cs h = same_bad _
    switched_same (marker j) d cs h = same_bad _

  returned_same : (h : Held) (x : S) (y : U) (c : List MatchContext) (i : ℕ) (w : Option Message) (s : State)
      → (w ≡ None → Opt (λ a b. Unit {0}) (o.leaves ends_body x) (p.leaves ends_body y))
      → Same (returned o around here h (at x c i w) s) (returned p around here h (at y c i w) s)
  returned_same (term t) x y c i (Some m) s h = same_bad _
  returned_same (term t) x y c i None s h = by (eqb i 0) (h refl)
    where
      left : (a : Option S) (b : Option U) → Opt (λ q z. Unit {0}) a b
          → Same (ended o around here (if_some a (λ st. After.finish s (gives t))))
          (ended p around here (if_some b (λ st. After.finish s (gives t))))
      left _ _ (opt_none b) = same_bad _
      left _ _ (opt_some a b q) = same_done s (gives t)

      by : (b : Bool) → Opt (λ q z. Unit {0}) (o.leaves ends_body x) (p.leaves ends_body y)
          → Same (ended o around here
          (when b (if_some (o.leaves ends_body x) (λ st. After.finish s (gives t)))))
          (ended p around here
          (when b (if_some (p.leaves ends_body y) (λ st. After.finish s (gives t)))))
      by true q = left (o.leaves ends_body x) (p.leaves ends_body y) q
      by false q = same_bad _
  returned_same unset x y c i w s h = same_bad _
  returned_same (context j) x y c i w s h = same_bad _
  returned_same (position j) x y c i w s h = same_bad _
  returned_same (marker j) x y c i w s h = same_bad _

  -- what a last does on both sides
  pub last_sim : (arrives : Option Raised → ℕ → ℕ → Bool → S → U → Type 0) (n : ℕ) (l : Last)
      (r : Bool → S → U → Type 0) → LastPlan arrives n l r → (go : Go o around here) (go' : Go p around here)
      → Alike arrives n go go' → (x : S) (y : U) (c : List MatchContext) (i : ℕ) (w : Option Message) (s : State)
      → r (lk w) x y → Same (leave_next o around here go n l (at x c i w) s)
      (leave_next p around here go' n l (at y c i w) s)
  last_sim arrives n (br a pass fail) r pl go go' alike x y c i w s h =
      either_same arrives n r go go' alike x y c i w s h (eqb pass fail) _ _ _ _
      (alike None pass x y c i w s (pl.leads pass (here_in pass (fail ∷ [])) (lk w) x y h))
      (subst (λ z. Same (goes_by o around here (truth_in (held o around here (at x c i w) a)) go n pass fail
      (at x c i w) s)
      (goes_by p around here (truth_in z) go' n pass fail (at y c i w) s)) (sym (pl.reads a refl x y c i w h))
      (goes_same arrives n r go go' alike x y c i w s h (truth_in (held o around here (at x c i w) a)) pass fail
      (λ d k. pl.leads d k (lk w) x y h)))
  last_sim arrives n (succeeded v pass fail) r pl go go' alike x y c i w s h = same_bad _
  last_sim arrives n (switch a d cs) r pl go go' alike x y c i w s h =
      subst (λ z. Same (switched o around here (held o around here (at x c i w) a) go n d cs (at x c i w) s)
      (switched p around here z go' n d cs (at y c i w) s)) (sym (pl.reads a refl x y c i w h))
      (switched_same arrives n r go go' alike x y c i w s h (held o around here (at x c i w) a) d cs
      (λ t k. pl.leads t k (lk w) x y h))
  last_sim arrives n (ret a) r pl go go' alike x y c i w s h =
      subst (λ z. Same (returned o around here (held o around here (at x c i w) a) (at x c i w) s)
      (returned p around here z (at y c i w) s)) (sym (pl.reads a refl x y c i w h))
      (returned_same (held o around here (at x c i w) a) x y c i w s
      (λ e. pl.ends refl x y (subst (λ v. r (lk v) x y) e h)))

  -- Phis are written one after the other: r speaks of those that are left.
  pub each_sim : (r : List (ℕ × Held) → Bool → S → U → Type 0)
      → ((v : ℕ) (h : Held) (hs : List (ℕ × Held)) (w : Bool) (x : S) (y : U) → r ((v, h) ∷ hs) w x y
      → Opt (r hs w) (o.write w v h x) (p.write w v h y))
      → (hs : List (ℕ × Held)) (x : S) (y : U) (c : List MatchContext) (i : ℕ) (w : Option Message) (s : State)
      → r hs (lk w) x y
      → Acted o p around here (r []) (put_each o around here hs (at x c i w) s)
      (put_each p around here hs (at y c i w) s)
  each_sim r step [] x y c i w s h = acted x y c i w s h
  each_sim r step ((v, h) ∷ hs) x y c i w s k =
      by (o.write (lk w) v h x) (p.write (lk w) v h y) (step v h hs (lk w) x y k)
      (λ a b q. each_sim r step hs a b c i w s q)
    where
      by : (a : Option S) (b : Option U) → Opt (r hs (lk w)) a b
          → ((a : S) (b : U) → r hs (lk w) a b → Acted o p around here (r []) (put_each o around here hs (at a c i w) s)
          (put_each p around here hs (at b c i w) s))
          → Acted o p around here (r []) (go_on (if_some a (λ st. next (at st c i w) s)) (put_each o around here hs))
          (go_on (if_some b (λ st. next (at st c i w) s)) (put_each p around here hs))
      by _ _ (opt_none b) g = acted_bad _
      by _ _ (opt_some a b q) g = g a b q

  -- Landings: relations of the stores while no message is looked at.

  -- what a write leads to; where there is no variable nothing is written
  abbrev pub Puts : (S → U → Type 0) → Option ℕ → (S → U → Type 0) → Type 0
  Puts q None t = (x : S) (y : U) → q x y → t x y
  Puts q (Some v) t = (h : Held) (x : S) (y : U) → q x y → Opt t (o.write false v h x) (p.write false v h y)

  pub data Wrote (q : S → U → Type 0) : After S → After U → Type 0 where
    wrote : (x : S) (y : U) (c : List MatchContext) (i : ℕ) (s : State) → q x y
        → Wrote q (next (at x c i None) s) (next (at y c i None) s)
    wrote_bad : (z : After U) → Wrote q After.bad z

  put_wrote : (q t : S → U → Type 0) (d : Option ℕ) (h : Held) → Puts q d t → (x : S) (y : U) (c : List MatchContext)
      (i : ℕ) (s : State) → q x y
      → Wrote t (put o around here d h (at x c i None) s) (put p around here d h (at y c i None) s)
  put_wrote q t None h g x y c i s k = wrote x y c i s (g x y k)
  put_wrote q t (Some v) h g x y c i s k = by (o.write false v h x) (p.write false v h y) (g h x y k)
    where
      by : (a : Option S) (b : Option U) → Opt t a b
          → Wrote t (if_some a (λ st. next (at st c i None) s)) (if_some b (λ st. next (at st c i None) s))
      by _ _ (opt_none b) = wrote_bad _
      by _ _ (opt_some a b z) = wrote a b c i s z

  -- class, reason and trace are taken
  abbrev takes_raised : {X : Type 0} → Storage X → Raised → Set → Set → Set → (Frame X → State → After X) → State
      → Frame X → After X
  takes_raised q e a b d k s f = go_on (put q around here a.dst (term (class_word e.class)) f s) λ g u.
      go_on (put q around here b.dst (term e.reason) g u) λ h v.
      go_on (put q around here d.dst (term (T.raw_trace e.class)) h v) k

  module _ (at_last : Bool → S → U → Type 0) (at_pick : Bool → Bool → S → U → Type 0) (rose : S → U → Type 0) where
    abbrev Outs : After S → After U → Type 0
    Outs a z = Out o p around here at_last at_pick rose a z

    -- both go on alike from stores that are related
    abbrev pub Goes : (S → U → Type 0) → (Frame S → State → After S) → (Frame U → State → After U) → Type 0
    Goes q k k' = (x : S) (y : U) (c : List MatchContext) (i : ℕ) (s : State) → q x y
        → Outs (k (at x c i None) s) (k' (at y c i None) s)

    wrote_then : (q : S → U → Type 0) (a : After S) (z : After U) (k : Frame S → State → After S)
        (k' : Frame U → State → After U) → Wrote q a z → Goes q k k' → Outs (go_on a k) (go_on z k')
    wrote_then q _ _ k k' (wrote x y c i s r) h = h x y c i s r
    wrote_then q _ _ k k' (wrote_bad z) h = out_bad (go_on z k')

    -- the handler that lands closes on both sides
    abbrev pub Closes : (S → U → Type 0) → ℕ → (S → U → Type 0) → Type 0
    Closes r v q = (x : S) (y : U) → r x y → Opt q (o.closes v x) (p.closes v y)

    closed_sim : (r q : S → U → Type 0) (v : ℕ) → Closes r v q → (k : Frame S → After S) (k' : Frame U → After U)
        (c : List MatchContext) (i : ℕ)
        → ((x : S) (y : U) → q x y → Outs (k (at x c i None)) (k' (at y c i None)))
        → (w : Option Message) (x : S) (y : U) → (w ≡ None → r x y)
        → Outs (closed o around here v (at x c i w) k) (closed p around here v (at y c i w) k')
    closed_sim r q v g k k' c i h (Some m) x y z = out_bad _
    closed_sim r q v g k k' c i h None x y z = by (o.closes v x) (p.closes v y) (g x y (z refl))
      where
        by : (a : Option S) (b : Option U) → Opt q a b
            → Outs (if_some a (λ st. k (at st c i None))) (if_some b (λ st. k' (at st c i None)))
        by _ _ (opt_none b) = out_bad _
        by _ _ (opt_some a b t) = h a b t

    when_off : (b : Bool) (a : After S) (z : After U) → b ≡ false → Outs (when b a) z
    when_off true a z e = absurd cc
    when_off false a z e = out_bad z

    when_both : (b : Bool) (a : After S) (z : After U) → Outs a z → Outs (when b a) (when b z)
    when_both true a z h = h
    when_both false a z h = out_bad _

    takes_sim : (e : Raised) (a b d : Set) (q0 q1 q2 q3 : S → U → Type 0) → Puts q0 a.dst q1 → Puts q1 b.dst q2
        → Puts q2 d.dst q3 → (k : Frame S → State → After S) (k' : Frame U → State → After U) → Goes q3 k k' → (x : S)
        (y : U) (c : List MatchContext) (i : ℕ) (s : State) → q0 x y
        → Outs (takes_raised o e a b d k s (at x c i None)) (takes_raised p e a b d k' s (at y c i None))
    takes_sim e a b d q0 q1 q2 q3 pa pb pd k k' rest x y c i s z =
        wrote_then q1 _ _ _ _ (put_wrote q0 q1 a.dst (term (class_word e.class)) pa x y c i s z) λ x' y' c' i' s' z'.
        wrote_then q2 _ _ _ _ (put_wrote q1 q2 b.dst (term e.reason) pb x' y' c' i' s' z') λ x2 y2 c2 i2 s2 z2.
        wrote_then q3 _ _ _ _ (put_wrote q2 q3 d.dst (term (T.raw_trace e.class)) pd x2 y2 c2 i2 s2 z2) rest

    -- three landings that begin both chains
    pub landed_sim : (e : Raised) (a b d : Set) → a.op ≡ landing → (as' bs : List FrameAction) (l l' : Last)
        (us vs : List Set) (r q0 q1 q2 q3 : S → U → Type 0) → Closes r e.tag q0
        → (IsTrue (lands e.tag a && lands e.tag b && lands e.tag d)
        → Puts q0 a.dst q1 × Puts q1 b.dst q2 × Puts q2 d.dst q3)
        → Goes q3 (chain_does o around here as' l us) (chain_does p around here bs l' vs) → (x : S)
        (y : U) (c : List MatchContext) (i : ℕ) (w : Option Message) (s : State) → (w ≡ None → r x y)
        → Outs (landed o around here as' l (a ∷ b ∷ d ∷ us) e (at x c i w) s)
        (landed p around here bs l' (a ∷ b ∷ d ∷ vs) e (at y c i w) s)
    landed_sim e a b d op as' bs l l' us vs r q0 q1 q2 q3 g puts rest x y c i w s z =
        by (lands e.tag a && lands e.tag b && lands e.tag d) puts
      where
        by : (t : Bool) → (IsTrue t → Puts q0 a.dst q1 × Puts q1 b.dst q2 × Puts q2 d.dst q3)
            → Outs (if t then closed o around here e.tag (at x c i w)
            (takes_raised o e a b d (chain_does o around here as' l us) s)
            else catches o around here as' l (a ∷ b ∷ d ∷ us) e (at x c i w) s)
            (if t then closed p around here e.tag (at y c i w)
            (takes_raised p e a b d (chain_does p around here bs l' vs) s)
            else catches p around here bs l' (a ∷ b ∷ d ∷ vs) e (at y c i w) s)
        by true h = closed_sim r q0 e.tag g (takes_raised o e a b d (chain_does o around here as' l us) s)
            (takes_raised p e a b d (chain_does p around here bs l' vs) s) c i
            (λ x' y' z'. takes_sim e a b d q0 q1 q2 q3 (h refl).0 (h refl).1 (h refl).2
            (chain_does o around here as' l us)
            (chain_does p around here bs l' vs) rest x' y' c i s z') w x y z
        by false h = when_off (ends_catch e.tag a) (closed o around here e.tag (at x c i w)
            (λ f. go_on (follows o around here a.dst f (exit_of e.class e.reason s))
            (chain_does o around here as' l (b ∷ d ∷ us))))
            (catches p around here bs l' (a ∷ b ∷ d ∷ vs) e (at y c i w) s)
            (ap (λ h. is_catch_end h && reads_tag e.tag a.args && none_before a.before) op)

    if_off : {A : Type 0} (t : Bool) (a z : A) → t ≡ false → (if t then a else z) ≡ z
    if_off true a z e = absurd cc
    if_off false a z e = refl

    follows_then : (q0 q1 : S → U → Type 0) (d : Option ℕ) → Puts q0 d q1
        → (k : Frame S → State → After S) (k' : Frame U → State → After U) → Goes q1 k k' → (z : State × Outcome Values)
        → ((m : Class) (t : Term) → z.1 ≡ raises m t → ⊥) → (x : S) (y : U) (c : List MatchContext) (i : ℕ) → q0 x y
        → Outs (go_on (follows o around here d (at x c i None) z) k)
        (go_on (follows p around here d (at y c i None) z) k')
    follows_then q0 q1 d g k k' rest (u, gives vs) never x y c i h =
        wrote_then q1 _ _ k k' (put_wrote q0 q1 d (term (only vs)) g x y c i u h) rest
    follows_then q0 q1 d g k k' rest (u, raises m t) never x y c i h = absurd (never m t refl)
    follows_then q0 q1 d g k k' rest (u, waits q) never x y c i h = out_over u (waits q)
    follows_then q0 q1 d g k k' rest (u, spent) never x y c i h = out_over u spent

    -- the value of a catch is no raise
    asked_gives : (r : Term) (rs : List Reply) (s : State) (m : Class) (t : Term)
        → (going_on (ask_from World.trace rs s)
        (λ q. single (tagged (codes "EXIT") (T.tuple (T.more r (T.more q.term T.none)))))).1 ≡ raises m t → ⊥
    asked_gives r [] s m t e = cc
    asked_gives r (q ∷ rs) s m t e = cc

    exit_gives : (k : Class) (r : Term) (s : State) (m : Class) (t : Term) → (exit_of k r s).1 ≡ raises m t → ⊥
    exit_gives T.throw r s m t e = cc
    exit_gives T.exit r s m t e = cc
    exit_gives T.error r s m t e = asked_gives r s.replies s m t e

    -- the end of a catch that begins both chains
    pub caught_sim : (e : Raised) (a : Set) → a.op ≡ catch_end → (as' bs : List FrameAction) (l l' : Last)
        (us vs : List Set) (r q0 q1 : S → U → Type 0) → Closes r e.tag q0 → Puts q0 a.dst q1
        → Goes q1 (chain_does o around here as' l us) (chain_does p around here bs l' vs) → (x : S) (y : U)
        (c : List MatchContext) (i : ℕ) (w : Option Message) (s : State) → (w ≡ None → r x y)
        → Outs (landed o around here as' l (a ∷ us) e (at x c i w) s)
        (landed p around here bs l' (a ∷ vs) e (at y c i w) s)
    caught_sim e a op as' bs l l' us vs r q0 q1 g pa rest x y c i w s z =
        subst (λ h. Outs h (landed p around here bs l' (a ∷ vs) e (at y c i w) s))
        (sym (is_catch o as' l us (at x c i w)))
        (subst (λ h. Outs (catches o around here as' l (a ∷ us) e (at x c i w) s) h)
        (sym (is_catch p bs l' vs (at y c i w))) both)
      where
        no_landing : lands e.tag a ≡ false
        no_landing = ap (λ h. is_landing h && reads_tag e.tag a.args && none_before a.before) op

        is_catch : {X : Type 0} (q : Storage X) (cs : List FrameAction) (m : Last) (xs : List Set) (f : Frame X)
            → landed q around here cs m (a ∷ xs) e f s ≡ catches q around here cs m (a ∷ xs) e f s
        is_catch q cs m [] f = refl
        is_catch q cs m (b ∷ []) f = refl
        is_catch q cs m (b ∷ d ∷ xs) f = if_off (lands e.tag a && lands e.tag b && lands e.tag d)
            (closed q around here e.tag f (takes_raised q e a b d (chain_does q around here cs m xs) s))
            (catches q around here cs m (a ∷ b ∷ d ∷ xs) e f s)
            (ap (λ h. h && lands e.tag b && lands e.tag d) no_landing)

        both : Outs (catches o around here as' l (a ∷ us) e (at x c i w) s)
            (catches p around here bs l' (a ∷ vs) e (at y c i w) s)
        both = when_both (ends_catch e.tag a)
            (closed o around here e.tag (at x c i w)
            (λ f. go_on (follows o around here a.dst f (exit_of e.class e.reason s))
            (chain_does o around here as' l us)))
            (closed p around here e.tag (at y c i w)
            (λ f. go_on (follows p around here a.dst f (exit_of e.class e.reason s))
            (chain_does p around here bs l' vs)))
            (closed_sim r q0 e.tag g
            (λ f. go_on (follows o around here a.dst f (exit_of e.class e.reason s))
            (chain_does o around here as' l us))
            (λ f. go_on (follows p around here a.dst f (exit_of e.class e.reason s))
            (chain_does p around here bs l' vs))
            c i (λ x' y' h. follows_then q0 q1 a.dst pa (chain_does o around here as' l us)
            (chain_does p around here bs l' vs) rest (exit_of e.class e.reason s) (exit_gives e.class e.reason s) x' y'
            c i h) w x y z)

    -- a chain that begins with neither takes no raise
    pub unlanded_sim : (e : Raised) (a : Set) (us : List Set) → is_catch_end a.op ≡ false
        → ((b d : Set) (vs : List Set) → us ≡ b ∷ d ∷ vs → is_landing a.op ≡ false)
        → (as' : List FrameAction) (l : Last)
        (f : Frame S) (s : State) (z : After U) → Outs (landed o around here as' l (a ∷ us) e f s) z
    unlanded_sim e a [] g h as' l f s z = when_off (ends_catch e.tag a) _ z
        (ap (λ t. t && reads_tag e.tag a.args && none_before a.before) g)
    unlanded_sim e a (b ∷ []) g h as' l f s z = when_off (ends_catch e.tag a) _ z
        (ap (λ t. t && reads_tag e.tag a.args && none_before a.before) g)
    unlanded_sim e a (b ∷ d ∷ us) g h as' l f s z = subst (λ t. Outs t z)
        (sym (if_off (lands e.tag a && lands e.tag b && lands e.tag d)
        (closed o around here e.tag f (takes_raised o e a b d (chain_does o around here as' l us) s))
        (catches o around here as' l (a ∷ b ∷ d ∷ us) e f s)
        (ap (λ t. (t && reads_tag e.tag a.args && none_before a.before) && lands e.tag b && lands e.tag d)
        (h b d us refl))))
        (when_off (ends_catch e.tag a) _ z (ap (λ t. t && reads_tag e.tag a.args && none_before a.before) g))

    -- Entries of blocks.

    -- what is to be shown of one: both blocks are there on either side, their phis read the same and are written one
    -- after the other, and then come their sets or their landing
    pub record EntryPlan (from n : ℕ) (u v : Block) (e : Option Raised) (r : Bool → S → U → Type 0) : Type 1 where
      pub inside : Bool → S → U → Type 0
      pub left : List (ℕ × Held) → Bool → S → U → Type 0
      pub phis : v.phis ≡ u.phis
      pub arrives : (w : Bool) (x : S) (y : U) → r w x y → Opt (inside w) (o.arrives n x) (p.arrives n y)
      pub reads : (x : S) (y : U) (c : List MatchContext) (i : ℕ) (w : Option Message) → inside (lk w) x y
          → phi_values p around here u.phis from (at y c i w) ≡ phi_values o around here u.phis from (at x c i w)
      pub starts : (x : S) (y : U) (c : List MatchContext) (i : ℕ) (w : Option Message) → inside (lk w) x y
          → (hs : List (ℕ × Held)) → phi_values o around here u.phis from (at x c i w) ≡ Some hs → left hs (lk w) x y
      pub each : (d : ℕ) (h : Held) (hs : List (ℕ × Held)) (w : Bool) (x : S) (y : U) → left ((d, h) ∷ hs) w x y
          → Opt (left hs w) (o.write w d h x) (p.write w d h y)
      pub goes_on : (x : S) (y : U) (c : List MatchContext) (i : ℕ) (w : Option Message) (s : State)
          → left [] (lk w) x y
          → Outs (begins o around here u e (at x c i w) s) (begins p around here v e (at y c i w) s)

    pub entry_sim : (from n : ℕ) (u v : Block) (e : Option Raised) (r : Bool → S → U → Type 0)
        → EntryPlan from n u v e r → (x : S) (y : U) (c : List MatchContext) (i : ℕ) (w : Option Message) (s : State)
        → r (lk w) x y
        → Outs (entered_by o around here from n u e (at x c i w) s) (entered_by p around here from n v e (at y c i w) s)
    entry_sim from n u v e r pl x y c i w s k = arrived (o.arrives n x) (p.arrives n y) (pl.arrives (lk w) x y k)
      where
        written : (z : After S) (z' : After U) → Acted o p around here (pl.left []) z z'
            → Outs (go_on z (begins o around here u e)) (go_on z' (begins p around here v e))
        written _ _ (acted a b c i w s h) = pl.goes_on a b c i w s h
        written _ _ (acted_bad z) = out_bad _

        read : (a : S) (b : U) → pl.inside (lk w) a b → (h h' : Option (List (ℕ × Held)))
            → phi_values o around here u.phis from (at a c i w) ≡ h → h' ≡ h
            → Outs (if_some h (λ hs. go_on (put_each o around here hs (at a c i w) s) (begins o around here u e)))
            (if_some h' (λ hs. go_on (put_each p around here hs (at b c i w) s) (begins p around here v e)))
        read a b q None h' f g = out_bad _
        read a b q (Some hs) h' f g = subst
            (λ z. Outs (go_on (put_each o around here hs (at a c i w) s) (begins o around here u e))
            (if_some z (λ hs. go_on (put_each p around here hs (at b c i w) s) (begins p around here v e)))) (sym g)
            (written _ _ (each_sim pl.left pl.each hs a b c i w s (pl.starts a b c i w q hs f)))

        arrived : (z : Option S) (z' : Option U) → Opt (pl.inside (lk w)) z z'
            → Outs (if_some z (λ st. if_some (phi_values o around here u.phis from (at st c i w))
            (λ hs. go_on (put_each o around here hs (at st c i w) s) (begins o around here u e))))
            (if_some z' (λ st. if_some (phi_values p around here v.phis from (at st c i w))
            (λ hs. go_on (put_each p around here hs (at st c i w) s) (begins p around here v e))))
        arrived _ _ (opt_none b) = out_bad _
        arrived _ _ (opt_some a b q) = read a b q (phi_values o around here u.phis from (at a c i w))
            (phi_values p around here v.phis from (at b c i w)) refl
            (ap (λ z. phi_values p around here z from (at b c i w)) pl.phis ∙ pl.reads a b c i w q)
