-- From one block to the next: a run is over, or it goes on along the flow, and no higher.
use Rattle.std.proofs.Common.{◌≡◌, ◌≢◌, ℕ, zero, suc, List, [], ◌∷◌, length, map, Bool, true, false, ◌&&◌, ◌||◌, Contains, Option, Some, None, refl, sym, ap, subst, ◌∙◌, ⊎_elim, arith, eqb, IsTrue, IsFalse, if◌then◌else◌}
use Rattle.std.proofs.lemmas.Bool.{eq-eqb}
use Rattle.slab.proofs.SlabLemmas.{Contains-cons, Contains-cons_cases}
use Rattle.erl_term.specs.Term.{Term, Class}
use Rattle.erl_term.specs.TermOrder.{same_term}
use Rattle.world_model.specs.World.{Message}
use Rattle.world_model.specs.Run as Run
use Rattle.world_model.specs.Run.{State, Outcome, gives}
use Rattle.step_machine.specs.Bodies.{Here}
use Rattle.step_machine.specs.EntryBound.{Lowers}
use Rattle.ssa_form.specs.Ssa as Ssa
use Rattle.ssa_form.specs.Ssa.{Op, Set, Last, br, succeeded, switch, ret, Block, Body, block_at}
use Rattle.ssa_form.specs.Storage.{Held, unset, term, context, position, marker, Handler, ends_body, Storage, Frame, After, next, choose, raise, finish, Ended, done, unfinished, Around, go_on, when, if_some, kept}
use Rattle.ssa_form.specs.SetFacts.{given_vars, is_peek, breaks_cycle}
use Rattle.ssa_form.specs.Flow.{point, last_in, last_at, last_of, targets, goes, Reached, Passing, one, Effect, along_edge, Step, leads, succeeds, fails, raises}
use Rattle.ssa_form.specs.WellFormed.{any_op, block_has, any_has, tests_nothing, lands_for, is_landing_for}
use Rattle.ssa_form.specs.Operations.{held, forgotten}
use Rattle.ssa_form.specs.SsaRun.{Raised, lands, ends_catch, truth_in, picked, choice_of, landed, put_each, phi_values, begins, entered_by, goes_by, switched, ended, returned, leave_next, leave_choose, raised_to, either_end, unless_looking, leave, block_does, blocks, first_handler}
use Rattle.ssa_form.proofs.Rank.{Lower, AtMost, rank, Fits}
use Rattle.ssa_form.proofs.OpenHandlers.{Tracks, some_is}
use Rattle.ssa_form.proofs.Eases.{eased, some_holds, when_holds, outside_holds, none_some}
use Rattle.ssa_form.proofs.ChainSteps.{Tested, Through, Chosen, Risen, Chained}
use Rattle.ssa_form.proofs.BlockSteps.{only_then, lands_breaks, Came, puts_only, entered_steps}

-- where a run stands before a block
pub record Config (S : Type 0) : Type 0 where
  pub raised : Option Raised
  pub from : ℕ
  pub at : ℕ
  pub frame : Frame S
  pub state : State

abbrev pub over_and : ℕ → ℕ → ℕ
over_and zero k = k
over_and (suc j) k = suc (over_and j k)

true_no : (b : Bool) → IsTrue b → IsFalse b → ⊥
true_no b e f = let g : true ≡ false = sym e ∙ f in cc

and_false : (a b : Bool) → (a || b) ≡ false → (a ≡ false) × (b ≡ false)
and_false true b e = absurd cc
and_false false b e = (refl, e)

first_is : (h : Handler) (hs : List Handler) → first_handler hs ≡ Some h → (is' : List Handler) × (hs ≡ h ∷ is')
first_is h [] e = absurd cc
first_is h (k ∷ ks) e = (ks, ap (λ x. x ∷ ks) (some_is k h e))

-- Targets.

pub here_in : (n : ℕ) (ns : List ℕ) → Contains (n ∷ ns) n
here_in n ns = (0, omega arith, refl)

later_in : (m n : ℕ) (ns : List ℕ) → Contains ns n → Contains (m ∷ ns) n
later_in m n ns c = Contains-cons m n ns c

swapped_in : (a d n : ℕ) (ns : List ℕ) → Contains (d ∷ ns) n → Contains (d ∷ a ∷ ns) n
swapped_in a d n ns c = ⊎_elim (λ e. subst (Contains (d ∷ a ∷ ns)) e (here_in d (a ∷ ns)))
    (λ h. later_in d n (a ∷ ns) (later_in a n ns h)) (Contains-cons_cases d n ns c)

pub choice_in : (cs : List (Term × ℕ)) (t : Term) (d : ℕ) → Contains (d ∷ map (λ c. c.1) cs) (choice_of cs t d)
unfolding choice_of
choice_in [] t d = here_in d []
choice_in (c ∷ cs) t d = by_first (choice_in cs t d) (same_term c.0 t)
  where
    by_first : Contains (d ∷ map (λ c. c.1) cs) (choice_of cs t d) → (b : Bool)
        → Contains (d ∷ c.1 ∷ map (λ c. c.1) cs) (if b then c.1 else choice_of cs t d)
    by_first h true = later_in d c.1 (c.1 ∷ map (λ c. c.1) cs) (here_in c.1 (map (λ c. c.1) cs))
    by_first h false = swapped_in c.1 d (choice_of cs t d) (map (λ c. c.1) cs) h

pub picked_in : (b : Bool) (t e : ℕ) → Contains (t ∷ e ∷ []) (picked b t e)
picked_in true t e = here_in t (e ∷ [])
picked_in false t e = later_in t e (e ∷ []) (here_in e [])

-- A raise into a block that is no landing of its handler.

when_bad : {S : Type 0} (c : Bool) (a : After S) → c ≡ false → when c a ≡ After.bad
when_bad true a h = absurd cc
when_bad false a h = refl

else_bad : {S : Type 0} (c : Bool) (a d : After S) → c ≡ false → d ≡ After.bad → (if c then a else d) ≡ After.bad
else_bad true a d h i = absurd cc
else_bad false a d h i = i

landed_bad : {S : Type 0} (o : Storage S) (around : Around) (here : Here) (x : Block) (ys : List Set) (e : Raised)
    (f : Frame S) (s : State) → IsFalse (lands_for e.tag ys) → landed o around here x.before x.last ys e f s ≡ After.bad
landed_bad o around here x [] e f s h = refl
landed_bad o around here x (y ∷ []) e f s h = when_bad (ends_catch e.tag y) _ h
landed_bad o around here x (y ∷ z ∷ []) e f s h = when_bad (ends_catch e.tag y) _ h
landed_bad o around here x (y ∷ z ∷ v ∷ ys) e f s h =
    let c : ((lands e.tag y && lands e.tag z && lands e.tag v) ≡ false) × (ends_catch e.tag y ≡ false) =
    and_false _ _ h in
    else_bad (lands e.tag y && lands e.tag z && lands e.tag v) _ _ c.0 (when_bad (ends_catch e.tag y) _ c.1)

module _ {S : Type 0} (o : Storage S) (around : Around) (here : Here) (lowers : Lowers here.enter)
    (open_in : S → List Handler) (tracks : Tracks o open_in) (b : Body) where
  abbrev pub runs : ℕ → Config S → Ended
  runs k c = blocks o around here b k c.raised c.from c.at c.frame c.state

  pub record Good (c : Config S) : Type 0 where
    pub came : Came b c.at c.raised (open_in c.frame.store)
    pub fits : Fits c.frame c.state

  -- a way along the flow
  pub record Goes (c d : Config S) : Type 0 where
    pub through : List ℕ
    pub passing : Passing b c.at d.at through
    pub falls : IsFalse (any_has breaks_cycle b through) → IsFalse (block_has breaks_cycle (block_at b d.at))
        → AtMost (rank d.frame d.state) (rank c.frame c.state)
    pub looks : IsFalse (any_has breaks_cycle b through) → IsFalse (block_has breaks_cycle (block_at b d.at))
        → IsTrue (any_has is_peek b through) → Lower (rank d.frame d.state) (rank c.frame c.state)

  -- a run is over, or it goes on
  pub data Turn (c : Config S) : Type 0 where
    ends : (j : ℕ) (r : Ended) → ((k : ℕ) → runs (over_and j k) c ≡ r) → r ≢ unfinished → Turn c
    turns : (d : Config S) → ((k : ℕ) → runs (suc k) c ≡ runs k d) → Good d → Goes c d → Turn c

  bad_is : Ended.bad ≢ unfinished
  bad_is e = cc

  done_is : (s : State) (q : Outcome Term) → done s q ≢ unfinished
  done_is s q e = cc

  is_bad : (c : Config S) → ((k : ℕ) → runs (suc k) c ≡ Ended.bad) → Turn c
  is_bad c h = ends 1 Ended.bad h bad_is

  is_done : (c : Config S) (u : State) (q : Outcome Term)
      → ((k : ℕ) → runs (suc k) c ≡ done u q) → Turn c
  is_done c u q h = ends 1 (done u q) h (done_is u q)

  module _ (c : Config S) (x : Block) (there : block_at b c.at ≡ Some x) where
    -- along the flow into another block

    block_holds : (f : Op → Bool) → IsFalse (any_has f b (c.at ∷ [])) → IsFalse (any_op f x.chain)
    block_holds f e = subst (λ y. IsFalse (block_has f y)) there (and_false (block_has f (block_at b c.at)) false e).0

    block_looks : (f : Op → Bool) → IsTrue (any_has f b (c.at ∷ [])) → IsTrue (any_op f x.chain)
    block_looks f e = subst (λ y. IsTrue (block_has f y)) there (only_first (block_has f (block_at b c.at)) e)
      where
        only_first : (a : Bool) → IsTrue (a || false) → IsTrue a
        only_first true h = refl
        only_first false h = absurd cc

    into : (m k : ℕ) (hs is' : List Handler) (e : Effect) → Reached b (point c.at k) hs
        → Step b (point c.at k) hs (point m 0) is' e → Reached b (point m 0) is'
    into m k hs is' e (vs, w) p = (_, goes (point c.at k) (point m 0) vs hs is' e w p)

    enters_next : (m k : ℕ) (hs : List Handler) (e : Effect) (g : Frame S) (u : State) → Reached b (point c.at k) hs
        → Step b (point c.at k) hs (point m 0) (open_in g.store) e → Fits g u
        → (IsFalse (any_op breaks_cycle x.chain) → AtMost (rank g u) (rank c.frame c.state))
        → (IsFalse (any_op breaks_cycle x.chain) → IsTrue (any_op is_peek x.chain)
        → Lower (rank g u) (rank c.frame c.state))
        → ((j : ℕ) → runs (suc j) c ≡ blocks o around here b j None c.at m g u) → Turn c
    enters_next m k hs e g u r p i q t h = turns
        (record { raised = None; from = c.at; at = m; frame = g; state = u }) h
        (record { came = into m k hs (open_in g.store) e r p; fits = i }) (record {
          through = c.at ∷ [];
          passing = one c.at m (k, hs, open_in g.store, e, r, p);
          falls = λ y z. q (block_holds breaks_cycle y);
          looks = λ y z v. t (block_holds breaks_cycle y) (block_looks is_peek v);
        })

    -- by a last that tests nothing

    last_there : last_at b (point c.at (length x.chain)) ≡ Some x.last
    last_there = ap (λ y. last_in y (length x.chain)) there
        ∙ at_end (eqb (length x.chain) (length x.chain)) (eq-eqb _ _ refl)
      where
        at_end : (t : Bool) → t ≡ true → (if t then Some x.last else None) ≡ Some x.last
        at_end true e = refl
        at_end false e = absurd cc

    module _ (g : Frame S) (u : State) where
      leads_turn : (l : Last) (m : ℕ) → x.last ≡ l → IsTrue (tests_nothing (Some l)) → Contains (targets l) m
          → Through b c.at x there open_in x.chain c.frame c.state g u
          → ((j : ℕ) → runs (suc j) c ≡ blocks o around here b j None c.at m g u) → Turn c
      leads_turn l m e t i p h = enters_next m (length x.chain) (open_in g.store) _ g u
          (p.reached (subst (λ y. IsTrue (tests_nothing (Some y))) (sym e) t))
          (leads (point c.at (length x.chain)) (open_in g.store) l m (last_there ∙ ap (λ y. Some y) e) i) p.fits
          p.falls p.looks h

      goes_turn : (a t e : _) (v : Option Bool) → x.last ≡ br a t e
          → Through b c.at x there open_in x.chain c.frame c.state g u
          → ((j : ℕ) → runs (suc j) c ≡ goes_by o around here v (blocks o around here b j) c.at t e g u) → Turn c
      goes_turn a t e None l p h = is_bad c h
      goes_turn a t e (Some v) l p h = leads_turn (br a t e) (picked v t e) l refl (picked_in v t e) p h

      branch_turn : (a t e : _) (v : Bool) → x.last ≡ br a t e
          → Through b c.at x there open_in x.chain c.frame c.state g u
          → ((j : ℕ) → runs (suc j) c
          ≡ either_end v (blocks o around here b j None c.at t g u)
          (goes_by o around here (truth_in (held o around here g a)) (blocks o around here b j) c.at t e g u))
          → Turn c
      branch_turn a t e true l p h = leads_turn (br a t e) t l refl (here_in t (e ∷ [])) p h
      branch_turn a t e false l p h = goes_turn a t e (truth_in (held o around here g a)) l p h

      switch_turn : (a : Ssa.Arg) (d : ℕ) (cs : List (Term × ℕ)) (v : Held) → x.last ≡ switch a d cs
          → Through b c.at x there open_in x.chain c.frame c.state g u
          → ((j : ℕ) → runs (suc j) c ≡ switched o around here v (blocks o around here b j) c.at d cs g u) → Turn c
      unfolding switched
      switch_turn a d cs (term t) l p h = leads_turn (switch a d cs) (choice_of cs t d) l refl (choice_in cs t d) p h
      switch_turn a d cs unset l p h = is_bad c h
      switch_turn a d cs (context n) l p h = is_bad c h
      switch_turn a d cs (position n) l p h = is_bad c h
      switch_turn a d cs (marker n) l p h = is_bad c h

      -- a result, or a broken rule
      abbrev Fine : After S → Type 0
      Fine a = ended o around here a ≢ unfinished

      returned_ends : (v : Held) → returned o around here v g u ≢ unfinished
      returned_ends (term t) = outside_holds Fine bad_is g _ (λ w. when_holds Fine bad_is (eqb g.save 0) _
          (λ z. some_holds Fine bad_is (o.leaves ends_body g.store) _ (λ st p. done_is u (gives t))))
      returned_ends unset = bad_is
      returned_ends (context n) = bad_is
      returned_ends (position n) = bad_is
      returned_ends (marker n) = bad_is

      on_turn : (l : Last) → x.last ≡ l → Through b c.at x there open_in x.chain c.frame c.state g u
          → ((j : ℕ) → runs (suc j) c ≡ leave_next o around here (blocks o around here b j) c.at l g u) → Turn c
      on_turn (br a t e) l p h = branch_turn a t e (eqb t e) l p h
      on_turn (succeeded v t e) l p h = is_bad c h
      on_turn (switch a d cs) l p h = switch_turn a d cs (held o around here g a) l p h
      on_turn (ret a) l p h = ends 1 _ h (returned_ends (held o around here g a))

      -- by the success of a set

      pick_turn : (v : Bool) (l : Last) → x.last ≡ l → (p : Chosen b c.at x there open_in x.chain c.frame c.state v g u)
          → Tested [] l p.tested
          → ((j : ℕ) → runs (suc j) c ≡ leave_choose o around here (blocks o around here b j) c.at l v g u) → Turn c
      pick_turn true l e p t h = enters_next t.holds p.at p.before _ g u p.reached
          (subst (λ hs. Step b (point c.at p.at) p.before (point t.holds 0) hs
          (along_edge b c.at t.holds (given_vars p.by))) (sym p.handlers)
          (succeeds (point c.at p.at) p.before p.by t.var t.holds p.tested p.is_there
          (ap last_of there ∙ ap (λ y. Some y) (e ∙ t.last))))
          p.fits p.falls p.looks
          (λ j. h j ∙ ap (λ y. leave_choose o around here (blocks o around here b j) c.at y true g u) t.last)
      pick_turn false l e p t h = enters_next p.tested p.at p.before _ g u p.reached
          (subst (λ hs. Step b (point c.at p.at) p.before (point p.tested 0) hs (along_edge b c.at p.tested []))
          (sym p.handlers) (fails (point c.at p.at) p.before p.by p.tested p.is_there (p.starts refl)))
          p.fits p.falls p.looks
          (λ j. h j ∙ ap (λ y. leave_choose o around here (blocks o around here b j) c.at y false g u) t.last)

  -- A raise.

  -- where no handler takes it there
  unlanded : (y : Option Block) (c : Config S) (e : Raised) (go : Option Raised → ℕ → ℕ → Frame S → State → Ended)
      → IsFalse (is_landing_for e.tag y)
      → block_does o around here y go (Some e) c.from c.at c.frame c.state ≡ Ended.bad
  unlanded None c e go h = refl
  unlanded (Some y) c e go h = ap (leave o around here go c.at y.last) (
      some_holds (λ a. a ≡ After.bad) refl (o.arrives c.at c.frame.store)
      (λ st. if_some (phi_values o around here y.phis c.from (kept c.frame st))
      (λ hs. go_on (put_each o around here hs (kept c.frame st) c.state) (begins o around here y (Some e)))) (λ st p.
      some_holds (λ a. a ≡ After.bad) refl (phi_values o around here y.phis c.from (kept c.frame st))
      (λ hs. go_on (put_each o around here hs (kept c.frame st) c.state) (begins o around here y (Some e))) (λ hs q.
      only_then open_in (λ a. a ≡ After.bad) refl (kept c.frame st) c.state
      (put_each o around here hs (kept c.frame st) c.state) (begins o around here y (Some e))
      (puts_only o around here lowers open_in tracks hs (kept c.frame st) c.state (kept c.frame st) c.state
      (eased open_in (kept c.frame st) c.state)) (λ g u i.
      landed_bad o around here y y.chain e g u h))))

  module _ (c : Config S) (x : Block) (there : block_at b c.at ≡ Some x) (g : Frame S) (u : State) where
    abbrev landing_at : Handler → Class → Term → Config S
    landing_at h k r = record {
      raised = Some (record { tag = h.tag; class = k; reason = r });
      from = c.at;
      at = h.landing;
      frame = forgotten o around here g;
      state = u;
    }

    lands_turn : (h : Handler) (is' : List Handler) (k : Class) (r : Term) (t : Bool)
        → is_landing_for h.tag (block_at b h.landing) ≡ t → g.window ≡ None → open_in g.store ≡ h ∷ is'
        → Risen b c.at x there open_in x.chain c.frame c.state g u
        → ((j : ℕ) → runs (suc j) c ≡ runs j (landing_at h k r)) → Turn c
    unfolding blocks
    lands_turn h is' k r false t w e p i = ends 2 Ended.bad
        (λ j. i (suc j) ∙ unlanded (block_at b h.landing) (landing_at h k r)
        (record { tag = h.tag; class = k; reason = r }) (blocks o around here b j) t) bad_is
    lands_turn h is' k r true t w e p i = turns (landing_at h k r) i
        (record {
          came = (h, is', tracks.forgets g.store ∙ e, into_landing);
          fits = λ m q. absurd (none_some g.window m w q);
        })
        (record {
          through = c.at ∷ [];
          passing = one c.at h.landing (p.at, h ∷ is', is', _, reached, raised);
          falls = λ y z. absurd (true_no _ landing_breaks z);
          looks = λ y z. absurd (true_no _ landing_breaks z);
        })
      where
        reached : Reached b (point c.at p.at) (h ∷ is')
        reached = subst (Reached b (point c.at p.at)) e p.reached

        raised : Step b (point c.at p.at) (h ∷ is') (point h.landing 0) is' (along_edge b c.at h.landing [])
        raised = raises (point c.at p.at) h is' p.by p.mode p.is_there p.may

        into_landing : Reached b (point h.landing 0) is'
        into_landing = into c x there h.landing p.at (h ∷ is') is' (along_edge b c.at h.landing []) reached raised

        breaks_in : (y : Option Block) → IsTrue (is_landing_for h.tag y) → IsTrue (block_has breaks_cycle y)
        breaks_in None q = absurd cc
        breaks_in (Some y) q = lands_breaks h.tag y.chain q

        landing_breaks : IsTrue (block_has breaks_cycle (block_at b h.landing))
        landing_breaks = breaks_in (block_at b h.landing) t

    raised_turn : (h : Option Handler) (k : Class) (r : Term) → o.handler g.store ≡ h → g.window ≡ None
        → Risen b c.at x there open_in x.chain c.frame c.state g u
        → ((j : ℕ) → runs (suc j) c ≡ raised_to o around here h (blocks o around here b j) c.at k r g u) → Turn c
    raised_turn None k r e w p i = at_start (eqb g.save 0) i
      where
        at_start : (t : Bool) → ((j : ℕ) → runs (suc j) c ≡ (if t then done u (Run.raises k r) else Ended.bad)) → Turn c
        at_start true i = is_done c u (Run.raises k r) i
        at_start false i = is_bad c i
    raised_turn (Some h) k r e w p i = let f : (is' : List Handler) × (open_in g.store ≡ h ∷ is') =
        first_is h (open_in g.store) (sym (tracks.first g.store) ∙ e) in
        lands_turn h f.0 k r (is_landing_for h.tag (block_at b h.landing)) refl w f.1 p i

    looking_turn : (w : Option Message) (k : Class) (r : Term) → g.window ≡ w
        → Risen b c.at x there open_in x.chain c.frame c.state g u
        → ((j : ℕ) → runs (suc j) c
        ≡ unless_looking w (raised_to o around here (o.handler g.store) (blocks o around here b j) c.at k r g u))
        → Turn c
    looking_turn None k r w p i = raised_turn (o.handler g.store) k r refl w p i
    looking_turn (Some m) k r w p i = is_bad c i

  -- A block.

  leave_turn : (c : Config S) (x : Block) (there : block_at b c.at ≡ Some x) (a : After S)
      → Chained b c.at x there open_in x.chain c.frame c.state a
      → ((j : ℕ) → runs (suc j) c ≡ leave o around here (blocks o around here b j) c.at x.last a) → Turn c
  leave_turn c x there (next g u) p i = on_turn c x there g u x.last refl p i
  leave_turn c x there (choose v g u) p i = pick_turn c x there g u v x.last refl p p.last i
  leave_turn c x there (raise k r g u) p i = looking_turn c x there g u g.window k r refl p i
  leave_turn c x there (finish u q) p i = is_done c u q i
  leave_turn c x there After.bad p i = is_bad c i

  pub turn : (c : Config S) → Good c → Turn c
  unfolding blocks
  turn c h = at_block (block_at b c.at) refl
    where
      at_block : (y : Option Block) → block_at b c.at ≡ y → Turn c
      at_block None e = is_bad c
          (λ k. ap (λ z. block_does o around here z (blocks o around here b k) c.raised c.from c.at c.frame c.state) e)
      at_block (Some x) e = leave_turn c x e (entered_by o around here c.from c.at x c.raised c.frame c.state)
          (entered_steps o around here lowers open_in tracks b c.at x e c.from c.raised c.frame c.state h.came h.fits)
          (λ k. ap (λ z. block_does o around here z (blocks o around here b k) c.raised c.from c.at c.frame c.state) e)
