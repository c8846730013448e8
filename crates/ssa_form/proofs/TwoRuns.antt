-- From one operation to a chain and to whole runs, for two storages and two bodies.
use Rattle.std.proofs.Common.{◌≡◌, ℕ, zero, suc, List, [], ◌∷◌, Bool, true, false, ◌&&◌, Option, Some, None, refl, sym, ap, subst, ◌∙◌, eqb, IsTrue, IsFalse, if◌then◌else◌}
use Rattle.erl_term.specs.Term.{Term, Class}
use Rattle.erl_term.specs.Terms.{Values}
use Rattle.world_model.specs.World.{Message}
use Rattle.world_model.specs.Run as Run
use Rattle.world_model.specs.Run.{State, Outcome}
use Rattle.step_machine.specs.Bodies.{Here}
use Rattle.step_machine.specs.Frames.{MatchContext}
use Rattle.ssa_form.specs.Ssa as Ssa
use Rattle.ssa_form.specs.Ssa.{Arg, Op, FrameAction, Set, Last, br, succeeded, switch, ret, Block, Body, block_at}
use Rattle.ssa_form.specs.Storage.{Held, Handler, Leaving, Storage, Frame, After, next, choose, raise, finish, Ended, unfinished, Mode, Around, go_on, if_some}
use Rattle.ssa_form.specs.Values.{terms_of}
use Rattle.ssa_form.specs.SetFacts.{is_tests, is_try_start, may_raise, names_handler}
use Rattle.ssa_form.specs.Operations.{all_held, on_terms, does}
use Rattle.ssa_form.specs.SsaRun.{Raised, mode_of, picked, acts_do, set_does, chain_does, Go, leave_next, leave_choose, raised_to, leave, entered_by, block_does, blocks}
use Rattle.ssa_form.proofs.Moves.{at}
use Rattle.ssa_form.proofs.TwoStorages.{lk, is_try_end, writes, traits, Two, Sim, sim_on, sim_pick, sim_up, sim_over, sim_bad, Keeps, leaves_by}
use Rattle.ssa_form.proofs.TwoDoes.{does_sim}

-- Whole runs. The two bodies have blocks with the same lasts; arrives: where a block is entered, with what was raised.
pub data Same : Ended → Ended → Type 0 where
  same_done : (s : State) (q : Outcome Term) → Same (Ended.done s q) (Ended.done s q)
  same_bad : (z : Ended) → Same Ended.bad z
  same_unfinished : Same unfinished unfinished

pub same_gives : (a z : Ended) → Same a z → (s : State) (q : Outcome Term) → a ≡ Ended.done s q → z ≡ Ended.done s q
same_gives _ _ (same_done u r) s q e = e
same_gives _ _ (same_bad z) s q e = absurd cc
same_gives _ _ same_unfinished s q e = absurd cc

module _ {S T : Type 0} (o : Storage S) (p : Storage T) (around : Around) (here : Here) where
  -- an operation on the tag of a handler does not look at its value
  nothing_same : (a b : Option Values) → if_some {S = T} a (λ vs. After.bad) ≡ if_some b (λ vs. After.bad)
  nothing_same None None = refl
  nothing_same None (Some b) = refl
  nothing_same (Some a) None = refl
  nothing_same (Some a) (Some b) = refl

  tags_same : (op : Op) → IsTrue (names_handler op) → (as' : List Arg) (m : Mode) (d : Option ℕ) (hs ks : List Held)
      (f : Frame T) (s : State) → does p around here op as' m d hs f s ≡ does p around here op as' m d ks f s
  unfolding does on_terms
  tags_same Ssa.try_end e as' m d hs ks f s = refl
  tags_same Ssa.landing e as' m d hs ks f s = nothing_same (terms_of hs) (terms_of ks)
  tags_same Ssa.catch_end e as' m d hs ks f s = nothing_same (terms_of hs) (terms_of ks)
  tags_same op e as' m d hs ks f s = absurd cc

  -- frame actions: on to a relation, or a broken rule on the first side
  pub data Acted (r : Bool → S → T → Type 0) : After S → After T → Type 0 where
    acted : (x : S) (y : T) (c : List MatchContext) (n : ℕ) (w : Option Message) (s : State) → r (lk w) x y
        → Acted r (next (at x c n w) s) (next (at y c n w) s)
    acted_bad : (z : After T) → Acted r After.bad z

  abbrev pub Acts : (Bool → S → T → Type 0) → (Bool → S → T → Type 0) → List FrameAction → List FrameAction → Type 0
  Acts a r as' bs = (x : S) (y : T) (c : List MatchContext) (n : ℕ) (w : Option Message) (s : State) → a (lk w) x y
      → Acted r (acts_do o around here as' (at x c n w) s) (acts_do p around here bs (at y c n w) s)

  -- What comes of a chain: it goes on to the last, or chose by its last set, or raised, or is over.
  module _ (at_last : Bool → S → T → Type 0) (at_pick : Bool → Bool → S → T → Type 0) (rose : S → T → Type 0) where
    pub data Out : After S → After T → Type 0 where
      out_on : (x : S) (y : T) (c : List MatchContext) (n : ℕ) (w : Option Message) (s : State) → at_last (lk w) x y
          → Out (next (at x c n w) s) (next (at y c n w) s)
      out_pick : (b : Bool) (x : S) (y : T) (c : List MatchContext) (n : ℕ) (w : Option Message) (s : State)
          → at_pick b (lk w) x y → Out (choose b (at x c n w) s) (choose b (at y c n w) s)
      out_up : (k : Class) (r : Term) (x : S) (y : T) (c : List MatchContext) (n : ℕ) (w : Option Message) (s : State)
          → rose x y → Out (raise k r (at x c n w) s) (raise k r (at y c n w) s)
      out_over : (s : State) (q : Outcome Term) → Out (finish s q) (finish s q)
      out_bad : (z : After T) → Out After.bad z

    -- what is to be shown of one set, taken so, from a relation on
    pub record SetPlan (a : Bool → S → T → Type 0) (m : Mode) (u v : Set) : Type 1 where
      pub op : v.op ≡ u.op
      pub args : v.args ≡ u.args
      pub dst : v.dst ≡ u.dst
      pub ok : Leaving → Type 0
      pub before : Bool → S → T → Type 0
      pub cleared : S → T → Type 0
      pub done : Bool → Bool → S → T → Type 0
      pub next : Bool → S → T → Type 0
      pub raised : S → T → Type 0
      pub acts : Acts a before u.before v.before
      pub reads : IsFalse (names_handler u.op) → (x : S) (y : T) (c : List MatchContext) (n : ℕ)
          (w : Option Message) → before (lk w) x y
          → all_held p around here (at y c n w) u.args ≡ all_held o around here (at x c n w) u.args
      pub kept : Keeps (record {
        o = o;
        p = p;
        around = around;
        here = here;
        ok = ok;
        mode = m;
        dst = u.dst;
        before = before;
        cleared = cleared;
        done = done;
        rose = raised;
      }) (traits m u.op)
      pub leaves : (l : Leaving) → leaves_by u.op m l → ok l
      pub rises : IsTrue (may_raise m u.op) → (x : S) (y : T) → raised x y → rose x y
      pub picks : IsTrue (is_tests m) → IsFalse (is_try_end u.op) → (b : Bool) → (b ≡ false
          → IsFalse (is_try_start u.op))
          → (w : Bool) (x : S) (y : T) → done (writes u.op && b) w x y → at_pick b w x y
      pub passes : IsFalse (is_try_start u.op) → (w : Bool) (x : S) (y : T) → done (writes u.op) w x y → next w x y

    module _ (a : Bool → S → T → Type 0) (m : Mode) (u v : Set) (pl : SetPlan a m u v) where
      abbrev pair : Two S T
      pair = record {
        o = o;
        p = p;
        around = around;
        here = here;
        ok = pl.ok;
        mode = m;
        dst = u.dst;
        before = pl.before;
        cleared = pl.cleared;
        done = pl.done;
        rose = pl.raised;
      }

      abbrev SetSim : ℕ → Option Message → State → After S → After T → Type 0
      SetSim n w s z z' = Sim pair (traits m u.op) n w s z z'

      same_does : (hs : List Held) (f : Frame T) (s : State)
          → does p around here v.op v.args m v.dst hs f s ≡ does p around here u.op u.args m u.dst hs f s
      same_does hs f s = λ i. does p around here (pl.op i) (pl.args i) m (pl.dst i) hs f s

      same_held : (x : S) (y : T) (c : List MatchContext) (n : ℕ) (w : Option Message) (s : State)
          → pl.before (lk w) x y → (b : Bool) → names_handler u.op ≡ b
          → does p around here u.op u.args m u.dst (all_held p around here (at y c n w) v.args) (at y c n w) s
          ≡ does p around here u.op u.args m u.dst (all_held o around here (at x c n w) u.args) (at y c n w) s
      same_held x y c n w s r true e = tags_same u.op e u.args m u.dst _ _ (at y c n w) s
      same_held x y c n w s r false e = ap (λ hs. does p around here u.op u.args m u.dst hs (at y c n w) s)
          (ap (λ as'. all_held p around here (at y c n w) as') pl.args ∙ pl.reads e x y c n w r)

      after_acts : (n : ℕ) (w : Option Message) (s : State) (x : S) (y : T) (c : List MatchContext)
          → pl.before (lk w) x y
          → SetSim n w s
          (does o around here u.op u.args m u.dst (all_held o around here (at x c n w) u.args) (at x c n w) s)
          (does p around here v.op v.args m v.dst (all_held p around here (at y c n w) v.args) (at y c n w) s)
      after_acts n w s x y c r =
          subst (λ z. SetSim n w s (does o around here u.op u.args m u.dst (all_held o around here (at x c n w) u.args)
          (at x c n w) s) z)
          (sym (same_does (all_held p around here (at y c n w) v.args) (at y c n w) s
          ∙ same_held x y c n w s r (names_handler u.op) refl))
          (does_sim pair x y c n w r s u.op pl.kept u.args pl.leaves (all_held o around here (at x c n w) u.args))

      -- and then
      then_sim : (i : ℕ) (j : Option Message) (t : State) (z : After S) (z' : After T)
          (k : Frame S → State → After S) (k' : Frame T → State → After T) → SetSim i j t z z'
          → ((x : S) (y : T) (c : List MatchContext) (n : ℕ) (w : Option Message) (s : State)
          → pl.next (lk w) x y → Out (k (at x c n w) s) (k' (at y c n w) s))
          → Out (go_on z k) (go_on z' k')
      then_sim i j t _ _ k k' (sim_on l q x y c n w s r g) h = h x y c n w s (pl.passes q (lk w) x y r)
      then_sim i j t _ _ k k' (sim_pick b e q f x y c n w s r g) h = out_pick b x y c n w s (pl.picks e q b f
          (lk w) x y r)
      then_sim i j t _ _ k k' (sim_up e c0 r0 x y c n w s r g) h = out_up c0 r0 x y c n w s (pl.rises e x y r)
      then_sim i j t _ _ k k' (sim_over s q g) h = out_over s q
      then_sim i j t _ _ k k' (sim_bad z) h = out_bad (go_on z k')

      set_sim : (z : After S) (z' : After T) (k : Frame S → State → After S) (k' : Frame T → State → After T)
          → Acted pl.before z z'
          → ((x : S) (y : T) (c : List MatchContext) (n : ℕ) (w : Option Message) (s : State)
          → pl.next (lk w) x y → Out (k (at x c n w) s) (k' (at y c n w) s))
          → Out
          (go_on (go_on z λ g t. does o around here u.op u.args m u.dst (all_held o around here g u.args) g t) k)
          (go_on (go_on z' λ g t. does p around here v.op v.args m v.dst (all_held p around here g v.args) g t) k')
      set_sim _ _ k k' (acted x y c n w s r) h = then_sim n w s _ _ k k' (after_acts n w s x y c r) h
      set_sim _ _ k k' (acted_bad z) h = out_bad _

    -- a plan for each set of two chains, and for the actions before their lasts
    module _ (as' bs : List FrameAction) (l l' : Last) where
      pub data Plan : (Bool → S → T → Type 0) → List Set → List Set → Type 1 where
        at_end : (a : Bool → S → T → Type 0) → Acts a at_last as' bs → Plan a [] []
        and_set : (a : Bool → S → T → Type 0) (u v : Set) (us vs : List Set)
            (pl : SetPlan a (mode_of u.dst us as' l) u v) → mode_of v.dst vs bs l' ≡ mode_of u.dst us as' l →
            Plan pl.next us vs → Plan a (u ∷ us) (v ∷ vs)

      ended : (z : After S) (z' : After T) → Acted at_last z z' → Out z z'
      ended _ _ (acted x y c n w s r) = out_on x y c n w s r
      ended _ _ (acted_bad z) = out_bad z

      -- two chains with a plan: what one does the other does
      pub chain_sim : (a : Bool → S → T → Type 0) (us vs : List Set) → Plan a us vs
          → (x : S) (y : T) (c : List MatchContext) (n : ℕ) (w : Option Message) (s : State) → a (lk w) x y →
          Out (chain_does o around here as' l us (at x c n w) s) (chain_does p around here bs l' vs (at y c n w) s)
      chain_sim _ _ _ (at_end a h) x y c n w s r = ended _ _ (h x y c n w s r)
      chain_sim _ _ _ (and_set a u v us vs pl e rest) x y c n w s r =
          subst (λ m. Out (chain_does o around here as' l (u ∷ us) (at x c n w) s)
          (go_on (set_does p around here m v (at y c n w) s) (chain_does p around here bs l' vs))) (sym e)
          (set_sim a (mode_of u.dst us as' l) u v pl _ _ _ _ (pl.acts x y c n w s r)
          (chain_sim pl.next us vs rest))

  module _ (b b' : Body) (arrives : Option Raised → ℕ → ℕ → Bool → S → T → Type 0) (at_last : ℕ → Bool → S → T → Type 0)
      (at_pick : ℕ → Bool → Bool → S → T → Type 0) (rose : ℕ → S → T → Type 0) where
    -- both go on alike wherever a block is arrived at
    abbrev pub GoAlike : ℕ → Go o around here → Go p around here → Type 0
    GoAlike n go go' = (e : Option Raised) (t : ℕ) (x : S) (y : T) (c : List MatchContext) (sv : ℕ) (w : Option Message)
        (s : State) → arrives e n t (lk w) x y → Same (go e n t (at x c sv w) s) (go' e n t (at y c sv w) s)

    -- what is to be shown of one block
    pub record BlockPlan (n : ℕ) (u v : Block) : Type 0 where
      pub enters : (e : Option Raised) (from : ℕ) (x : S) (y : T) (c : List MatchContext) (sv : ℕ) (w : Option Message)
          (s : State) → arrives e from n (lk w) x y →
          Out (at_last n) (at_pick n) (rose n) (entered_by o around here from n u e (at x c sv w) s)
          (entered_by p around here from n v e (at y c sv w) s)
      pub goes : (go : Go o around here) (go' : Go p around here) → GoAlike n go go'
          → (x : S) (y : T) (c : List MatchContext) (sv : ℕ) (w : Option Message) (s : State) → at_last n (lk w) x y →
          Same (leave_next o around here go n u.last (at x c sv w) s)
          (leave_next p around here go' n v.last (at y c sv w) s)
      pub last : v.last ≡ u.last
      pub picks : (d w : Bool) (x : S) (y : T) → at_pick n d w x y → (q t e : ℕ) → u.last ≡ succeeded q t e
          → arrives None n (picked d t e) w x y
      pub handler : (x : S) (y : T) → rose n x y → p.handler y ≡ o.handler x
      pub raises : (x : S) (y : T) → rose n x y → (h : Handler) → o.handler x ≡ Some h → (c : Class) (r : Term)
          → arrives (Some (record { tag = h.tag; class = c; reason = r })) n h.landing false (o.forgets x) (p.forgets y)

    -- a block that is not there, or two with a plan
    pub data BlockMatch (n : ℕ) : Option Block → Option Block → Type 0 where
      no_block : (q : Option Block) → BlockMatch n None q
      both_blocks : (u v : Block) → BlockPlan n u v → BlockMatch n (Some u) (Some v)

    module _ (n : ℕ) (u v : Block) (pl : BlockPlan n u v) (go : Go o around here) (go' : Go p around here)
        (alike : GoAlike n go go') where
      pick_leaves : (d : Bool) (x : S) (y : T) (c : List MatchContext) (sv : ℕ) (w : Option Message) (s : State)
          → at_pick n d (lk w) x y →
          Same (leave_choose o around here go n u.last d (at x c sv w) s)
          (leave_choose p around here go' n v.last d (at y c sv w) s)
      pick_leaves d x y c sv w s r = subst (λ l. Same (leave_choose o around here go n u.last d (at x c sv w) s)
          (leave_choose p around here go' n l d (at y c sv w) s)) (sym pl.last) (by u.last refl)
        where
          by : (l : Last) → u.last ≡ l → Same (leave_choose o around here go n l d (at x c sv w) s)
              (leave_choose p around here go' n l d (at y c sv w) s)
          by (succeeded q t e) i = alike None (picked d t e) x y c sv w s (pl.picks d (lk w) x y r q t e i)
          by (br q t e) i = same_bad _
          by (switch q t cs) i = same_bad _
          by (ret q) i = same_bad _

      up_leaves : (k : Class) (r : Term) (x : S) (y : T) (c : List MatchContext) (sv : ℕ) (w : Option Message)
          (s : State) → rose n x y →
          Same (leave o around here go n u.last (raise k r (at x c sv w) s))
          (leave p around here go' n v.last (raise k r (at y c sv w) s))
      up_leaves k r x y c sv (Some m) s i = same_bad _
      up_leaves k r x y c sv None s i = subst (λ q. Same
          (raised_to o around here (o.handler x) go n k r (at x c sv None) s)
          (raised_to p around here q go' n k r (at y c sv None) s)) (sym (pl.handler x y i)) (by (o.handler x) refl)
        where
          outside : (t : Bool) → Same (if t then Ended.done s (Run.raises k r) else Ended.bad)
              (if t then Ended.done s (Run.raises k r) else Ended.bad)
          outside true = same_done s (Run.raises k r)
          outside false = same_bad Ended.bad

          by : (q : Option Handler) → o.handler x ≡ q → Same (raised_to o around here q go n k r (at x c sv None) s)
              (raised_to p around here q go' n k r (at y c sv None) s)
          by None j = outside (eqb sv 0)
          by (Some h) j = alike (Some (record { tag = h.tag; class = k; reason = r })) h.landing (o.forgets x)
              (p.forgets y) c sv None s (pl.raises x y i h j k r)

      leaves : (z : After S) (z' : After T) → Out (at_last n) (at_pick n) (rose n) z z'
          → Same (leave o around here go n u.last z) (leave p around here go' n v.last z')
      leaves _ _ (out_on x y c sv w s r) = pl.goes go go' alike x y c sv w s r
      leaves _ _ (out_pick d x y c sv w s r) = pick_leaves d x y c sv w s r
      leaves _ _ (out_up k t x y c sv w s r) = up_leaves k t x y c sv w s r
      leaves _ _ (out_over s q) = same_done s q
      leaves _ _ (out_bad z) = same_bad (leave p around here go' n v.last z)

    by_match : (go : Go o around here) (go' : Go p around here) (n : ℕ) → GoAlike n go go'
        → (e : Option Raised) (from : ℕ) (x : S) (y : T) (c : List MatchContext) (sv : ℕ) (w : Option Message)
        (s : State) → arrives e from n (lk w) x y →
        (q : Option Block) (q' : Option Block) → BlockMatch n q q'
        → Same (block_does o around here q go e from n (at x c sv w) s)
        (block_does p around here q' go' e from n (at y c sv w) s)
    by_match go go' n alike e from x y c sv w s r _ _ (no_block q) = same_bad _
    by_match go go' n alike e from x y c sv w s r _ _ (both_blocks u v pl) = leaves n u v pl go go' alike _ _
        (pl.enters e from x y c sv w s r)

    module _ (match : (n : ℕ) → BlockMatch n (block_at b n) (block_at b' n)) where
      -- two runs with a plan for each block: what one gives the other gives, with as many blocks
      pub run_sim : (k : ℕ) (e : Option Raised) (from n : ℕ) (x : S) (y : T) (c : List MatchContext) (sv : ℕ)
          (w : Option Message) (s : State) → arrives e from n (lk w) x y →
          Same (blocks o around here b k e from n (at x c sv w) s) (blocks p around here b' k e from n (at y c sv w) s)
      unfolding blocks
      run_sim zero e from n x y c sv w s r = same_unfinished
      run_sim (suc k) e from n x y c sv w s r = by_match (blocks o around here b k) (blocks p around here b' k) n
          (λ e' t x' y' c' sv' w' s' i. run_sim k e' n t x' y' c' sv' w' s' i) e from x y c sv w s r (block_at b n)
          (block_at b' n) (match n)
