-- How two runs whose variables are alike where the way has set them enter a block: by its phis, or by its landing.
use Rattle.std.proofs.Common.{◌≡◌, ⊎_elim, ℕ, suc, List, [], ◌∷◌, ◌++◌, append_assoc, Bool, true, false, ◌&&◌, Option, Some, None, refl, sym, ap, subst, ◌∙◌, eqb, IsTrue, IsFalse, if◌then◌else◌}
use Rattle.erl_base.specs.Lists.{among}
use Rattle.world_model.specs.World.{Message}
use Rattle.world_model.specs.Run.{State}
use Rattle.step_machine.specs.Bodies.{Here}
use Rattle.step_machine.specs.Frames.{MatchContext}
use Rattle.ssa_form.specs.Ssa as Ssa
use Rattle.ssa_form.specs.Ssa.{Arg, Op, Set, Last, br, succeeded, switch, ret, Phi, Block, Body, block_at}
use Rattle.ssa_form.specs.Storage.{Held, Handler, Frame, Around}
use Rattle.ssa_form.specs.SetFacts.{all_among, none_among, is_try_start}
use Rattle.ssa_form.specs.Flow.{point, phis_at, phi_vars, edge_vars, phi_reads, along_edge, Way, goes, Step}
use Rattle.ssa_form.specs.WellFormed.{WellFormed, tags_in}
use Rattle.ssa_form.specs.SsaRun as Run
use Rattle.ssa_form.specs.SsaRun.{Raised, Vars, in_vars, is_landing, is_catch_end, mode_of, from_edge, if_set, with_phi, arg_held, phi_values, picked, chain_does, lands, landed, first_handler, no_handlers, only_if, without_first, with_handlers, vars_leave, blocks, params_hold, ssa_run}
use Rattle.ssa_form.proofs.OpenHandlers.{some_is, none_is}
use Rattle.ssa_form.proofs.Eases.{and_first}
use Rattle.ssa_form.proofs.BlockSteps.{and_second, lands_op}
use Rattle.ssa_form.proofs.ChainSteps.{From, all_from, tail_from}
use Rattle.ssa_form.proofs.VarLists.{among_append, all_first, all_second, none_first, none_second}
use Rattle.ssa_form.proofs.Moves.{at}
use Rattle.ssa_form.proofs.TwoStorages.{Opt, opt_none, opt_some, writes}
use Rattle.ssa_form.proofs.TwoRuns.{Out, out_bad, chain_sim}
use Rattle.ssa_form.proofs.TwoBlocks.{Puts, Closes, Goes, landed_sim, caught_sim, unlanded_sim, EntryPlan}
use Rattle.ssa_form.proofs.TwinChains.{Alike, Meet, wrote_in, puts_did, drops_did, held_alike, Stand, Chose, Rose, AtLast, stands, plan}

-- what was open where a block is entered, by a raise too
abbrev pub Opened : Option Raised → List Handler → List Handler → Type 0
Opened None hs is' = hs ≡ is'
Opened (Some e) hs is' = (h : Handler) × (hs ≡ h ∷ is')

-- Which sets a raise may land at.

pub data Lands (op : Op) : Type 0 where
  at_landing : op ≡ Ssa.landing → Lands op
  at_catch : op ≡ Ssa.catch_end → Lands op
  elsewhere : is_landing op ≡ false → is_catch_end op ≡ false → Lands op

lands_at : (op : Op) → Lands op
lands_at Ssa.landing = at_landing refl
lands_at Ssa.catch_end = at_catch refl
lands_at op = elsewhere refl refl

module _ (b : Body) where
  -- A block is entered, by an edge or where the body begins.

  pub record Arrives (e : Option Raised) (from n : ℕ) (x y : Vars) : Type 0 where
    pub before : List ℕ
    pub inner : List Handler
    pub opened : Opened e x.handlers inner
    pub way : Way b (point n 0) (phi_vars (phis_at b n) ++ before) inner
    pub handlers : y.handlers ≡ x.handlers
    pub alike : Alike b before x.values y.values
    pub reads : IsTrue (all_among (phi_reads (phis_at b n) from) before)
    pub values : IsTrue (none_among (phi_reads (phis_at b n) from) (tags_in b.blocks))

  abbrev pub Arrive : Option Raised → ℕ → ℕ → Bool → Vars → Vars → Type 0
  Arrive e from n w = Arrives e from n

-- Phis.

abbrev written : List (ℕ × Held) → List ℕ
written [] = []
written (p ∷ ps) = p.0 ∷ written ps

module _ (b : Body) (around : Around) (here : Here) (formed : WellFormed b) where
  phis_written : (ps : List Phi) (from : ℕ) (f : Frame Vars) (rs : List (ℕ × Held))
      → phi_values in_vars around here ps from f ≡ Some rs → written rs ≡ phi_vars ps
  phis_written [] from f rs e = ap written (sym (some_is [] rs e))
  phis_written (a ∷ ps) from f rs e = by_parts (arg_held in_vars around here f (from_edge a.from from))
      (phi_values in_vars around here ps from f) (λ qs p. phis_written ps from f qs p) e
    where
      by_parts : (o : Option Held) (t : Option (List (ℕ × Held)))
          → ((qs : List (ℕ × Held)) → t ≡ Some qs → written qs ≡ phi_vars ps) → with_phi a.dst o t ≡ Some rs
          → written rs ≡ a.dst ∷ phi_vars ps
      by_parts None t h e = absurd (none_is rs e)
      by_parts (Some z) None h e = absurd (none_is rs e)
      by_parts (Some z) (Some qs) h e = ap written (sym (some_is _ rs e)) ∙ ap (λ vs. a.dst ∷ vs) (h qs refl)

  phi_same : (ps : List Phi) (from : ℕ) (vs : List ℕ) (x y : Vars) (c : List MatchContext) (i : ℕ)
      (w : Option Message) → Alike b vs x.values y.values → IsTrue (all_among (phi_reads ps from) vs)
      → IsTrue (none_among (phi_reads ps from) (tags_in b.blocks))
      → phi_values in_vars around here ps from (at y c i w) ≡ phi_values in_vars around here ps from (at x c i w)
  phi_same [] from vs x y c i w h p q = refl
  phi_same (a ∷ ps) from vs x y c i w h p q = λ j. with_phi a.dst
      (by_edge (from_edge a.from from) (all_first (edge_vars (from_edge a.from from)) (phi_reads ps from) vs p)
      (none_first (edge_vars (from_edge a.from from)) (phi_reads ps from) (tags_in b.blocks) q) j)
      (phi_same ps from vs x y c i w h (all_second (edge_vars (from_edge a.from from)) (phi_reads ps from) vs p)
      (none_second (edge_vars (from_edge a.from from)) (phi_reads ps from) (tags_in b.blocks) q) j)
    where
      by_edge : (o : Option Arg) → IsTrue (all_among (edge_vars o) vs)
          → IsTrue (none_among (edge_vars o) (tags_in b.blocks))
          → arg_held in_vars around here (at y c i w) o ≡ arg_held in_vars around here (at x c i w) o
      by_edge None p q = refl
      by_edge (Some z) p q = ap if_set (held_alike b around here x y c i w vs h z p q)

  pub arrives_by : (n m k : ℕ) (hs is' : List Handler) (sets vs : List ℕ) (x y : Vars) (e : Option Raised)
      → Way b (point n k) vs hs → Step b (point n k) hs (point m 0) is' (along_edge b n m sets)
      → Alike b (sets ++ vs) x.values y.values → Opened e x.handlers is' → y.handlers ≡ x.handlers
      → Arrives b e n m x y
  arrives_by n m k hs is' sets vs x y e way step alike opened same = record {
    before = sets ++ vs;
    inner = is';
    opened = opened;
    way = subst (λ ws. Way b (point m 0) ws is') (append_assoc (phi_vars (phis_at b m)) sets vs)
        (goes (point n k) (point m 0) vs hs is' (along_edge b n m sets) way step);
    handlers = same;
    alike = alike;
    reads = formed.edges (point n k) (point m 0) vs hs is' (along_edge b n m sets) way step;
    values = formed.edge_values (point n k) (point m 0) hs is' (along_edge b n m sets) (vs, way) step;
  }

  module _ (n : ℕ) (k : Block) (there : block_at b n ≡ Some k) where
    abbrev S : List Set → ℕ → Vars → Vars → Type 0
    S us i x y = Stand b n k us i x y

    abbrev L : Bool → Vars → Vars → Type 0
    L = AtLast b n

    abbrev P : Bool → Bool → Vars → Vars → Type 0
    P v w = Chose b n v

    abbrev U : Vars → Vars → Type 0
    U = Rose b n

    phis_are : phis_at b n ≡ k.phis
    phis_are = ap (λ o. elim o as (λ z. List Phi) [ None ↦ [] | Some y ↦ y.phis ]) there

    any_stand : (us : List Set) (x y : Vars) → Meet b (point n 0) x y → S us 0 x y
    any_stand [] x y r = λ t. r
    any_stand (u ∷ us) x y r = r

    -- Landings.

    -- where a raise lands: one handler more is open
    pub record Falls (x y : Vars) : Type 0 where
      pub first : Handler
      pub inner : List Handler
      pub opened : x.handlers ≡ first ∷ inner
      pub vars : List ℕ
      pub way : Way b (point n 0) vars inner
      pub handlers : y.handlers ≡ x.handlers
      pub alike : Alike b vars x.values y.values

    falls_close : (v : ℕ) → Closes in_vars in_vars around here L P U Falls v (Meet b (point n 0))
    falls_close v x y r = subst
        (λ hs. Opt (Meet b (point n 0)) (with_handlers x (without_first v hs)) (with_handlers y
        (without_first v y.handlers)))
        (sym r.opened) (subst (λ hs. Opt (Meet b (point n 0)) (with_handlers x (without_first v (r.first ∷ r.inner)))
        (with_handlers y (without_first v hs))) (sym (r.handlers ∙ r.opened)) (by (eqb r.first.tag v)))
      where
        by : (t : Bool) → Opt (Meet b (point n 0)) (with_handlers x (if t then Some r.inner else None))
            (with_handlers y (if t then Some r.inner else None))
        by true = opt_some (record x { handlers = r.inner }) (record y { handlers = r.inner })
            (record { vars = r.vars; way = r.way; handlers = refl; alike = r.alike })
        by false = opt_none None

    -- a set is done that writes its variable
    puts_stand : (u : Set) (us : List Set) (i : ℕ) → From b n k there (u ∷ us) i → IsTrue (writes u.op)
        → IsFalse (is_try_start u.op) → (d : Option ℕ) → u.dst ≡ d
        → Puts in_vars in_vars around here (Meet b (point n i)) d (S us (suc i))
    puts_stand u us i from t e None q = λ x y r. stands b around here formed n k there u us i from true x y e
        (λ f. absurd cc) (drops_did b (point n i) u _ x y q t r)
    puts_stand u us i from t e (Some v) q = λ h x y r. opt_some (wrote_in b v h x) (wrote_in b v h y)
        (stands b around here formed n k there u us i from true (wrote_in b v h x) (wrote_in b v h y) e
        (λ f. absurd cc) (puts_did b (point n i) u _ v h x y q t r))

    -- the sets from one of them on
    chain_out : (us : List Set) (i : ℕ) → From b n k there us i → (x y : Vars) (c : List MatchContext) (j : ℕ)
        (w : Option Message) (s : State) → S us i x y
        → Out in_vars in_vars around here L P U (chain_does in_vars around here k.before k.last us (at x c j w) s)
        (chain_does in_vars around here k.before k.last us (at y c j w) s)
    chain_out us i from = chain_sim in_vars in_vars around here L P U k.before k.before k.last k.last
        (λ w. S us i) us us
        (plan b around here formed n k there us i from (λ w. S us i) (λ w x y r. r))

    goes_on : (us : List Set) (i : ℕ) → From b n k there us i
        → Goes in_vars in_vars around here L P U (S us i) (chain_does in_vars around here k.before k.last us)
        (chain_does in_vars around here k.before k.last us)
    goes_on us i from x y c j s r = chain_out us i from x y c j None s r

    writes_landing : (op : Op) → IsTrue (is_landing op) → IsTrue (writes op) × IsFalse (is_try_start op)
    writes_landing Ssa.landing e = (refl, refl)
    writes_landing op e = absurd cc

    abbrev Landed : Raised → List Set → Vars → Vars → List MatchContext → ℕ → Option Message → State → Type 0
    Landed e us x y c i w s = Out in_vars in_vars around here L P U
        (landed in_vars around here k.before k.last us e (at x c i w) s)
        (landed in_vars around here k.before k.last us e (at y c i w) s)

    three_put : (e : Raised) (a d f : Set) (us : List Set) → From b n k there (a ∷ d ∷ f ∷ us) 0
        → IsTrue (lands e.tag a && lands e.tag d && lands e.tag f)
        → Puts in_vars in_vars around here (Meet b (point n 0)) a.dst (Meet b (point n 1))
        × Puts in_vars in_vars around here (Meet b (point n 1)) d.dst (Meet b (point n 2))
        × Puts in_vars in_vars around here (Meet b (point n 2)) f.dst (S us 3)
    three_put e a d f us from t =
        let from1 : From b n k there (d ∷ f ∷ us) 1 = tail_from b n k there a (d ∷ f ∷ us) 0 from in
        let from2 : From b n k there (f ∷ us) 2 = tail_from b n k there d (f ∷ us) 1 from1 in
        let ta : IsTrue (writes a.op) × IsFalse (is_try_start a.op) =
        writes_landing a.op (lands_op e.tag a (and_first _ _ (and_first _ _ t))) in
        let td : IsTrue (writes d.op) × IsFalse (is_try_start d.op) =
        writes_landing d.op (lands_op e.tag d (and_second _ _ (and_first _ _ t))) in
        let tf : IsTrue (writes f.op) × IsFalse (is_try_start f.op) =
        writes_landing f.op (lands_op e.tag f (and_second _ _ t)) in (
          puts_stand a (d ∷ f ∷ us) 0 from ta.0 ta.1 a.dst refl,
          puts_stand d (f ∷ us) 1 from1 td.0 td.1 d.dst refl,
          puts_stand f us 2 from2 tf.0 tf.1 f.dst refl,
        )

    landed_out : (us : List Set) → From b n k there us 0 → (e : Raised) (x y : Vars) (c : List MatchContext) (i : ℕ)
        (w : Option Message) (s : State) → Falls x y → Landed e us x y c i w s
    landed_out [] from e x y c i w s r = out_bad _
    landed_out (a ∷ us) from e x y c i w s r = by (lands_at a.op) us from
      where
        by : Lands a.op → (us : List Set) → From b n k there (a ∷ us) 0 → Landed e (a ∷ us) x y c i w s
        by (at_landing q) (d ∷ f ∷ us) from = landed_sim in_vars in_vars around here L P U e a d f q k.before k.before
            k.last k.last us us Falls (Meet b (point n 0)) (Meet b (point n 1)) (Meet b (point n 2)) (S us 3)
            (falls_close e.tag) (three_put e a d f us from)
            (goes_on us 3 (tail_from b n k there f us 2 (tail_from b n k there d (f ∷ us) 1
            (tail_from b n k there a (d ∷ f ∷ us) 0 from)))) x y c i w s (λ v. r)
        by (at_landing q) [] from = unlanded_sim in_vars in_vars around here L P U e a [] (ap is_catch_end q)
            (λ d f vs z. absurd cc) k.before k.last (at x c i w) s _
        by (at_landing q) (d ∷ []) from = unlanded_sim in_vars in_vars around here L P U e a (d ∷ [])
            (ap is_catch_end q)
            (λ d f vs z. absurd cc) k.before k.last (at x c i w) s _
        by (at_catch q) us from = caught_sim in_vars in_vars around here L P U e a q k.before k.before k.last k.last us
            us Falls (Meet b (point n 0)) (S us 1) (falls_close e.tag)
            (puts_stand a us 0 from (ap writes q) (ap is_try_start q) a.dst refl)
            (goes_on us 1 (tail_from b n k there a us 0 from)) x y c i w s (λ v. r)
        by (elsewhere f g) us from = unlanded_sim in_vars in_vars around here L P U e a us g (λ d h vs z. f) k.before
            k.last (at x c i w) s _

    -- Entries: phis are written one after the other, and these are left.
    pub record Left (e : Option Raised) (hs : List (ℕ × Held)) (x y : Vars) : Type 0 where
      pub before : List ℕ
      pub inner : List Handler
      pub opened : Opened e x.handlers inner
      pub way : Way b (point n 0) (phi_vars (phis_at b n) ++ before) inner
      pub handlers : y.handlers ≡ x.handlers
      pub alike : (v : ℕ) → IsTrue (among v (phi_vars (phis_at b n) ++ before)) → IsFalse (among v (written hs))
          → IsFalse (among v (tags_in b.blocks)) → x.values v ≡ y.values v

    all_left : (e : Option Raised) (from : ℕ) (x y : Vars) (hs : List (ℕ × Held))
        → written hs ≡ phi_vars (phis_at b n) → Arrives b e from n x y → Left e hs x y
    all_left e from x y hs q r = record {
      before = r.before;
      inner = r.inner;
      opened = r.opened;
      way = r.way;
      handlers = r.handlers;
      alike = λ v i f t. ⊎_elim
          (λ j. let g : among v (written hs) ≡ true = subst (λ vs. IsTrue (among v vs)) (sym q) j in
          let z : true ≡ false = sym g ∙ f in absurd cc)
          (λ j. r.alike v j t) (among_append v (phi_vars (phis_at b n)) r.before i);
    }

    one_left : (e : Option Raised) (d : ℕ) (h : Held) (hs : List (ℕ × Held)) (x y : Vars) → Left e ((d, h) ∷ hs) x y
        → Left e hs (wrote_in b d h x) (wrote_in b d h y)
    one_left e d h hs x y r = record {
      before = r.before;
      inner = r.inner;
      opened = r.opened;
      way = r.way;
      handlers = r.handlers;
      alike = λ v i f t. by v (eqb v d) refl i f t;
    }
      where
        by : (v : ℕ) (z : Bool) → eqb v d ≡ z → IsTrue (among v (phi_vars (phis_at b n) ++ r.before))
            → IsFalse (among v (written hs)) → IsFalse (among v (tags_in b.blocks))
            → (if z then h else x.values v) ≡ (if z then h else y.values v)
        by v true q i f t = refl
        by v false q i f t = r.alike v i (simp (q, f) refl) t

    left_meet : (x y : Vars) → Left None [] x y → Meet b (point n 0) x y
    left_meet x y r = record {
      vars = phi_vars (phis_at b n) ++ r.before;
      way = subst (Way b (point n 0) (phi_vars (phis_at b n) ++ r.before)) (sym r.opened) r.way;
      handlers = r.handlers;
      alike = λ v i t. r.alike v i refl t;
    }

    left_falls : (e : Raised) (x y : Vars) → Left (Some e) [] x y → Falls x y
    left_falls e x y r = record {
      first = r.opened.0;
      inner = r.inner;
      opened = r.opened.1;
      vars = phi_vars (phis_at b n) ++ r.before;
      way = r.way;
      handlers = r.handlers;
      alike = λ v i t. r.alike v i refl t;
    }

    begins_out : (e : Option Raised) (x y : Vars) (c : List MatchContext) (i : ℕ) (w : Option Message) (s : State)
        → Left e [] x y
        → Out in_vars in_vars around here L P U (Run.begins in_vars around here k e (at x c i w) s)
        (Run.begins in_vars around here k e (at y c i w) s)
    begins_out None x y c i w s r =
        chain_out k.chain 0 (all_from b n k there) x y c i w s (any_stand k.chain x y (left_meet x y r))
    begins_out (Some e) x y c i w s r =
        landed_out k.chain (all_from b n k there) e x y c i w s (left_falls e x y r)

    pub entry_plan : (e : Option Raised) (from : ℕ)
        → EntryPlan in_vars in_vars around here L P U from n k k e (Arrive b e from n)
    entry_plan e from = record {
      inside = Arrive b e from n;
      left = λ hs w. Left e hs;
      phis = refl;
      arrives = λ w x y r. opt_some x y r;
      reads = λ x y c i w r. phi_same k.phis from r.before x y c i w r.alike
          (subst (λ ps. IsTrue (all_among (phi_reads ps from) r.before)) phis_are r.reads)
          (subst (λ ps. IsTrue (none_among (phi_reads ps from) (tags_in b.blocks))) phis_are r.values);
      starts = λ x y c i w r hs q. all_left e from x y hs
          (phis_written k.phis from (at x c i w) hs q ∙ ap phi_vars (sym phis_are)) r;
      each = λ d h hs w x y r. opt_some (wrote_in b d h x) (wrote_in b d h y) (one_left e d h hs x y r);
      goes_on = λ x y c i w s r. begins_out e x y c i w s r;
    }
