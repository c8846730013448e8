-- Two runs of a well-formed body whose variables are alike where the way has set them: they end alike. Each of the two
-- is a run that the other follows, by the induction over runs of two storages.
use Rattle.std.proofs.Common.{◌≡◌, ℕ, List, [], ◌∷◌, ◌++◌, length, Contains, Bool, true, false, Option, Some, None, refl, sym, ap, subst, ◌∙◌, arith, eqb, IsTrue, if◌then◌else◌}
use Rattle.std.proofs.lemmas.Bool.{eq-eqb}
use Rattle.erl_base.specs.Lists.{among}
use Rattle.erl_term.specs.Term.{Term, Class}
use Rattle.world_model.specs.World.{Message}
use Rattle.world_model.specs.Run.{State}
use Rattle.step_machine.specs.Bodies.{Here}
use Rattle.step_machine.specs.Frames.{MatchContext}
use Rattle.ssa_form.specs.Ssa.{Arg, Last, br, succeeded, switch, ret, Block, Body, block_at}
use Rattle.ssa_form.specs.Storage.{Held, Handler, ends_body, Ended, Around}
use Rattle.ssa_form.specs.SetFacts.{arg_vars, given_vars, all_among, none_among}
use Rattle.ssa_form.specs.Flow.{point, set_at, last_in, last_at, last_of, targets, phi_vars, phi_reads, Way, begins, leads, succeeds, fails, raises}
use Rattle.ssa_form.specs.Liveness.{set_vars, end_vars, last_vars, value_vars}
use Rattle.ssa_form.specs.WellFormed.{WellFormed, tests_nothing, tags_in}
use Rattle.ssa_form.specs.Operations.{held}
use Rattle.ssa_form.specs.RunLaws.{beside_params, UnsetIsNeverSeen}
use Rattle.ssa_form.specs.SsaRun.{Vars, in_vars, picked, first_handler, no_handlers, only_if, vars_leave, blocks, params_hold, ssa_run}
use Rattle.ssa_form.proofs.OpenHandlers.{some_is, none_is}
use Rattle.ssa_form.proofs.VarLists.{all_second, none_second}
use Rattle.ssa_form.proofs.Moves.{at}
use Rattle.ssa_form.proofs.TwoStorages.{Opt, opt_none, opt_some, lk}
use Rattle.ssa_form.proofs.TwoRuns.{Same, same_done, same_bad, same_unfinished, BlockPlan, BlockMatch, no_block, both_blocks, run_sim}
use Rattle.ssa_form.proofs.TwoBlocks.{read_by, gives_back, LastPlan, last_sim, entry_sim}
use Rattle.ssa_form.proofs.TwinChains.{Alike, Meet, held_alike, long, Chose, Rose, AtLast}
use Rattle.ssa_form.proofs.TwinEntries.{Arrives, Arrive, arrives_by, entry_plan}

-- Lasts.

read_tests : (l : Last) (a : Arg) → read_by l ≡ Some a
    → IsTrue (tests_nothing (Some l)) × (last_vars l ≡ arg_vars (a ∷ []))
read_tests (br z t e) a h = (refl, ap (λ x. arg_vars (x ∷ [])) (some_is z a h))
read_tests (succeeded v t e) a h = absurd (none_is a h)
read_tests (switch z d cs) a h = (refl, ap (λ x. arg_vars (x ∷ [])) (some_is z a h))
read_tests (ret z) a h = (refl, ap (λ x. arg_vars (x ∷ [])) (some_is z a h))

target_tests : (l : Last) (t : ℕ) → Contains (targets l) t → IsTrue (tests_nothing (Some l))
target_tests (br z p e) t h = refl
target_tests (succeeded v p e) t (k, l, i) = absurd (omega (arith, l))
target_tests (switch z d cs) t h = refl
target_tests (ret z) t h = refl

back_tests : (l : Last) → IsTrue (gives_back l) → IsTrue (tests_nothing (Some l))
back_tests (br z p e) h = absurd cc
back_tests (succeeded v p e) h = absurd cc
back_tests (switch z d cs) h = absurd cc
back_tests (ret z) h = refl

module _ (b : Body) (around : Around) (here : Here) (formed : WellFormed b) where
  module _ (n : ℕ) (k : Block) (there : block_at b n ≡ Some k) where
    abbrev L : Bool → Vars → Vars → Type 0
    L = AtLast b n

    abbrev P : Bool → Bool → Vars → Vars → Type 0
    P v w = Chose b n v

    abbrev U : Vars → Vars → Type 0
    U = Rose b n

    last_there : last_of (block_at b n) ≡ Some k.last
    last_there = ap last_of there

    last_is : last_at b (point n (length k.chain)) ≡ Some k.last
    last_is = ap (λ y. last_in y (length k.chain)) there
        ∙ at_end (eqb (length k.chain) (length k.chain)) (eq-eqb _ _ refl)
      where
        at_end : (t : Bool) → t ≡ true → (if t then Some k.last else None) ≡ Some k.last
        at_end true e = refl
        at_end false e = absurd cc

    -- behind all sets
    last_meet : (w : Bool) (x y : Vars) → IsTrue (tests_nothing (Some k.last)) → L w x y
        → Meet b (point n (length k.chain)) x y
    last_meet w x y t r = subst (λ o. Meet b (point n (long b o)) x y) there
        (r (subst (λ o. IsTrue (tests_nothing o)) (sym last_there) t))

    last_reads : (a : Arg) → read_by k.last ≡ Some a → (x y : Vars) (c : List MatchContext) (i : ℕ)
        (w : Option Message) → Meet b (point n (length k.chain)) x y
        → held in_vars around here (at y c i w) a ≡ held in_vars around here (at x c i w) a
    last_reads a q x y c i w r = held_alike b around here x y c i w r.vars r.alike a
        (subst (λ vs. IsTrue (all_among vs r.vars)) (read_tests k.last a q).1
        (subst (λ o. IsTrue (all_among (end_vars o) r.vars)) last_is
        (all_second (set_vars (set_at b (point n (length k.chain))))
        (end_vars (last_at b (point n (length k.chain)))) r.vars
        (formed.available (point n (length k.chain)) r.vars x.handlers r.way))))
        (subst (λ vs. IsTrue (none_among vs (tags_in b.blocks))) (read_tests k.last a q).1
        (subst (λ o. IsTrue (none_among (end_vars o) (tags_in b.blocks))) last_is
        (none_second (value_vars (set_at b (point n (length k.chain))))
        (end_vars (last_at b (point n (length k.chain)))) (tags_in b.blocks)
        (formed.values (point n (length k.chain)) x.handlers (r.vars, r.way)))))

    last_leads : (t : ℕ) → Contains (targets k.last) t → (x y : Vars) → Meet b (point n (length k.chain)) x y
        → Arrives b None n t x y
    last_leads t q x y r = arrives_by b around here formed n t (length k.chain) x.handlers x.handlers [] r.vars x y None
        r.way (leads (point n (length k.chain)) x.handlers k.last t last_is q) r.alike refl r.handlers

    leave_both : (x y : Vars) → y.handlers ≡ x.handlers
        → Opt (λ a z. Unit {0}) (vars_leave ends_body x) (vars_leave ends_body y)
    leave_both x y e = subst
        (λ hs. Opt (λ a z. Unit {0}) (only_if (no_handlers x.handlers) x) (only_if (no_handlers hs) y)) (sym e)
        (by (no_handlers x.handlers))
      where
        by : (t : Bool) → Opt (λ a z. Unit {0}) (only_if t x) (only_if t y)
        by true = opt_some x y tt
        by false = opt_none None

    last_plan : LastPlan in_vars in_vars around here (Arrive b) n k.last L
    last_plan = record {
      reads = λ a q x y c i w r.
          last_reads a q x y c i w (last_meet (lk w) x y (read_tests k.last a q).0 r);
      leads = λ t q w x y r. last_leads t q x y (last_meet w x y (target_tests k.last t q) r);
      ends = λ g x y r. let m : Meet b (point n (length k.chain)) x y =
          last_meet false x y (back_tests k.last g) r in leave_both x y m.handlers;
    }

    -- A set that is tested chooses, or a set raises.

    picks_arrive : (d : Bool) (x y : Vars) → (r : Chose b n d x y)
        → Arrives b None n (picked d r.holds r.tested) x y
    picks_arrive true x y r = arrives_by b around here formed n r.holds r.at r.before _ (given_vars r.by) r.vars x y
        None r.way
        (succeeds (point n r.at) r.before r.by r.var r.holds r.tested r.is_there r.last) r.alike r.now r.handlers
    picks_arrive false x y r = arrives_by b around here formed n r.tested r.at r.before _ [] r.vars x y None r.way
        (fails (point n r.at) r.before r.by r.tested r.is_there (r.starts refl)) r.alike r.now r.handlers

    pick_there : (d : Bool) (x y : Vars) → (r : Chose b n d x y) → (q t e : ℕ)
        → k.last ≡ succeeded q t e → Arrives b None n (picked d t e) x y
    pick_there d x y r q t e i = let z : succeeded r.var r.holds r.tested ≡ succeeded q t e =
        some_is _ _ (sym r.last ∙ last_there ∙ ap (λ l. Some l) i) in
        let f : r.holds ≡ t = cc in
        let g : r.tested ≡ e = cc in
        subst (λ m. Arrives b None n m x y) (λ j. picked d (f j) (g j)) (picks_arrive d x y r)

    first_is : (h : Handler) (hs : List Handler) → first_handler hs ≡ Some h → (is' : List Handler) × (hs ≡ h ∷ is')
    first_is h [] e = absurd cc
    first_is h (z ∷ zs) e = (zs, ap (λ x. x ∷ zs) (some_is z h e))

    rises_to : (x y : Vars) → (r : Rose b n x y) → (h : Handler)
        → first_handler x.handlers ≡ Some h → (q : Class) (t : Term)
        → Arrives b (Some (record { tag = h.tag; class = q; reason = t })) n h.landing x y
    rises_to x y r h e q t = let z : (is' : List Handler) × (x.handlers ≡ h ∷ is') = first_is h x.handlers e in
        arrives_by b around here formed n h.landing r.at (h ∷ z.0) z.0 [] r.meet.vars x y
        (Some (record { tag = h.tag; class = q; reason = t }))
        (subst (Way b (point n r.at) r.meet.vars) z.1 r.meet.way)
        (raises (point n r.at) h z.0 r.by r.mode r.is_there r.may) r.meet.alike (h, z.1) r.meet.handlers

    block_plan : BlockPlan in_vars in_vars around here b b (Arrive b) (AtLast b) (λ m v w. Chose b m v) (Rose b) n k k
    block_plan = record {
      enters = λ e from x y c sv w s r.
          entry_sim in_vars in_vars around here L P U from n k k e (Arrive b e from n)
          (entry_plan b around here formed n k there e from) x y c sv w s r;
      goes = λ go go' alike x y c sv w s r.
          last_sim in_vars in_vars around here (Arrive b) n k.last L last_plan go go' alike x y c sv w s r;
      last = refl;
      picks = λ d w x y r q t e i. pick_there d x y r q t e i;
      handler = λ x y r. ap first_handler r.meet.handlers;
      raises = λ x y r h e q t. rises_to x y r h e q t;
    }

  abbrev Matches : ℕ → Option Block → Option Block → Type 0
  Matches n o q = BlockMatch in_vars in_vars around here b b (Arrive b) (AtLast b) (λ m v w. Chose b m v) (Rose b) n o q

  blocks_match : (n : ℕ) → Matches n (block_at b n) (block_at b n)
  blocks_match n = by (block_at b n) refl
    where
      by : (o : Option Block) → block_at b n ≡ o → Matches n o o
      by None e = no_block None
      by (Some k) e = both_blocks k k (block_plan n k e)

  -- one follows the other
  follows_so : (k : ℕ) (X Y : ℕ → Held) (c : List MatchContext) (s : State) → Alike b b.params X Y
      → Same (blocks in_vars around here b k None 0 0 (at (record { values = X; handlers = [] }) c 0 None) s)
      (blocks in_vars around here b k None 0 0 (at (record { values = Y; handlers = [] }) c 0 None) s)
  follows_so k X Y c s h = run_sim in_vars in_vars around here b b (Arrive b) (AtLast b)
      (λ m v w. Chose b m v) (Rose b) blocks_match k None 0 0
      (record { values = X; handlers = [] }) (record { values = Y; handlers = [] }) c 0 None s (record {
        before = b.params;
        inner = [];
        opened = refl;
        way = subst (λ ps. Way b (point 0 0) (phi_vars ps ++ b.params) []) (sym formed.no_phis) begins;
        handlers = refl;
        alike = h;
        reads = subst (λ ps. IsTrue (all_among (phi_reads ps 0) b.params)) (sym formed.no_phis) refl;
        values = subst (λ ps. IsTrue (none_among (phi_reads ps 0) (tags_in b.blocks))) (sym formed.no_phis) refl;
      })

-- two runs of which each follows the other
both_ways : (a z : Ended) → Same a z → Same z a → a ≡ z
both_ways _ _ (same_done s q) h = refl
both_ways _ _ same_unfinished h = refl
both_ways _ _ (same_bad z) h = sym (bad_too z h)
  where
    bad_too : (z : Ended) → Same z Ended.bad → z ≡ Ended.bad
    bad_too _ (same_bad y) = refl

param_alike : (ps : List ℕ) (hs : List Held) (w : ℕ → Held) (v : ℕ) → IsTrue (among v ps)
    → beside_params ps hs w v ≡ params_hold ps hs v
param_alike ps hs w v e = ap (λ t. if t then params_hold ps hs v else w v) e

pub unset_is_never_seen : UnsetIsNeverSeen
unfolding ssa_run
unset_is_never_seen around here b k hs cs s w formed = both_ways _ _
    (follows_so b around here formed k (beside_params b.params hs w) (params_hold b.params hs) cs s
    (λ v m t. param_alike b.params hs w v m))
    (follows_so b around here formed k (params_hold b.params hs) (beside_params b.params hs w) cs s
    (λ v m t. sym (param_alike b.params hs w v m)))
