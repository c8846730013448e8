-- Two runs of a chain whose variables are alike where the way has set them: they do the same. The storages of one body
-- beside themselves, as the induction over chains wants them.
use Rattle.std.proofs.Common.{◌≡◌, ⊎_elim, ℕ, suc, ◌+◌, List, [], ◌∷◌, ◌++◌, length, Bool, true, false, ◌&&◌, Option, Some, None, refl, sym, ap, subst, ◌∙◌, arith, eqb, IsTrue, IsFalse, if◌then◌else◌}
use Rattle.std.proofs.lemmas.Bool.{eq-eqb}
use Rattle.erl_base.specs.Lists.{among}
use Rattle.world_model.specs.World.{Message}
use Rattle.step_machine.specs.Bodies.{Here}
use Rattle.step_machine.specs.Frames.{MatchContext}
use Rattle.ssa_form.specs.Ssa as Ssa
use Rattle.ssa_form.specs.Ssa.{Arg, var, lit, FrameAction, Set, succeeded, Block, Body, block_at}
use Rattle.ssa_form.specs.Storage.{Held, term, Handler, Leaving, calls, ends_body, always_raises, Mode, tests, Around}
use Rattle.ssa_form.specs.SetFacts.{arg_vars, given_vars, all_among, none_among, names_handler, may_raise, is_tests, is_try_start}
use Rattle.ssa_form.specs.Flow.{Point, point, next, set_at, last_at, last_of, setting, Way, goes, passes}
use Rattle.ssa_form.specs.Liveness.{set_vars, end_vars, value_vars}
use Rattle.ssa_form.specs.WellFormed.{WellFormed, tests_nothing, tags_in}
use Rattle.ssa_form.specs.Operations.{held, all_held}
use Rattle.ssa_form.specs.SsaRun.{Vars, in_vars, mode_of, vars_leave, no_handlers, only_if, without_first, with_handlers}
use Rattle.ssa_form.proofs.OpenHandlers.{some_is, none_is, vars_close}
use Rattle.ssa_form.proofs.OpSteps.{picked_handlers, left_open, left_steady, left_started, left_ended, left_after, left_picked, writes_steady, tested_at, not_start}
use Rattle.ssa_form.proofs.ChainSteps.{Tested, tested_by, untested, From, tail_from, head_there}
use Rattle.ssa_form.proofs.VarLists.{and_both, not_true, among_append, all_first, none_first, given_dst, unwritten_tag}
use Rattle.ssa_form.proofs.Moves.{at}
use Rattle.ssa_form.proofs.TwoStorages.{Opt, opt_none, opt_some, lk, is_try_end, writes, Two, traits, left_so, Keeps}
use Rattle.ssa_form.proofs.TwoRuns.{Acts, acted, acted_bad, SetPlan, Plan, at_end, and_set}

-- alike where the way has set them, tags aside
abbrev pub Alike : Body → List ℕ → (ℕ → Held) → (ℕ → Held) → Type 0
Alike b vs X Y = (v : ℕ) → IsTrue (among v vs) → IsFalse (among v (tags_in b.blocks)) → X v ≡ Y v

module _ (b : Body) where
  -- both stand at this point, by one way
  pub record Meet (p : Point) (x y : Vars) : Type 0 where
    pub vars : List ℕ
    pub way : Way b p vars x.handlers
    pub handlers : y.handlers ≡ x.handlers
    pub alike : Alike b vars x.values y.values

  -- both have done this set, which stands at this point; told whether it gave its variable a value
  pub record Did (p : Point) (u : Set) (m : Mode) (wrote : Bool) (x y : Vars) : Type 0 where
    pub vars : List ℕ
    pub before : List Handler
    pub way : Way b p vars before
    pub now : x.handlers ≡ left_open u.op m u.dst before
    pub handlers : y.handlers ≡ x.handlers
    pub alike : Alike b (if wrote then given_vars u ++ vars else vars) x.values y.values

  -- with this value in one variable
  abbrev pub wrote_in : ℕ → Held → Vars → Vars
  wrote_in v h x = record x { values = λ z. if eqb z v then h else x.values z }

  -- What the set leaves.

  module _ (p : Point) (u : Set) (m : Mode) where
    no_handler : IsTrue (writes u.op) → (hs : List Handler) → hs ≡ left_open u.op m u.dst hs
    no_handler t hs = let z : IsFalse (is_try_start u.op) × IsFalse (is_try_end u.op) = writes_steady u.op t
        in sym (left_steady u.op m u.dst hs z.0 z.1)

    pub puts_did : (v : ℕ) (h : Held) (x y : Vars) → u.dst ≡ Some v → IsTrue (writes u.op) → Meet p x y
        → Did p u m true (wrote_in v h x) (wrote_in v h y)
    puts_did v h x y d t r = record {
      vars = r.vars;
      before = x.handlers;
      way = r.way;
      now = no_handler t x.handlers;
      handlers = r.handlers;
      alike = λ z i f. by_var z (eqb z v) refl i f;
    }
      where
        same : (z : ℕ) → u.dst ≡ Some z → z ≡ v
        same z e = some_is z v (sym e ∙ d)

        by_var : (z : ℕ) (k : Bool) → eqb z v ≡ k → IsTrue (among z (given_vars u ++ r.vars))
            → IsFalse (among z (tags_in b.blocks))
            → (if k then h else x.values z) ≡ (if k then h else y.values z)
        by_var z true e i f = refl
        by_var z false e i f = ⊎_elim
            (λ j. let q : eqb z v ≡ true = eq-eqb z v (same z (given_dst u z j)) in
            let g : false ≡ true = sym e ∙ q in absurd cc)
            (λ j. r.alike z j f) (among_append z (given_vars u) r.vars i)

    pub drops_did : (x y : Vars) → u.dst ≡ None → IsTrue (writes u.op) → Meet p x y → Did p u m true x y
    drops_did x y d t r = record {
      vars = r.vars;
      before = x.handlers;
      way = r.way;
      now = no_handler t x.handlers;
      handlers = r.handlers;
      alike = λ z i f. ⊎_elim (λ j. absurd (none_is z (sym d ∙ given_dst u z j))) (λ j. r.alike z j f)
          (among_append z (given_vars u) r.vars i);
    }

    stays_did : (x y : Vars) → IsFalse (is_try_start u.op) → IsFalse (is_try_end u.op) → Meet p x y
        → Did p u m false x y
    stays_did x y e f r = record {
      vars = r.vars;
      before = x.handlers;
      way = r.way;
      now = sym (left_steady u.op m u.dst x.handlers e f);
      handlers = r.handlers;
      alike = r.alike;
    }

    leave_meet : (l : Leaving) (x y : Vars) → Meet p x y → Opt (left_so (Meet p) l) (vars_leave l x) (vars_leave l y)
    leave_meet calls x y r = opt_some x y r
    leave_meet always_raises x y r = opt_some x y r
    leave_meet ends_body x y r = subst
        (λ hs. Opt (left_so (Meet p) ends_body) (only_if (no_handlers x.handlers) x) (only_if (no_handlers hs) y))
        (sym r.handlers) (by (no_handlers x.handlers))
      where
        by : (t : Bool) → Opt (left_so (Meet p) ends_body) (only_if t x) (only_if t y)
        by true = opt_some x y tt
        by false = opt_none None

    opens_did : (h : Handler) (x y : Vars) → IsTrue (is_try_start u.op) → u.dst ≡ Some h.tag → m ≡ tests h.landing
        → Meet p x y
        → Did p u m false (record x { handlers = h ∷ x.handlers }) (record y { handlers = h ∷ y.handlers })
    opens_did h x y t d e r = record {
      vars = r.vars;
      before = x.handlers;
      way = r.way;
      now = left_started u.op m u.dst x.handlers h t d e;
      handlers = ap (λ hs. h ∷ hs) r.handlers;
      alike = r.alike;
    }

    closes_did : (v : ℕ) (x y : Vars) → IsTrue (is_try_end u.op) → Meet p x y
        → Opt (Did p u m false) (with_handlers x (without_first v x.handlers))
        (with_handlers y (without_first v y.handlers))
    closes_did v x y t r = subst (λ hs. Opt (Did p u m false) (with_handlers x (without_first v x.handlers))
        (with_handlers y (without_first v hs))) (sym r.handlers)
        (by (without_first v x.handlers) (λ z e. vars_close v x.handlers x z e))
      where
        by : (o : Option (List Handler))
            → ((z : Vars) → with_handlers x o ≡ Some z → (h : Handler) × (x.handlers ≡ h ∷ z.handlers))
            → Opt (Did p u m false) (with_handlers x o) (with_handlers y o)
        by None f = opt_none None
        by (Some hs) f = opt_some (record x { handlers = hs }) (record y { handlers = hs }) (let
            c : (h : Handler) × (x.handlers ≡ h ∷ hs) = f (record x { handlers = hs }) refl in record {
              vars = r.vars;
              before = x.handlers;
              way = r.way;
              now = left_ended u.op m u.dst x.handlers hs c.0 t c.1;
              handlers = refl;
              alike = r.alike;
            })

    abbrev pub vars_two : Around → Here → Two Vars Vars
    vars_two around here = record {
      o = in_vars;
      p = in_vars;
      around = around;
      here = here;
      ok = λ l. Unit {0};
      mode = m;
      dst = u.dst;
      before = λ w. Meet p;
      cleared = Meet p;
      done = λ d w. Did p u m d;
      rose = Meet p;
    }

    vars_keep : (around : Around) (here : Here) → Keeps (vars_two around here) (traits m u.op)
    vars_keep around here = record {
      collects = λ w x y r. opt_some x y r;
      leaves = λ l i x y r. leave_meet l x y r;
      forgets = λ t w x y r. r;
      puts = λ t w v h d x y r. opt_some _ _ (puts_did v h x y d t r);
      puts_cleared = λ t v h d x y r. opt_some _ _ (puts_did v h x y d t r);
      drops = λ t w d x y r. drops_did x y d t r;
      drops_cleared = λ t d x y r. drops_did x y d t r;
      stays = λ z w x y r. stays_did x y z.opens z.closes r;
      stays_cleared = λ z x y r. stays_did x y z.opens z.closes r;
      rises = λ w x y r. r;
      rises_cleared = λ x y r. r;
      opens = λ t h d e x y r. opt_some (record x { handlers = h ∷ x.handlers })
          (record y { handlers = h ∷ y.handlers }) (opens_did h x y t d e r);
      closes = λ t v x y r. closes_did v x y t r;
    }

    module _ (there : set_at b p ≡ Some (u, m)) where
      -- what the set gives is alike
      pub did_given : (wrote : Bool) (x y : Vars) → (wrote ≡ false → IsFalse (writes u.op))
          → (r : Did p u m wrote x y) → Alike b (given_vars u ++ r.vars) x.values y.values
      did_given true x y f r = r.alike
      did_given false x y f r = λ v i t. ⊎_elim
          (λ j. let q : true ≡ false = sym (unwritten_tag b p u m v there (f refl) j) ∙ t in absurd cc)
          (λ j. r.alike v j t) (among_append v (given_vars u) r.vars i)

      -- behind the set
      pub next_meet : (wrote : Bool) (x y : Vars) → IsFalse (is_tests m) → IsFalse (is_try_start u.op)
          → (wrote ≡ false → IsFalse (writes u.op)) → Did p u m wrote x y → Meet (next p) x y
      next_meet wrote x y t e f r = record {
        vars = given_vars u ++ r.vars;
        way = subst (λ hs. Way b (next p) (given_vars u ++ r.vars) hs)
            (sym (r.now ∙ left_after u.op m u.dst r.before e))
            (goes p (next p) r.vars r.before _ (setting (given_vars u)) r.way (passes p r.before u m there t));
        handlers = r.handlers;
        alike = did_given wrote x y f r;
      }

  -- Where the two runs of a chain stand, and how they leave it.

  abbrev pub long : Option Block → ℕ
  long None = 0
  long (Some k) = length k.chain

  -- at the end of a block, where its last tests nothing
  abbrev pub AtLast : ℕ → Bool → Vars → Vars → Type 0
  AtLast n w x y = IsTrue (tests_nothing (last_of (block_at b n))) → Meet (point n (long (block_at b n))) x y

  -- the last chooses by this set
  pub record Chose (n : ℕ) (v : Bool) (x y : Vars) : Type 0 where
    pub at : ℕ
    pub by : Set
    pub tested : ℕ
    pub is_there : set_at b (point n at) ≡ Some (by, tests tested)
    pub before : List Handler
    pub vars : List ℕ
    pub way : Way b (point n at) vars before
    pub now : x.handlers ≡ picked_handlers v by.op by.dst tested before
    pub starts : v ≡ false → by.op ≡ Ssa.try_start → ⊥
    pub var : ℕ
    pub holds : ℕ
    pub last : last_of (block_at b n) ≡ Some (succeeded var holds tested)
    pub handlers : y.handlers ≡ x.handlers
    pub alike : Alike b (if v then given_vars by ++ vars else vars) x.values y.values

  -- this set raised
  pub record Rose (n : ℕ) (x y : Vars) : Type 0 where
    pub at : ℕ
    pub by : Set
    pub mode : Mode
    pub is_there : set_at b (point n at) ≡ Some (by, mode)
    pub may : IsTrue (may_raise mode by.op)
    pub meet : Meet (point n at) x y

  module _ (n : ℕ) (k : Block) where
    -- where the rest of a chain begins; at its end, where the last tests nothing
    abbrev pub Stand : List Set → ℕ → Vars → Vars → Type 0
    Stand [] i x y = IsTrue (tests_nothing (Some k.last)) → Meet (point n i) x y
    Stand (u ∷ us) i x y = Meet (point n i) x y

  -- Reading.

  module _ (around : Around) (here : Here) (x y : Vars) (c : List MatchContext) (n : ℕ) (w : Option Message)
      (vs : List ℕ) (alike : Alike b vs x.values y.values) where
    pub held_alike : (a : Arg) → IsTrue (all_among (arg_vars (a ∷ [])) vs)
        → IsTrue (none_among (arg_vars (a ∷ [])) (tags_in b.blocks))
        → held in_vars around here (at y c n w) a ≡ held in_vars around here (at x c n w) a
    held_alike (var v) p q = sym (alike v (and_both _ _ p).0 (not_true _ (and_both _ _ q).0))
    held_alike (lit t) p q = refl

    all_alike : (as' : List Arg) → IsTrue (all_among (arg_vars as') vs)
        → IsTrue (none_among (arg_vars as') (tags_in b.blocks))
        → all_held in_vars around here (at y c n w) as' ≡ all_held in_vars around here (at x c n w) as'
    all_alike [] p q = refl
    all_alike (var v ∷ as') p q = λ i. sym (alike v (and_both _ _ p).0 (not_true _ (and_both _ _ q).0)) i
        ∷ all_alike as' (and_both _ _ p).1 (and_both _ _ q).1 i
    all_alike (lit t ∷ as') p q = λ i. term t ∷ all_alike as' p q i

  module _ (around : Around) (here : Here) (formed : WellFormed b) where
    set_reads : (p : Point) (u : Set) (m : Mode) → set_at b p ≡ Some (u, m) → IsFalse (names_handler u.op)
        → (x y : Vars) (c : List MatchContext) (n : ℕ) (w : Option Message) → Meet p x y
        → all_held in_vars around here (at y c n w) u.args ≡ all_held in_vars around here (at x c n w) u.args
    set_reads p u m e named x y c n w r = all_alike around here x y c n w r.vars r.alike u.args
        (subst (λ o. IsTrue (all_among (set_vars o) r.vars)) e
        (all_first (set_vars (set_at b p)) (end_vars (last_at b p)) r.vars
        (formed.available p r.vars x.handlers r.way)))
        (subst (λ z. IsTrue (none_among (if z then [] else arg_vars u.args) (tags_in b.blocks))) named
        (subst (λ o. IsTrue (none_among (value_vars o) (tags_in b.blocks))) e
        (none_first (value_vars (set_at b p)) (end_vars (last_at b p)) (tags_in b.blocks)
        (formed.values p x.handlers (r.vars, r.way)))))

    -- in_vars knows no frame actions
    acts_so : (a r : Bool → Vars → Vars → Type 0) → ((w : Bool) (x y : Vars) → a w x y → r w x y)
        → (as' : List FrameAction) → Acts in_vars in_vars around here a r as' as'
    acts_so a r h [] x y c n w s i = acted x y c n w s (h (lk w) x y i)
    acts_so a r h (z ∷ zs) x y c n w s i = acted_bad _

    module _ (n : ℕ) (k : Block) (there : block_at b n ≡ Some k) where
      abbrev L : Bool → Vars → Vars → Type 0
      L = AtLast n

      abbrev P : Bool → Bool → Vars → Vars → Type 0
      P v w = Chose n v

      module _ (u : Set) (us : List Set) (i : ℕ) (from : From b n k there (u ∷ us) i) where
        abbrev mode : Mode
        mode = mode_of u.dst us k.before k.last

        pub stands : (wrote : Bool) (x y : Vars) → IsFalse (is_try_start u.op) → (wrote ≡ false → IsFalse (writes u.op))
            → Did (point n i) u mode wrote x y → Stand n k us (suc i) x y
        stands wrote x y e f r = by us from r
          where
            by : (zs : List Set) → From b n k there (u ∷ zs) i
                → Did (point n i) u (mode_of u.dst zs k.before k.last) wrote x y → Stand n k zs (suc i) x y
            by [] g r = λ t. next_meet (point n i) u _ (head_there b n k there u [] i g) wrote x y
                (untested u.dst k.before k.last t) e f r
            by (z ∷ zs) g r = next_meet (point n i) u _ (head_there b n k there u (z ∷ zs) i g) wrote x y refl e f r

        chooses : IsTrue (is_tests mode) → IsFalse (is_try_end u.op) → (v : Bool)
            → (v ≡ false → IsFalse (is_try_start u.op)) → (x y : Vars)
            → Did (point n i) u mode (writes u.op && v) x y → Chose n v x y
        chooses t e v f x y r = record {
          at = i;
          by = u;
          tested = z.0;
          is_there = head_there b n k there u us i from ∙ ap (λ m. Some (u, m)) z.1;
          before = r.before;
          vars = r.vars;
          way = r.way;
          now = now v f r.now;
          starts = λ g. not_start u.op (f g);
          var = q.var;
          holds = q.holds;
          last = ap last_of there ∙ ap (λ l. Some l) q.last;
          handlers = r.handlers;
          alike = alike v r;
        }
          where
            z : (a : ℕ) × (mode ≡ tests a)
            z = tested_at mode t

            q : Tested us k.last z.0
            q = tested_by u.dst us k.before k.last z.0 z.1

            now : (v : Bool) → (v ≡ false → IsFalse (is_try_start u.op))
                → x.handlers ≡ left_open u.op mode u.dst r.before
                → x.handlers ≡ picked_handlers v u.op u.dst z.0 r.before
            now true f p = p ∙ ap (λ m. left_open u.op m u.dst r.before) z.1 ∙ left_picked u.op z.0 u.dst r.before e
            now false f p = p ∙ left_steady u.op mode u.dst r.before (f refl) e

            alike : (v : Bool) → (d : Did (point n i) u mode (writes u.op && v) x y)
                → Alike b (if v then given_vars u ++ d.vars else d.vars) x.values y.values
            alike true d = did_given (point n i) u mode (head_there b n k there u us i from) (writes u.op && true) x y
                (λ g. and_true (writes u.op) g) d
              where
                and_true : (a : Bool) → (a && true) ≡ false → a ≡ false
                and_true true g = g
                and_true false g = refl
            alike false d = subst (λ a. Alike b (if a then given_vars u ++ d.vars else d.vars) x.values y.values)
                (and_false (writes u.op)) d.alike
              where
                and_false : (a : Bool) → (a && false) ≡ false
                and_false true = refl
                and_false false = refl

        abbrev set_plan : (a : Bool → Vars → Vars → Type 0)
            → ((w : Bool) (x y : Vars) → a w x y → Meet (point n i) x y)
            → SetPlan in_vars in_vars around here L P (Rose n) a mode u u
        set_plan a h = record {
          op = refl;
          args = refl;
          dst = refl;
          ok = λ l. Unit {0};
          before = λ w. Meet (point n i);
          cleared = Meet (point n i);
          done = λ d w. Did (point n i) u mode d;
          next = λ w. Stand n k us (suc i);
          raised = Meet (point n i);
          acts = acts_so a (λ w. Meet (point n i)) h u.before;
          reads = λ e x y c j w r. set_reads (point n i) u mode (head_there b n k there u us i from) e x y c j w r;
          kept = vars_keep (point n i) u mode around here;
          leaves = λ l e. tt;
          rises = λ e x y r. record {
            at = i;
            by = u;
            mode = mode;
            is_there = head_there b n k there u us i from;
            may = e;
            meet = r;
          };
          picks = λ t e v f w x y r. chooses t e v f x y r;
          passes = λ e w x y r. stands (writes u.op) x y e (λ f. f) r;
        }

      pub plan : (us : List Set) (i : ℕ) → From b n k there us i → (a : Bool → Vars → Vars → Type 0)
          → ((w : Bool) (x y : Vars) → a w x y → Stand n k us i x y)
          → Plan in_vars in_vars around here L P (Rose n) k.before k.before k.last k.last a us us
      plan [] i from a h = at_end a (acts_so a L (λ w x y r t. subst (λ j. Meet (point n j) x y)
          ((let l : i + 0 ≡ length k.chain = from.long in omega (arith, l)) ∙ sym (ap long there))
          (h w x y r (subst (λ l. IsTrue (tests_nothing l)) (ap last_of there) t))) k.before)
      plan (u ∷ us) i from a h = and_set a u u us us (set_plan u us i from a h) refl
          (plan us (suc i) (tail_from b n k there u us i from) (λ w. Stand n k us (suc i)) (λ w x y r. r))
