-- What the chain of a block leaves, and where in the flow it stands.
use Rattle.std.proofs.Common.{◌≡◌, ℕ, zero, suc, ◌+◌, List, [], ◌∷◌, length, Bool, true, false, ◌||◌, Option, Some, refl, sym, ap, subst, ◌∙◌, arith, eqb, IsTrue, IsFalse, if◌then◌else◌}
use Rattle.world_model.specs.Run.{State}
use Rattle.step_machine.specs.Bodies.{Here}
use Rattle.step_machine.specs.EntryBound.{Lowers}
use Rattle.ssa_form.specs.Ssa as Ssa
use Rattle.ssa_form.specs.Ssa.{Arg, Op, FrameAction, Set, Last, br, succeeded, switch, ret, Phi, Block, Body, block_at}
use Rattle.ssa_form.specs.Storage.{Handler, Storage, Frame, After, next, choose, raise, finish, Mode, plain, tail, jump, tests, Around, in_window, go_on, kept}
use Rattle.ssa_form.specs.SetFacts.{is_tests, is_peek, may_raise, breaks_cycle}
use Rattle.ssa_form.specs.Flow.{point, set_from, set_in, set_at, after_op, goes, Reached, passes}
use Rattle.ssa_form.specs.WellFormed.{any_op, tests_nothing}
use Rattle.ssa_form.specs.Operations.{all_held, does}
use Rattle.ssa_form.specs.SsaRun.{is_dst, mode_of, acts_do, set_does, chain_does}
use Rattle.ssa_form.proofs.Rank.{Lower, AtMost, then_most, most_twice, rank, Fits}
use Rattle.ssa_form.proofs.OpenHandlers.{Tracks}
use Rattle.ssa_form.proofs.Eases.{some_holds, Eases, eased, OnlyOn}
use Rattle.ssa_form.proofs.OpSteps.{picked_handlers, Steps, Passes, steps}

-- One way of looking after another.

or_false : (a b : Bool) → IsFalse (a || b) → IsFalse a × IsFalse b
or_false true b e = absurd cc
or_false false b e = (refl, e)

or_second : (a b : Bool) → IsTrue (a || b) → IsFalse a → IsTrue b
or_second true b e f = absurd cc
or_second false b e f = e

or_nothing : (a b : Bool) → IsTrue (a || b) → b ≡ false → IsTrue a
or_nothing true b e f = refl
or_nothing false b e f = let g : false ≡ true = sym f ∙ e in cc

-- How a last takes a set.

pub record Tested (xs : List Set) (l : Last) (e : ℕ) : Type 0 where
  pub nothing_after : xs ≡ []
  pub var : ℕ
  pub holds : ℕ
  pub last : l ≡ succeeded var holds e

tests_is : (m n : ℕ) → tests m ≡ tests n → m ≡ n
tests_is m n e = cc

tail_or : (b : Bool) (e : ℕ) → (if b then tail else plain) ≡ tests e → ⊥
tail_or true e h = cc
tail_or false e h = cc

jump_or : (b : Bool) (e : ℕ) → (if b then jump else plain) ≡ tests e → ⊥
jump_or true e h = cc
jump_or false e h = cc

pub tested_by : (d : Option ℕ) (xs : List Set) (as' : List FrameAction) (l : Last) (e : ℕ)
    → mode_of d xs as' l ≡ tests e → Tested xs l e
tested_by d [] [] (succeeded v t k) e h =
    record { nothing_after = refl; var = v; holds = t; last = ap (λ x. succeeded v t x) (tests_is k e h) }
tested_by d [] [] (ret a) e h = absurd (tail_or (is_dst d a) e h)
tested_by d [] [] (br a t k) e h = absurd (jump_or (eqb t k) e h)
tested_by d [] [] (switch a k cs) e h = absurd cc
tested_by d [] (a ∷ as') l e h = absurd cc
tested_by d (x ∷ xs) as' l e h = absurd cc

tail_untested : (b : Bool) → IsFalse (is_tests (if b then tail else plain))
tail_untested true = refl
tail_untested false = refl

jump_untested : (b : Bool) → IsFalse (is_tests (if b then jump else plain))
jump_untested true = refl
jump_untested false = refl

pub untested : (d : Option ℕ) (as' : List FrameAction) (l : Last) → IsTrue (tests_nothing (Some l))
    → IsFalse (is_tests (mode_of d [] as' l))
untested d [] (succeeded v t e) h = absurd cc
untested d [] (ret a) h = tail_untested (is_dst d a)
untested d [] (br a t e) h = jump_untested (eqb t e)
untested d [] (switch a e cs) h = refl
untested d (a ∷ as') l h = refl

-- Where the rest of a chain stands.

pub plus : ℕ → ℕ → ℕ
plus zero k = k
plus (suc j) k = plus j (suc k)

plus_is : (j k : ℕ) → plus j k ≡ j + k
unfolding plus
plus_is zero k = omega arith
plus_is (suc j) k = let h : plus j (suc k) ≡ j + suc k = plus_is j (suc k) in omega (arith, h)

module _ (b : Body) (n : ℕ) (x : Block) (there : block_at b n ≡ Some x) where
  -- these are the sets of the block from number k on
  pub record From (xs : List Set) (k : ℕ) : Type 0 where
    pub sets : (j : ℕ) → set_from xs j x.before x.last ≡ set_from x.chain (plus j k) x.before x.last
    pub long : k + length xs ≡ length x.chain

  pub all_from : From x.chain 0
  all_from = record {
    sets = λ j. ap (λ i. set_from x.chain i x.before x.last)
        (let h : plus j 0 ≡ j + 0 = plus_is j 0 in omega (arith, h));
    long = omega arith;
  }

  pub tail_from : (y : Set) (ys : List Set) (k : ℕ) → From (y ∷ ys) k → From ys (suc k)
  unfolding plus
  tail_from y ys k h = record {
    sets = λ j. h.sets (suc j);
    long = let l : k + length (y ∷ ys) ≡ length x.chain = h.long
        in omega (arith, l);
  }

  pub head_there : (y : Set) (ys : List Set) (k : ℕ) → From (y ∷ ys) k
      → set_at b (point n k) ≡ Some (y, mode_of y.dst ys x.before x.last)
  unfolding plus
  head_there y ys k h = ap (λ o. set_in o k) there ∙ sym (h.sets zero)

  -- reached, where the last doesn't test what it must not
  abbrev pub At : List Set → ℕ → List Handler → Type 0
  At [] k hs = IsTrue (tests_nothing (Some x.last)) → Reached b (point n k) hs
  At (y ∷ ys) k hs = Reached b (point n k) hs

  pub passed : (y : Set) (m : Mode) (k : ℕ) (hs : List Handler) → set_at b (point n k) ≡ Some (y, m)
      → IsFalse (is_tests m) → Reached b (point n k) hs → Reached b (point n (suc k)) (after_op y.op hs)
  passed y m k hs e t (vs, w) =
      (_, goes (point n k) (point n (suc k)) vs hs (after_op y.op hs) _ w (passes (point n k) hs y m e t))

  pub at_next : (y : Set) (ys : List Set) (k : ℕ) (hs : List Handler) → From (y ∷ ys) k → Reached b (point n k) hs
      → At ys (suc k) (after_op y.op hs)
  at_next y [] k hs h r = λ t. passed y _ k hs (head_there y [] k h) (untested y.dst x.before x.last t) r
  at_next y (z ∷ zs) k hs h r = passed y _ k hs (head_there y (z ∷ zs) k h) refl r

  module _ {S : Type 0} (open_in : S → List Handler) (xs : List Set) (f : Frame S) (s : State) where
    -- all sets are done
    pub record Through (g : Frame S) (u : State) : Type 0 where
      pub fits : Fits g u
      pub reached : IsTrue (tests_nothing (Some x.last)) → Reached b (point n (length x.chain)) (open_in g.store)
      pub falls : IsFalse (any_op breaks_cycle xs) → AtMost (rank g u) (rank f s)
      pub looks : IsFalse (any_op breaks_cycle xs) → IsTrue (any_op is_peek xs) → Lower (rank g u) (rank f s)

    -- the last chooses by this set
    pub record Chosen (c : Bool) (g : Frame S) (u : State) : Type 0 where
      pub fits : Fits g u
      pub at : ℕ
      pub by : Set
      pub tested : ℕ
      pub is_there : set_at b (point n at) ≡ Some (by, tests tested)
      pub before : List Handler
      pub reached : Reached b (point n at) before
      pub handlers : open_in g.store ≡ picked_handlers c by.op by.dst tested before
      pub starts : c ≡ false → by.op ≡ Ssa.try_start → ⊥
      pub last : Tested [] x.last tested
      pub falls : IsFalse (any_op breaks_cycle xs) → AtMost (rank g u) (rank f s)
      pub looks : IsFalse (any_op breaks_cycle xs) → IsTrue (any_op is_peek xs) → Lower (rank g u) (rank f s)

    -- this set raised
    pub record Risen (g : Frame S) (u : State) : Type 0 where
      pub at : ℕ
      pub by : Set
      pub mode : Mode
      pub is_there : set_at b (point n at) ≡ Some (by, mode)
      pub reached : Reached b (point n at) (open_in g.store)
      pub may : IsTrue (may_raise mode by.op)

    abbrev pub Chained : After S → Type 0
    Chained (next g u) = Through g u
    Chained (choose c g u) = Chosen c g u
    Chained (raise c y g u) = Risen g u
    Chained (finish u q) = Unit {0}
    Chained After.bad = Unit {0}

  module _ {S : Type 0} (o : Storage S) (around : Around) (here : Here) (lowers : Lowers here.enter)
      (open_in : S → List Handler) (tracks : Tracks o open_in) where
    -- Frame actions.

    acts_only : (as' : List FrameAction) (f0 : Frame S) (s0 : State) (f : Frame S) (s : State) → Eases open_in f0 s0 f s
        → OnlyOn open_in f0 s0 (acts_do o around here as' f s)
    acts_only [] f0 s0 f s e = e
    acts_only (a ∷ as') f0 s0 f s e = some_holds (λ y. OnlyOn open_in f0 s0 (go_on y (acts_do o around here as'))) tt
        (o.acts (in_window f) a f.store) _ (λ st p.
        acts_only as' f0 s0 (kept f st) s
        (record {
          handlers = tracks.acts (in_window f) a f.store st p ∙ e.handlers;
          fits = e.fits;
          falls = e.falls;
        }))

    -- A set.

    steps_after : (op : Op) (m : Mode) (dst : Option ℕ) (f : Frame S) (s : State) (g : Frame S) (u : State)
        (a : After S) → Eases open_in f s g u → Steps open_in op m dst g u a → Steps open_in op m dst f s a
    steps_after op m dst f s g u (next h v) e p = record {
      handlers = p.handlers ∙ ap (after_op op) e.handlers;
      fits = p.fits;
      falls = λ q. most_twice _ _ _ (p.falls q) e.falls;
      no_look = p.no_look;
    }
    steps_after op m dst f s g u (choose c h v) e p = record {
      tested = p.tested;
      mode = p.mode;
      handlers = p.handlers ∙ ap (picked_handlers c op dst p.tested) e.handlers;
      starts = p.starts;
      fits = p.fits;
      falls = λ q. most_twice _ _ _ (p.falls q) e.falls;
      looks = λ q. then_most _ _ _ (p.looks q) e.falls;
    }
    steps_after op m dst f s g u (raise c y h v) e p = record {
      handlers = p.handlers ∙ e.handlers;
      may = p.may;
    }
    steps_after op m dst f s g u (finish v q) e p = tt
    steps_after op m dst f s g u After.bad e p = tt

    set_after : (m : Mode) (y : Set) (f : Frame S) (s : State) (a : After S) → Fits f s → OnlyOn open_in f s a
        → Steps open_in y.op m y.dst f s
        (go_on a (λ g u. does o around here y.op y.args m y.dst (all_held o around here g y.args) g u))
    set_after m y f s (next g u) i e = steps_after y.op m y.dst f s g u _ e
        (steps o around here lowers open_in tracks y.op m y.dst g u (e.fits i) y.args (all_held o around here g y.args))
    set_after m y f s After.bad i e = tt
    set_after m y f s (choose c g u) i e = absurd e
    set_after m y f s (raise c z g u) i e = absurd e
    set_after m y f s (finish u q) i e = absurd e

    pub set_steps : (m : Mode) (y : Set) (f : Frame S) (s : State) → Fits f s
        → Steps open_in y.op m y.dst f s (set_does o around here m y f s)
    set_steps m y f s i = set_after m y f s (acts_do o around here y.before f s) i
        (acts_only y.before f s f s (eased open_in f s))

    -- A chain, from its end on.

    chained_after : (y : Set) (ys : List Set) (f : Frame S) (s : State) (g : Frame S) (u : State) (a : After S)
        → Passes open_in y.op (mode_of y.dst ys x.before x.last) y.dst f s g u → Chained open_in ys g u a
        → Chained open_in (y ∷ ys) f s a
    chained_after y ys f s g u (next h v) p q = record {
      fits = q.fits;
      reached = q.reached;
      falls = λ r. let e : IsFalse (breaks_cycle y.op) × IsFalse (any_op breaks_cycle ys) =
          or_false _ _ r in most_twice _ _ _ (q.falls e.1) (p.falls e.0);
      looks = λ r t. let e : IsFalse (breaks_cycle y.op) × IsFalse (any_op breaks_cycle ys) =
          or_false _ _ r in then_most _ _ _ (q.looks e.1 (or_second _ _ t p.no_look)) (p.falls e.0);
    }
    chained_after y ys f s g u (choose c h v) p q = record {
      fits = q.fits;
      at = q.at;
      by = q.by;
      tested = q.tested;
      is_there = q.is_there;
      before = q.before;
      reached = q.reached;
      handlers = q.handlers;
      starts = q.starts;
      last = q.last;
      falls = λ r. let e : IsFalse (breaks_cycle y.op) × IsFalse (any_op breaks_cycle ys) =
          or_false _ _ r in most_twice _ _ _ (q.falls e.1) (p.falls e.0);
      looks = λ r t. let e : IsFalse (breaks_cycle y.op) × IsFalse (any_op breaks_cycle ys) =
          or_false _ _ r in then_most _ _ _ (q.looks e.1 (or_second _ _ t p.no_look)) (p.falls e.0);
    }
    chained_after y ys f s g u (raise c z h v) p q = record {
      at = q.at;
      by = q.by;
      mode = q.mode;
      is_there = q.is_there;
      reached = q.reached;
      may = q.may;
    }
    chained_after y ys f s g u (finish v z) p q = tt
    chained_after y ys f s g u After.bad p q = tt

    nothing_looks : (y : Set) (ys : List Set) → ys ≡ [] → IsTrue (any_op is_peek (y ∷ ys)) → IsTrue (is_peek y.op)
    nothing_looks y [] e t = or_nothing _ _ t refl
    nothing_looks y (z ∷ zs) e t = absurd cc

    chain_after : (y : Set) (ys : List Set) (k : ℕ) (f : Frame S) (s : State) (a : After S)
        (c : Frame S → State → After S) → From (y ∷ ys) k → Reached b (point n k) (open_in f.store)
        → Steps open_in y.op (mode_of y.dst ys x.before x.last) y.dst f s a
        → ((g : Frame S) (u : State) → Fits g u → At ys (suc k) (open_in g.store) → Chained open_in ys g u (c g u))
        → Chained open_in (y ∷ ys) f s (go_on a c)
    chain_after y ys k f s (next g u) c h r p i = chained_after y ys f s g u (c g u) p
        (i g u p.fits (subst (At ys (suc k)) (sym p.handlers) (at_next y ys k (open_in f.store) h r)))
    chain_after y ys k f s (choose v g u) c h r p i = record {
      fits = p.fits;
      at = k;
      by = y;
      tested = p.tested;
      is_there = head_there y ys k h ∙ ap (λ m. Some (y, m)) p.mode;
      before = open_in f.store;
      reached = r;
      handlers = p.handlers;
      starts = p.starts;
      last = let t : Tested ys x.last p.tested = tested_by y.dst ys x.before x.last p.tested p.mode
          in record { nothing_after = refl; var = t.var; holds = t.holds; last = t.last };
      falls = λ q. p.falls (or_false _ _ q).0;
      looks = λ q l. let t : Tested ys x.last p.tested =
          tested_by y.dst ys x.before x.last p.tested p.mode in p.looks (nothing_looks y ys t.nothing_after l);
    }
    chain_after y ys k f s (raise v z g u) c h r p i = record {
      at = k;
      by = y;
      mode = mode_of y.dst ys x.before x.last;
      is_there =
          head_there y ys k h;
      reached = subst (Reached b (point n k)) (sym p.handlers) r;
      may = p.may;
    }
    chain_after y ys k f s (finish u q) c h r p i = tt
    chain_after y ys k f s After.bad c h r p i = tt

    ended_chain : (k : ℕ) (f : Frame S) (s : State) (a : After S) → From [] k → At [] k (open_in f.store) → Fits f s
        → OnlyOn open_in f s a → Chained open_in [] f s a
    ended_chain k f s (next g u) h r i e = record {
      fits = e.fits i;
      reached = λ t. subst (λ j. Reached b (point n j) (open_in g.store))
          (let l : k + 0 ≡ length x.chain = h.long in omega (arith, l))
          (subst (Reached b (point n k)) (sym e.handlers) (r t));
      falls = λ q. e.falls;
      looks = λ q l. absurd cc;
    }
    ended_chain k f s After.bad h r i e = tt
    ended_chain k f s (choose c g u) h r i e = absurd e
    ended_chain k f s (raise c z g u) h r i e = absurd e
    ended_chain k f s (finish u q) h r i e = absurd e

    pub chain_steps : (ys : List Set) (k : ℕ) (f : Frame S) (s : State) → From ys k → At ys k (open_in f.store)
        → Fits f s → Chained open_in ys f s (chain_does o around here x.before x.last ys f s)
    chain_steps [] k f s h r i = ended_chain k f s _ h r i (acts_only x.before f s f s (eased open_in f s))
    chain_steps (y ∷ ys) k f s h r i = chain_after y ys k f s _ _ h r
        (set_steps (mode_of y.dst ys x.before x.last) y f s i)
        (λ g u j t. chain_steps ys (suc k) g u (tail_from y ys k h) t j)
