-- What an operation leaves of one storage: the induction over operations, of a storage beside itself.
use Rattle.std.proofs.Common.{◌≡◌, ℕ, List, Bool, true, false, Option, Some, None, refl, ap, subst, IsTrue}
use Rattle.world_model.specs.Run.{State}
use Rattle.step_machine.specs.Bodies.{Here}
use Rattle.ssa_form.specs.Ssa.{Arg, Op}
use Rattle.ssa_form.specs.Storage.{Held, Handler, Leaving, calls, ends_body, always_raises, Storage, Frame, Mode, tests, Around}
use Rattle.ssa_form.specs.Operations.{does}
use Rattle.ssa_form.proofs.TwoStorages.{Opt, opt_none, opt_some, Two, Traits, traits, Steady, left_so, Keeps, Sim}
use Rattle.ssa_form.proofs.TwoDoes.{does_sim}

-- an operation that its block takes so, with this destination; before: what holds of the store until it is done; after:
-- what holds then, told whether its variable was written
pub record One (S : Type 0) : Type 1 where
  pub o : Storage S
  pub around : Around
  pub here : Here
  pub mode : Mode
  pub dst : Option ℕ
  pub before : S → Type 0
  pub after : Bool → S → Type 0

-- what has to be shown of the storage, for an operation with these traits
pub record Leaves {S : Type 0} (one : One S) (f : Traits) : Type 0 where
  pub collects : (x u : S) → one.before x → one.o.collects x ≡ Some u → one.before u
  pub leaves : (l : Leaving) (x u : S) → one.before x → one.o.leaves l x ≡ Some u → one.before u
  pub forgets : (x : S) → one.before x → one.before (one.o.forgets x)
  pub puts : IsTrue f.writes → (w : Bool) (v : ℕ) (h : Held) (x u : S) → one.before x
      → one.o.write w v h x ≡ Some u → one.after true u
  pub drops : IsTrue f.writes → (x : S) → one.before x → one.after true x
  pub stays : Steady f → (x : S) → one.before x → one.after false x
  pub opens : IsTrue f.opens → (h : Handler) → one.dst ≡ Some h.tag → one.mode ≡ tests h.landing → (x u : S)
      → one.before x → one.o.opens h x ≡ Some u → one.after false u
  pub closes : IsTrue f.closes → (v : ℕ) (x u : S) → one.before x → one.o.closes v x ≡ Some u → one.after false u

-- the same store on both sides
pub record Twice {S : Type 0} (P : S → Type 0) (x y : S) : Type 0 where
  pub same : x ≡ y
  pub holds : P x

opt_same : {S : Type 0} (R : S → S → Type 0) (q : Option S) → ((u : S) → q ≡ Some u → R u u) → Opt R q q
opt_same R None h = opt_none None
opt_same R (Some u) h = opt_some u u (h u refl)

opt_at : {S : Type 0} (R : S → S → Type 0) (rule : S → Option S) (x y : S) → x ≡ y
    → ((u : S) → rule x ≡ Some u → R u u) → Opt R (rule x) (rule y)
opt_at R rule x y e h = subst (λ v. Opt R (rule x) (rule v)) e (opt_same R (rule x) h)

module _ {S : Type 0} (one : One S) (f : Traits) (leaves : Leaves one f) where
  abbrev pub beside : Two S S
  beside = record {
    o = one.o;
    p = one.o;
    around = one.around;
    here = one.here;
    ok = λ l. Unit {0};
    mode = one.mode;
    dst = one.dst;
    before = λ w. Twice one.before;
    cleared = Twice one.before;
    done = λ b w. Twice (one.after b);
    rose = Twice one.before;
  }

  twice : (P : S → Type 0) (u : S) → P u → Twice P u u
  twice P u h = record { same = refl; holds = h }

  -- where control left
  left_twice : (l : Leaving) (u : S) → one.before u → left_so (Twice one.before) l u u
  left_twice calls u h = twice one.before u h
  left_twice ends_body u h = tt
  left_twice always_raises u h = twice one.before u h

  pub keeps : Keeps beside f
  keeps = record {
    collects = λ w x y r. opt_at (Twice one.before) one.o.collects x y r.same
        (λ u e. twice one.before u (leaves.collects x u r.holds e));
    leaves = λ l i x y r. opt_at (left_so (Twice one.before) l) (one.o.leaves l) x y r.same
        (λ u e. left_twice l u (leaves.leaves l x u r.holds e));
    forgets = λ t w x y r. record { same = ap one.o.forgets r.same; holds = leaves.forgets x r.holds };
    puts = λ t w v h d x y r. opt_at (Twice (one.after true)) (one.o.write w v h) x y r.same
        (λ u e. twice (one.after true) u (leaves.puts t w v h x u r.holds e));
    puts_cleared = λ t v h d x y r. opt_at (Twice (one.after true)) (one.o.write f.looks v h) x y r.same
        (λ u e. twice (one.after true) u (leaves.puts t f.looks v h x u r.holds e));
    drops = λ t w d x y r. record { same = r.same; holds = leaves.drops t x r.holds };
    drops_cleared = λ t d x y r. record { same = r.same; holds = leaves.drops t x r.holds };
    stays = λ z w x y r. record { same = r.same; holds = leaves.stays z x r.holds };
    stays_cleared = λ z x y r. record { same = r.same; holds = leaves.stays z x r.holds };
    rises = λ w x y r. r;
    rises_cleared = λ x y r. r;
    opens = λ t h d m x y r. opt_at (Twice (one.after false)) (one.o.opens h) x y r.same
        (λ u e. twice (one.after false) u (leaves.opens t h d m x u r.holds e));
    closes = λ t v x y r. opt_at (Twice (one.after false)) (one.o.closes v) x y r.same
        (λ u e. twice (one.after false) u (leaves.closes t v x u r.holds e));
  }

-- what comes of the operation
pub one_does : {S : Type 0} (one : One S) (op : Op) (leaves : Leaves one (traits one.mode op)) (as' : List Arg)
    (hs : List Held) (f : Frame S) (s : State) → one.before f.store
    → Sim (beside one (traits one.mode op) leaves) (traits one.mode op) f.save f.window s
    (does one.o one.around one.here op as' one.mode one.dst hs f s)
    (does one.o one.around one.here op as' one.mode one.dst hs f s)
one_does one op leaves as' hs f s h = does_sim (beside one (traits one.mode op) leaves) f.store f.store f.contexts
    f.save f.window (record { same = refl; holds = h }) s op (keeps one (traits one.mode op) leaves) as'
    (λ l e. tt) hs
