-- What every operation leaves: the handlers that the flow tells, and no higher rank, where it breaks no cycle. It is
-- what the walk over operations tells of a storage that keeps track of handlers.
use Rattle.std.proofs.Common.{◌≡◌, ℕ, List, ◌∷◌, drop, Bool, true, false, Option, Some, None, refl, sym, ap, ◌∙◌, IsTrue, IsFalse}
use Rattle.world_model.specs.Run.{State}
use Rattle.step_machine.specs.EntryBound.{Lowers}
use Rattle.ssa_form.specs.Ssa as Ssa
use Rattle.ssa_form.specs.Ssa.{Arg, var, lit, Op}
use Rattle.ssa_form.specs.Storage.{Held, Handler, Frame, After, next, choose, raise, finish, Mode, plain, tail, jump, tests}
use Rattle.ssa_form.specs.SetFacts.{is_tests, may_raise, is_peek, breaks_cycle}
use Rattle.ssa_form.specs.Flow.{after_op, opened}
use Rattle.ssa_form.specs.Operations.{does}
use Rattle.step_machine.specs.Bodies.{Here}
use Rattle.ssa_form.specs.Storage.{Storage, Around}
use Rattle.ssa_form.specs.SetFacts.{is_try_start}
use Rattle.ssa_form.proofs.Rank.{Lower, AtMost, rank, Fits}
use Rattle.ssa_form.proofs.OpenHandlers.{Tracks}
use Rattle.ssa_form.proofs.Moves.{went_stands, went_falls, went_lower}
use Rattle.ssa_form.proofs.TwoStorages.{is_back, is_try_end, writes, traits, Sim, sim_on, sim_pick, sim_up, sim_over, sim_bad}
use Rattle.ssa_form.proofs.OneStorage.{One, Leaves, beside, one_does}

abbrev pub picked_handlers : Bool → Op → Option ℕ → ℕ → List Handler → List Handler
picked_handlers true op dst e hs = opened op dst e hs
picked_handlers false op dst e hs = hs

module _ {S : Type 0} (open_in : S → List Handler) (op : Op) (m : Mode) (dst : Option ℕ) (f : Frame S) (s : State) where
  -- the next set follows
  pub record Passes (g : Frame S) (u : State) : Type 0 where
    pub handlers : open_in g.store ≡ after_op op (open_in f.store)
    pub fits : Fits g u
    pub falls : IsFalse (breaks_cycle op) → AtMost (rank g u) (rank f s)
    pub no_look : IsFalse (is_peek op)

  -- the last chooses between its blocks
  pub record Picks (c : Bool) (g : Frame S) (u : State) : Type 0 where
    pub tested : ℕ
    pub mode : m ≡ tests tested
    pub handlers : open_in g.store ≡ picked_handlers c op dst tested (open_in f.store)
    pub starts : c ≡ false → op ≡ Ssa.try_start → ⊥
    pub fits : Fits g u
    pub falls : IsFalse (breaks_cycle op) → AtMost (rank g u) (rank f s)
    pub looks : IsTrue (is_peek op) → Lower (rank g u) (rank f s)

  pub record Raises (g : Frame S) (u : State) : Type 0 where
    pub handlers : open_in g.store ≡ open_in f.store
    pub may : IsTrue (may_raise m op)

  abbrev pub Steps : After S → Type 0
  Steps (next g u) = Passes g u
  Steps (choose c g u) = Picks c g u
  Steps (raise c x g u) = Raises g u
  Steps (finish u q) = Unit {0}
  Steps After.bad = Unit {0}

-- The handlers that it leaves.

abbrev pub left_open : Op → Mode → Option ℕ → List Handler → List Handler
left_open Ssa.try_start (tests e) (Some v) hs = record { tag = v; landing = e } ∷ hs
left_open Ssa.try_end m d hs = drop 1 hs
left_open op m d hs = hs

pub left_steady : (op : Op) (m : Mode) (d : Option ℕ) (hs : List Handler) → IsFalse (is_try_start op)
    → IsFalse (is_try_end op) → left_open op m d hs ≡ hs
left_steady Ssa.try_start m d hs e f = absurd cc
left_steady Ssa.try_end m d hs e f = absurd cc
left_steady op m d hs e f = refl

pub left_started : (op : Op) (m : Mode) (d : Option ℕ) (hs : List Handler) (h : Handler) → IsTrue (is_try_start op)
    → d ≡ Some h.tag → m ≡ tests h.landing → h ∷ hs ≡ left_open op m d hs
left_started Ssa.try_start m d hs h t e f = sym (λ i. left_open Ssa.try_start (f i) (e i) hs)
left_started _ m d hs h t e f = absurd cc

pub left_ended : (op : Op) (m : Mode) (d : Option ℕ) (hs is' : List Handler) (h : Handler) → IsTrue (is_try_end op)
    → hs ≡ h ∷ is' → is' ≡ left_open op m d hs
left_ended Ssa.try_end m d hs is' h t e = rw e refl
left_ended _ m d hs is' h t e = absurd cc

pub left_after : (op : Op) (m : Mode) (d : Option ℕ) (hs : List Handler) → IsFalse (is_try_start op)
    → left_open op m d hs ≡ after_op op hs
left_after Ssa.try_start m d hs e = absurd cc
left_after Ssa.try_end m d hs e = refl
left_after op m d hs e = refl

pub left_picked : (op : Op) (e : ℕ) (d : Option ℕ) (hs : List Handler) → IsFalse (is_try_end op)
    → left_open op (tests e) d hs ≡ opened op d e hs
left_picked Ssa.try_start e None hs f = refl
left_picked Ssa.try_start e (Some v) hs f = refl
left_picked Ssa.try_end e d hs f = absurd cc
left_picked op e d hs f = refl

pub writes_steady : (op : Op) → IsTrue (writes op) → IsFalse (is_try_start op) × IsFalse (is_try_end op)
writes_steady Ssa.try_start e = absurd cc
writes_steady Ssa.try_end e = absurd cc
writes_steady op e = (refl, refl)

unbroken : (op : Op) → IsFalse (breaks_cycle op) → IsFalse (is_back op)
unbroken Ssa.reset e = absurd cc
unbroken Ssa.use_marker e = absurd cc
unbroken op e = refl

pub tested_at : (m : Mode) → IsTrue (is_tests m) → (e : ℕ) × (m ≡ tests e)
tested_at (tests e) h = (e, refl)
tested_at plain h = absurd cc
tested_at tail h = absurd cc
tested_at jump h = absurd cc

pub not_start : (op : Op) → IsFalse (is_try_start op) → op ≡ Ssa.try_start → ⊥
not_start op e p = let q : is_try_start Ssa.try_start ≡ false = rw p at e in cc

module _ {S : Type 0} (o : Storage S) (around : Around) (here : Here) (lowers : Lowers here.enter)
    (open_in : S → List Handler) (tracks : Tracks o open_in) (op : Op) (m : Mode) (dst : Option ℕ) where
  abbrev tracked : List Handler → One S
  tracked hs = record {
    o = o;
    around = around;
    here = here;
    mode = m;
    dst = dst;
    before = λ x. open_in x ≡ hs;
    after = λ b x. open_in x ≡ left_open op m dst hs;
  }

  tracked_leaves : (hs : List Handler) → Leaves (tracked hs) (traits m op)
  tracked_leaves hs = record {
    collects = λ x u h e. tracks.collects x u e ∙ h;
    leaves = λ l x u h e. tracks.leaves l x u e ∙ h;
    forgets = λ x h. tracks.forgets x ∙ h;
    puts = λ t w v z x u h e. tracks.writes w v z x u e ∙ h ∙ sym (written t);
    drops = λ t x h. h ∙ sym (written t);
    stays = λ z x h. h ∙ sym (left_steady op m dst hs z.opens z.closes);
    opens = λ t z d e x u h i. tracks.opens z x u i ∙ ap (λ zs. z ∷ zs) h ∙ left_started op m dst hs z t d e;
    closes = λ t v x u h i. let c : (z : Handler) × (open_in x ≡ z ∷ open_in u) = tracks.closes v x u i
        in left_ended op m dst hs (open_in u) c.0 t (sym h ∙ c.1);
  }
    where
      written : IsTrue (writes op) → left_open op m dst hs ≡ hs
      written t = let z : IsFalse (is_try_start op) × IsFalse (is_try_end op) = writes_steady op t
          in left_steady op m dst hs z.0 z.1

  module _ (f : Frame S) (s : State) (fits : Fits f s) where
    abbrev hs0 : List Handler
    hs0 = open_in f.store

    picked : (b : Bool) (hs : List Handler) (e : ℕ) → m ≡ tests e → IsFalse (is_try_end op)
        → (b ≡ false → IsFalse (is_try_start op)) → hs ≡ left_open op m dst hs0
        → hs ≡ picked_handlers b op dst e hs0
    picked true hs e i z h p = p ∙ ap (λ n. left_open op n dst hs0) i ∙ left_picked op e dst hs0 z
    picked false hs e i z h p = p ∙ left_steady op m dst hs0 (h refl) z

    steps_of : (a z : After S)
        → Sim (beside (tracked hs0) (traits m op) (tracked_leaves hs0)) (traits m op) f.save f.window s a z
        → Steps open_in op m dst f s a
    steps_of _ _ (sim_on l q x y c n w u r g) = record {
      handlers = r.holds ∙ left_after op m dst hs0 q;
      fits = went_stands around here _ _ f.save f.window s n w u g fits;
      falls = λ b. went_falls around here _ _ f.save f.window s lowers (unbroken op b) fits n w u g;
      no_look = l;
    }
    steps_of _ _ (sim_pick b t k q x y c n w u r g) = record {
      tested = (tested_at m t).0;
      mode = (tested_at m t).1;
      handlers = picked b (open_in x) (tested_at m t).0 (tested_at m t).1 k q r.holds;
      starts = λ e. not_start op (q e);
      fits = went_stands around here _ _ f.save f.window s n w u g fits;
      falls = λ i. went_falls around here _ _ f.save f.window s lowers (unbroken op i) fits n w u g;
      looks = λ i. went_lower around here _ _ f.save f.window s i n w u g;
    }
    steps_of _ _ (sim_up t k v x y c n w u r g) =
        record { handlers = r.holds; may = t }
    steps_of _ _ (sim_over u q g) = tt
    steps_of _ _ (sim_bad z) = tt

    pub steps : (args : List Arg) (hs : List Held)
        → Steps open_in op m dst f s (does o around here op args m dst hs f s)
    steps args hs = steps_of _ _ (one_does (tracked hs0) op (tracked_leaves hs0) args hs f s refl)
