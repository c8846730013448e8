-- What the state keeps where an operation leads, wherever the variables' values are kept.
use Rattle.std.proofs.Common.{ℕ, List, Bool, true, false, Option, Some, None, eqb}
use Rattle.erl_term.specs.Terms.{Values, only}
use Rattle.world_model.specs.World.{Message}
use Rattle.world_model.specs.Run.{State, Outcome, gives, raises, waits, spent}
use Rattle.step_machine.specs.Bodies.{Here}
use Rattle.ssa_form.specs.Ssa.{Arg, Op}
use Rattle.ssa_form.specs.Storage.{Held, term, Leaving, Storage, Frame, After, next, choose, raise, finish, Mode, Around, in_window, go_on, when, if_some, outside, kept}
use Rattle.ssa_form.specs.Operations.{put, leaving, follows, does}
use Rattle.ssa_form.proofs.Moves.{Kept, came}
use Rattle.ssa_form.proofs.TwoStorages.{traits, Sim, sim_on, sim_pick, sim_up, sim_over, sim_bad}
use Rattle.ssa_form.proofs.OneStorage.{One, Leaves, beside, one_does}

module _ {S : Type 0} (o : Storage S) (around : Around) (here : Here) (R : State → State → Type 0)
    (kept_so : Kept around here R) (s0 : State) where
  -- the state that follows is so
  abbrev pub Ends : After S → Type 0
  Ends (next f s) = R s0 s
  Ends (choose b f s) = R s0 s
  Ends (raise c r f s) = R s0 s
  Ends (finish s q) = R s0 s
  Ends After.bad = Unit {0}

  -- Conditions.

  pub some_ends : {A : Type 0} (x : Option A) (k : A → After S) → ((a : A) → Ends (k a)) → Ends (if_some x k)
  some_ends None k h = tt
  some_ends (Some a) k h = h a

  pub when_ends : (b : Bool) (a : After S) → Ends a → Ends (when b a)
  when_ends true a h = h
  when_ends false a h = tt

  pub outside_ends : (f : Frame S) (a : After S) → Ends a → Ends (outside f a)
  outside_ends f a h = by f.window
    where
      by : (v : Option Message) → Ends (elim v [ None ↦ a | Some x ↦ After.bad ])
      by None = h
      by (Some x) = tt

  pub then_ends : (a : After S) (k : Frame S → State → After S) → Ends a
      → ((f : Frame S) (s : State) → R s0 s → Ends (k f s)) → Ends (go_on a k)
  then_ends (next f s) k h i = i f s h
  then_ends (choose b f s) k h i = h
  then_ends (raise c r f s) k h i = h
  then_ends (finish s q) k h i = h
  then_ends After.bad k h i = tt

  -- Values.

  pub put_ends : (d : Option ℕ) (h : Held) (f : Frame S) (s : State) → R s0 s → Ends (put o around here d h f s)
  put_ends None h f s l = l
  put_ends (Some v) h f s l = some_ends (o.write (in_window f) v h f.store) _ (λ st. l)

  pub follows_ends : (d : Option ℕ) (f : Frame S) (p : State × Outcome Values) → R s0 p.0
      → Ends (follows o around here d f p)
  follows_ends d f (u, gives vs) l = put_ends d (term (only vs)) f u l
  follows_ends d f (u, raises c r) l = l
  follows_ends d f (u, waits q) l = l
  follows_ends d f (u, spent) l = l

  pub leaving_ends : (l : Leaving) (f : Frame S) (k : Frame S → After S) → ((g : Frame S) → Ends (k g))
      → Ends (leaving o around here l f k)
  leaving_ends l f k h = outside_ends f _
      (when_ends (eqb f.save 0) _ (some_ends (o.leaves l f.store) _ (λ st. h (kept f (o.forgets st)))))

  -- Operations: nothing is asked of the stores.

  module _ (op : Op) (m : Mode) (d : Option ℕ) where
    abbrev any : One S
    any = record {
      o = o;
      around = around;
      here = here;
      mode = m;
      dst = d;
      before = λ x. Unit {0};
      after = λ b x. Unit {0};
    }

    any_leaves : Leaves any (traits m op)
    any_leaves = record {
      collects = λ x u h e. tt;
      leaves = λ l x u h e. tt;
      forgets = λ x h. tt;
      puts = λ t w v z x u h e. tt;
      drops = λ t x h. tt;
      stays = λ z x h. tt;
      opens = λ t z d e x u h i. tt;
      closes = λ t v x u h i. tt;
    }

    ends_of : (n : ℕ) (w : Option Message) (s : State) → R s0 s → (a z : After S)
        → Sim (beside any (traits m op) any_leaves) (traits m op) n w s a z → Ends a
    ends_of n w s l _ _ (sim_on e f x y c k v u r g) =
        kept_so.twice s0 s u l (kept_so.comes s u (came around here _ _ n w s k v u g))
    ends_of n w s l _ _ (sim_pick b e f q x y c k v u r g) =
        kept_so.twice s0 s u l (kept_so.comes s u (came around here _ _ n w s k v u g))
    ends_of n w s l _ _ (sim_up e c t x y z k v u r g) = kept_so.twice s0 s u l (kept_so.comes s u g)
    ends_of n w s l _ _ (sim_over u q g) = kept_so.twice s0 s u l (kept_so.comes s u g)
    ends_of n w s l _ _ (sim_bad z) = tt

  pub does_ends : (op : Op) (as' : List Arg) (m : Mode) (d : Option ℕ) (hs : List Held) (f : Frame S) (s : State)
      → R s0 s → Ends (does o around here op as' m d hs f s)
  does_ends op as' m d hs f s l =
      ends_of op m d f.save f.window s l _ _ (one_does (any op m d) op (any_leaves op m d) as' hs f s tt)
