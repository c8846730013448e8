-- What a quiet part of a run leaves: the handlers as they were, and no higher rank.
use Rattle.std.proofs.Common.{◌≡◌, ℕ, suc, List, ◌∷◌, length, Bool, true, false, ◌&&◌, Option, Some, None, refl, sym, ap, ◌∙◌, arith}
use Rattle.world_model.specs.World as W
use Rattle.world_model.specs.World.{Reply, Message, Delay, forever, millis}
use Rattle.world_model.specs.Run.{State, answered}
use Rattle.step_machine.specs.Bodies.{Here}
use Rattle.ssa_form.specs.Storage.{Held, Handler, Storage, Frame, After, next, Around, when, if_some, outside, kept, in_window}
use Rattle.ssa_form.specs.Operations.{put}
use Rattle.ssa_form.proofs.Rank.{AtMost, same, most_twice, rank, Fits}
use Rattle.ssa_form.proofs.OpenHandlers.{Tracks}
use Rattle.ssa_form.proofs.Spending.{Uses, reply}
use Rattle.ssa_form.proofs.Moves.{uses_most}

-- the handlers stay, the message that is looked at stands at the save place if it did, and the rank does not rise
pub record Eases {S : Type 0} (open_in : S → List Handler) (f : Frame S) (s : State) (g : Frame S)
    (u : State) : Type 0 where
  pub handlers : open_in g.store ≡ open_in f.store
  pub fits : Fits f s → Fits g u
  pub falls : AtMost (rank g u) (rank f s)

-- it goes on so, or broke a rule
abbrev pub OnlyOn : {S : Type 0} → (S → List Handler) → Frame S → State → After S → Type 0
OnlyOn open_in f s (next g u) = Eases open_in f s g u
OnlyOn open_in f s After.bad = Unit {0}
OnlyOn open_in f s _ = ⊥

pub eased : {S : Type 0} (open_in : S → List Handler) (f : Frame S) (s : State) → Eases open_in f s f s
eased open_in f s = record { handlers = refl; fits = λ h. h; falls = same refl refl refl refl }

pub none_some : {A : Type 0} (o : Option A) (a : A) → o ≡ None → o ≡ Some a → ⊥
none_some o a e f = let g : None ≡ Some a = sym e ∙ f in cc

pub and_first : (a b : Bool) → (a && b) ≡ true → a ≡ true
and_first true b e = refl
and_first false b e = absurd cc

pub answered_uses : (q : W.Request) (r : Reply) (rs : List Reply) (s : State) → r ∷ rs ≡ s.replies
    → Uses s (answered q r rs s)
answered_uses q r rs s e = let k : suc (length rs) ≡ length s.replies = ap length e in reply refl (omega (arith, k))

-- What holds of a condition's outcome, where it holds of a broken rule.

pub some_holds : {A S : Type 0} (P : After S → Type 0) → P After.bad → (x : Option A) (k : A → After S)
    → ((a : A) → x ≡ Some a → P (k a)) → P (if_some x k)
some_holds P b None k h = b
some_holds P b (Some a) k h = h a refl

pub when_holds : {S : Type 0} (P : After S → Type 0) → P After.bad → (b : Bool) (a : After S)
    → (b ≡ true → P a) → P (when b a)
when_holds P q true a h = h refl
when_holds P q false a h = q

pub outside_holds : {S : Type 0} (P : After S → Type 0) → P After.bad → (f : Frame S) (a : After S)
    → (f.window ≡ None → P a) → P (outside f a)
outside_holds P q f a h = by_window f.window h
  where
    by_window : (v : Option Message) → (v ≡ None → P a) → P (elim v [ None ↦ a | Some x ↦ After.bad ])
    by_window None h = h refl
    by_window (Some x) h = q

-- where a run begins
pub record Walk (S : Type 0) : Type 0 where
  pub o : Storage S
  pub around : Around
  pub here : Here
  pub open_in : S → List Handler
  pub tracks : Tracks o open_in
  pub f0 : Frame S
  pub s0 : State

module _ {S : Type 0} (w : Walk S) where
  abbrev pub Eased : Frame S → State → Type 0
  Eased f s = Eases w.open_in w.f0 w.s0 f s

  pub kept_eased : (f : Frame S) (s : State) (st : S) → Eased f s → w.open_in st ≡ w.open_in f.store
      → Eased (kept f st) s
  kept_eased f s st e q = record { handlers = q ∙ e.handlers; fits = e.fits; falls = e.falls }

  pub uses_eased : (f : Frame S) (s u : State) → Eased f s → f.window ≡ None → Uses s u → Eased f u
  uses_eased f s u e v x = record {
    handlers = e.handlers;
    fits = λ h m p. absurd (none_some f.window m v p);
    falls = most_twice _ _ _ (uses_most f.save f.window s u x) e.falls;
  }

  pub put_only : (dst : Option ℕ) (h : Held) (f : Frame S) (s : State) → Eased f s
      → OnlyOn w.open_in w.f0 w.s0 (put w.o w.around w.here dst h f s)
  put_only None h f s e = e
  put_only (Some v) h f s e =
      written (w.o.write (in_window f) v h f.store) (λ st p. w.tracks.writes (in_window f) v h f.store st p)
    where
      written : (x : Option S) → ((st : S) → x ≡ Some st → w.open_in st ≡ w.open_in f.store)
          → OnlyOn w.open_in w.f0 w.s0 (if_some x (λ st. next (kept f st) s))
      written None k = tt
      written (Some st) k = kept_eased f s st e (k st refl)
