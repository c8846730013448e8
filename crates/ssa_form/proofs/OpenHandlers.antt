-- Storages that keep track of the handlers that are open.
use Rattle.std.proofs.Common.{◌≡◌, ℕ, List, [], ◌∷◌, Bool, true, false, Some, None, refl, sym, ap, eqb, if◌then◌else◌}
use Rattle.ssa_form.specs.Ssa.{FrameAction}
use Rattle.ssa_form.specs.Storage.{Held, Handler, Leaving, calls, ends_body, always_raises, Storage}
use Rattle.ssa_form.specs.SsaRun.{Vars, in_vars, first_handler, without_first, with_handlers, only_if, no_handlers, vars_leave}

-- open: the handlers from the inside out; nothing but `opens` and `closes` changes them
pub record Tracks {S : Type 0} (o : Storage S) (open_in : S → List Handler) : Type 0 where
  pub first : (st : S) → o.handler st ≡ first_handler (open_in st)
  pub writes : (w : Bool) (v : ℕ) (h : Held) (st u : S) → o.write w v h st ≡ Some u → open_in u ≡ open_in st
  pub collects : (st u : S) → o.collects st ≡ Some u → open_in u ≡ open_in st
  pub leaves : (l : Leaving) (st u : S) → o.leaves l st ≡ Some u → open_in u ≡ open_in st
  pub arrives : (n : ℕ) (st u : S) → o.arrives n st ≡ Some u → open_in u ≡ open_in st
  pub forgets : (st : S) → open_in (o.forgets st) ≡ open_in st
  pub opens : (h : Handler) (st u : S) → o.opens h st ≡ Some u → open_in u ≡ h ∷ open_in st
  pub closes : (v : ℕ) (st u : S) → o.closes v st ≡ Some u → (h : Handler) × (open_in st ≡ h ∷ open_in u)
  pub acts : (w : Bool) (a : FrameAction) (st u : S) → o.acts w a st ≡ Some u → open_in u ≡ open_in st

-- With a value for each variable.

pub some_is : {A : Type 0} (a b : A) → Some a ≡ Some b → a ≡ b
some_is a b e = cc

pub none_is : {A : Type 0} (a : A) → None ≡ Some a → ⊥
none_is a e = cc

vars_leave_alone : (l : Leaving) (st u : Vars) → vars_leave l st ≡ Some u → u.handlers ≡ st.handlers
vars_leave_alone calls st u e = ap (λ x. x.handlers) (sym (some_is st u e))
vars_leave_alone ends_body st u e = only (no_handlers st.handlers) e
  where
    only : (b : Bool) → only_if b st ≡ Some u → u.handlers ≡ st.handlers
    only true e = ap (λ x. x.handlers) (sym (some_is st u e))
    only false e = absurd (none_is u e)
vars_leave_alone always_raises st u e = ap (λ x. x.handlers) (sym (some_is st u e))

pub vars_close : (v : ℕ) (hs : List Handler) (st u : Vars) → with_handlers st (without_first v hs) ≡ Some u
    → (h : Handler) × (hs ≡ h ∷ u.handlers)
vars_close v [] st u e = absurd (none_is u e)
vars_close v (h ∷ hs) st u e = closing (eqb h.tag v) e
  where
    closing : (b : Bool) → with_handlers st (if b then Some hs else None) ≡ Some u
        → (k : Handler) × (h ∷ hs ≡ k ∷ u.handlers)
    closing true e = (h, ap (λ x. h ∷ x.handlers) (some_is _ _ e))
    closing false e = absurd (none_is u e)

pub vars_track : Tracks in_vars (λ st. st.handlers)
vars_track = record {
  first = λ st. refl;
  writes = λ w v h st u e. ap (λ x. x.handlers) (sym (some_is _ u e));
  collects = λ st u e. ap (λ x. x.handlers) (sym (some_is _ u e));
  leaves = vars_leave_alone;
  arrives = λ n st u e. ap (λ x. x.handlers) (sym (some_is _ u e));
  forgets = λ st. refl;
  opens = λ h st u e. ap (λ x. x.handlers) (sym (some_is _ u e));
  closes = λ v st u e. vars_close v st.handlers st u e;
  acts = λ w a st u e. absurd (none_is u e);
}
