-- Laws of all runs.
use Rattle.std.proofs.Common.{◌≡◌, ◌≤◌, ◌⊎◌, inl, inr, ⊎_elim, ℕ, zero, suc, List, [], ◌∷◌, ◌++◌, refl, ap, arith}
use Rattle.world_model.specs.World.{Reply, asked}
use Rattle.step_machine.proofs.OneWayLaws.{Once, once_trans, run_once}
use Rattle.step_machine.specs.RunFacts.{Later, IsEnded, NotWaiting, under}
use Rattle.step_machine.specs.Steps.{Event, happened, Stepped, goes, ends, bad, notes, asks, Ran, perform, run, AfterSteps, reach_by, reach, from_there, up}

module _ {S : Type 0} (step : S → Stepped S) where
  -- more steps after an end change nothing, and the log only grows
  pub once : (k j : ℕ) (m : S) (rs : List Reply) (log : List Event) → k ≤ j
      → Once (run step k m rs log) (run step j m rs log)
  once k zero m rs log le = inl (ap (λ z. run step z m rs log) (omega (arith, le)))
  once k (suc j) m rs log le = ⊎_elim
      (λ l. once_trans _ _ _ (once k j m rs log l) (run_once step j m rs log))
      (λ e. inl (ap (λ z. run step z m rs log) e))
      (split k j le)
    where
      split : (a b : ℕ) → a ≤ suc b → (a ≤ b) ⊎ (suc b ≡ a)
      split zero b l = inl (omega arith)
      split (suc a) zero l = inr (omega (arith, l))
      split (suc a) (suc b) l =
          ⊎_elim (λ h. inl (omega (arith, h))) (λ e. inr (omega (arith, e))) (split a b (omega (arith, l)))

  pub stays_ended : (k j : ℕ) (m : S) (rs : List Reply) (log : List Event) → k ≤ j → IsEnded (run step k m rs log)
      → run step j m rs log ≡ run step k m rs log
  stays_ended k j m rs log le h = ⊎_elim (λ e. e) (λ u. absurd (h u.0)) (once k j m rs log le)

  log_later : (a b : Ran) → Once a b → Later a.log b.log
  log_later a b (inl e) = ([], ap (λ r. r.log) e)
  log_later a b (inr h) = h.1

  pub log_grows : (k j : ℕ) (m : S) (rs : List Reply) (log : List Event) → k ≤ j
      → Later (run step k m rs log).log (run step j m rs log).log
  log_grows k j m rs log le = log_later _ _ (once k j m rs log le)

  -- what a step leads to, before what a run does from there
  perform_splits : (s : Stepped S) (f h : S → List Reply → List Event → Ran)
      (g : S → List Reply → List Event → AfterSteps S) →
      ((m : S) (rs : List Reply) (log : List Event) → f m rs log ≡ from_there (g m rs log) h) →
      (rs : List Reply) (log : List Event) → perform s f rs log ≡ from_there (reach_by s g rs log) h
  perform_splits (goes m) f h g e rs log = e m rs log
  perform_splits (ends o) f h g e rs log = refl
  perform_splits bad f h g e rs log = refl
  perform_splits (notes n s) f h g e rs log = perform_splits s f h g e rs (n ∷ log)
  perform_splits (asks q a) f h g e [] log = refl
  perform_splits (asks q a) f h g e (r ∷ rs) log = perform_splits (a r) f h g e rs _

  -- j steps, and k more
  pub splits : (j k : ℕ) (m : S) (rs : List Reply) (log : List Event)
      → run step (up j k) m rs log ≡ from_there (reach step j m rs log) (run step k)
  unfolding run reach
  splits zero k m rs log = refl
  splits (suc j) k m rs log =
      perform_splits (step m) (run step (up j k)) (run step k) (reach step j) (splits j k) rs log

  perform_under : (s : Stepped S) (f : S → List Reply → List Event → Ran) (base : List Event) →
      ((m : S) (rs : List Reply) (log : List Event) → f m rs (log ++ base) ≡ under base (f m rs log)) →
      (rs : List Reply) (log : List Event) → perform s f rs (log ++ base) ≡ under base (perform s f rs log)
  perform_under (goes m) f base e rs log = e m rs log
  perform_under (ends o) f base e rs log = refl
  perform_under bad f base e rs log = refl
  perform_under (notes n s) f base e rs log = perform_under s f base e rs (n ∷ log)
  perform_under (asks q a) f base e [] log = refl
  perform_under (asks q a) f base e (r ∷ rs) log = perform_under (a r) f base e rs (happened (asked q r) ∷ log)

  -- what was noted before doesn't matter
  pub runs_under : (k : ℕ) (m : S) (rs : List Reply) (log base : List Event)
      → run step k m rs (log ++ base) ≡ under base (run step k m rs log)
  unfolding run
  runs_under zero m rs log base = refl
  runs_under (suc k) m rs log base =
      perform_under (step m) (run step k) base (λ n ss l. runs_under k n ss l base) rs log

  perform_further : (s : Stepped S) (f : S → List Reply → List Event → Ran) (more : List Reply) →
      ((m : S) (rs : List Reply) (log : List Event) → NotWaiting (f m rs log) → f m (rs ++ more) log ≡ f m rs log) →
      (rs : List Reply) (log : List Event) → NotWaiting (perform s f rs log)
      → perform s f (rs ++ more) log ≡ perform s f rs log
  perform_further (goes m) f more e rs log w = e m rs log w
  perform_further (ends o) f more e rs log w = refl
  perform_further bad f more e rs log w = refl
  perform_further (notes n s) f more e rs log w = perform_further s f more e rs (n ∷ log) w
  perform_further (asks q a) f more e [] log w = absurd (w q refl)
  perform_further (asks q a) f more e (r ∷ rs) log w = perform_further (a r) f more e rs _ w

  -- nor do replies that aren't asked for
  pub runs_further : (k : ℕ) (m : S) (rs more : List Reply) (log : List Event) → NotWaiting (run step k m rs log)
      → run step k m (rs ++ more) log ≡ run step k m rs log
  unfolding run
  runs_further zero m rs more log w = refl
  runs_further (suc k) m rs more log w =
      perform_further (step m) (run step k) more (λ n ss l h. runs_further k n ss more l h) rs log w
