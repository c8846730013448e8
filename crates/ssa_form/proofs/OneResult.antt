-- Each form of a body has at most one result, which is lawful.
use Rattle.std.proofs.Common.{◌≡◌, ◌≢◌, ◌≤◌, ◌⊎◌, ⊎_elim, inl, inr, ℕ, zero, suc, List, [], length, Option, Some, None, refl, sym, ap, ◌∙◌, arith}
use Rattle.erl_term.specs.Term.{Term}
use Rattle.erl_term.specs.Terms.{Values}
use Rattle.world_model.specs.Run.{State, Outcome}
use Rattle.step_machine.specs.Bodies.{Here}
use Rattle.step_machine.specs.Frames.{MatchContext}
use Rattle.ssa_form.specs.Ssa.{Body}
use Rattle.ssa_form.specs.Storage.{Storage, Around, Ended, done, unfinished}
use Rattle.ssa_form.specs.SsaRun.{in_vars, body_run, all_terms, ssa_run}
use Rattle.ssa_form.specs.PlacedRun as Placed
use Rattle.ssa_form.specs.PlacedRun.{in_registers, no_registers, run_if, placed_run}
use Rattle.ssa_form.specs.FramedRun as Framed
use Rattle.ssa_form.specs.FramedRun.{in_stack, framed_run}
use Rattle.pass_contract.specs.Lawful.{Lawful, IsLawful}
use Rattle.pass_contract.specs.PassContract.{Run, fitting, IsProper}
use Rattle.pass_contract.proofs.Fitting.{fitting_suffices}
use Rattle.ssa_form.specs.PassView.{result_of, ssa_does, placed_does, framed_does, BodiesAreProper}
use Rattle.ssa_form.proofs.StateRuns.{body_lawful}
use Rattle.ssa_form.proofs.MoreBlocks.{more}

-- a run that, once it is over, stays so
abbrev Stays : (ℕ → Ended) → Type 0
Stays run = (k j : ℕ) → k ≤ j → run k ≢ unfinished → run j ≡ run k

order : (a b : ℕ) → (a ≤ b) ⊎ (b ≤ a)
order zero b = inl (omega arith)
order (suc a) zero = inr (omega arith)
order (suc a) (suc b) = ⊎_elim (λ h. inl (omega (arith, h))) (λ h. inr (omega (arith, h))) (order a b)

some_same : (r q : State × Outcome Term) → Some r ≡ Some q → r ≡ q
some_same r q e = cc

is_over : (x : Ended) (r : State × Outcome Term) → result_of x ≡ Some r → x ≢ unfinished
is_over (done s q) r e u = cc
is_over Ended.bad r e u = cc
is_over unfinished r e u = cc

done_so : (x : Ended) (r : State × Outcome Term) → result_of x ≡ Some r → x ≡ done r.0 r.1
done_so (done s q) r e = ap (λ z. done z.0 z.1) (some_same (s, q) r e)
done_so Ended.bad r e = absurd cc
done_so unfinished r e = absurd cc

one_of : (run : ℕ → Ended) → Stays run → (k j : ℕ) (r q : State × Outcome Term) → result_of (run k) ≡ Some r
    → result_of (run j) ≡ Some q → r ≡ q
one_of run h k j r q e f = ⊎_elim
    (λ l. some_same r q (sym e ∙ ap result_of (sym (h k j l (is_over (run k) r e))) ∙ f))
    (λ l. some_same r q (sym e ∙ ap result_of (h j k l (is_over (run j) q f)) ∙ f))
    (order k j)

body_stays : {S : Type 0} (o : Storage S) (around : Around) (here : Here) (b : Body) (st : S) (cs : List MatchContext)
    (s : State) → Stays (λ k. body_run o around here b k st cs s)
body_stays o around here b st cs s k j l u = more o around here b k j l None 0 0 _ s u

if_stays : {A : Type 0} (x : Option A) (run : ℕ → A → Ended) → ((a : A) → Stays (λ k. run k a))
    → Stays (λ k. run_if x (run k))
if_stays None run h k j l u = refl
if_stays (Some a) run h k j l u = h a k j l u

-- a run whose results are those of turns, and lawful
turns_proper : (run : Here → Values → State → ℕ → Ended)
    → ((here : Here) (vs : Values) (s : State) → Stays (run here vs s))
    → ((here : Here) (vs : Values) (s u : State) (q : Outcome Term) (k : ℕ) → IsLawful here.enter
    → run here vs s k ≡ done u q → Lawful s u)
    → IsProper (λ here vs s k. result_of (run here vs s k))
turns_proper run stays lawful = record {
  one_result = λ here vs s r q g h. one_of (run here vs s) (stays here vs s) g.within h.within r q g.gives h.gives;
  lawful = λ here vs s r l g. lawful here vs s r.0 r.1 g.within l (done_so (run here vs s g.within) r g.gives);
}

if_lawful : {A : Type 0} (x : Option A) (run : A → Ended) (s u : State) (q : Outcome Term)
    → ((a : A) → run a ≡ done u q → Lawful s u) → run_if x run ≡ done u q → Lawful s u
if_lawful None run s u q h e = absurd cc
if_lawful (Some a) run s u q h e = h a e

module _ (fits : (n : ℕ) (run : Run) → IsProper run → IsProper (fitting n run)) where
  ssa_proper : (b : Body) (around : Around) → IsProper (ssa_does b around)
  unfolding ssa_run
  ssa_proper b around = fits (length b.params) _ (turns_proper
      (λ here vs s k. ssa_run around here b k (all_terms vs) [] s)
      (λ here vs s. body_stays in_vars around here b _ [] s)
      (λ here vs s u q k l e. body_lawful in_vars around here s b k _ [] u q e l))

  placed_proper : (p : Placed.Placed) (around : Around) → IsProper (placed_does p around)
  unfolding placed_run
  placed_proper p around = fits (length p.body.params) _ (turns_proper
      (λ here vs s k. placed_run around here p k (all_terms vs) [] s)
      (λ here vs s. if_stays (Placed.params_in p.spots p.body.params (all_terms vs) no_registers)
      (λ k st. body_run (in_registers p.spots) around here p.body k st [] s)
      (λ st. body_stays (in_registers p.spots) around here p.body st [] s))
      (λ here vs s u q k l e. if_lawful (Placed.params_in p.spots p.body.params (all_terms vs) no_registers)
      (λ st. body_run (in_registers p.spots) around here p.body k st [] s) s u q
      (λ st h. body_lawful (in_registers p.spots) around here s p.body k st [] u q h l) e))

  framed_proper : (p : Framed.Framed) (around : Around) → IsProper (framed_does p around)
  unfolding framed_run
  framed_proper p around = fits (length p.body.params) _ (turns_proper
      (λ here vs s k. framed_run around here p k (all_terms vs) [] s)
      (λ here vs s. if_stays (Framed.params_in p.spots p.sizes p.body.params (all_terms vs) _)
      (λ k st. body_run (in_stack p.spots p.sizes) around here p.body k st [] s)
      (λ st. body_stays (in_stack p.spots p.sizes) around here p.body st [] s))
      (λ here vs s u q k l e. if_lawful (Framed.params_in p.spots p.sizes p.body.params (all_terms vs) _)
      (λ st. body_run (in_stack p.spots p.sizes) around here p.body k st [] s) s u q
      (λ st h. body_lawful (in_stack p.spots p.sizes) around here s p.body k st [] u q h l) e))

pub proper_each : BodiesAreProper
proper_each = record {
  ssa = ssa_proper fitting_suffices.proper;
  placed = placed_proper fitting_suffices.proper;
  framed = framed_proper fitting_suffices.proper;
}
