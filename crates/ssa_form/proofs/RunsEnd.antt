-- The runs of the three forms are over under the cycle rule, and give no entries back.
use Rattle.std.proofs.Common.{◌≡◌, ◌≢◌, ◌≤◌, ℕ, List, [], Option, Some, None, refl, sym, subst, ◌∙◌}
use Rattle.erl_term.specs.Term.{Term}
use Rattle.erl_term.specs.Terms.{Values}
use Rattle.world_model.specs.Run.{State, Outcome, M}
use Rattle.step_machine.specs.Bodies.{Here}
use Rattle.step_machine.specs.EntryBound.{Lowers}
use Rattle.step_machine.specs.Frames.{MatchContext}
use Rattle.pass_contract.specs.Lawful.{Lawful, IsLawful}
use Rattle.ssa_form.specs.Ssa.{Body}
use Rattle.ssa_form.specs.Storage.{Handler, Storage, Ended, done, unfinished, Around}
use Rattle.ssa_form.specs.Flow.{point, begins, Reached}
use Rattle.ssa_form.specs.SsaRun.{in_vars, body_run, ssa_run}
use Rattle.ssa_form.specs.PlacedRun as Placed
use Rattle.ssa_form.specs.PlacedRun.{Registers, in_registers, no_registers, run_if, placed_run}
use Rattle.ssa_form.specs.FramedRun as Framed
use Rattle.ssa_form.specs.FramedRun.{Stack, in_stack, size_at, first_frame, framed_run}
use Rattle.ssa_form.specs.WellFormed.{CycleRule}
use Rattle.ssa_form.specs.RunLaws.{IsOver, RunsEnd, RunsLower}
use Rattle.ssa_form.proofs.OpenHandlers.{Tracks, vars_track}
use Rattle.ssa_form.proofs.SpotHandlers.{registers_track, params_keep, stack_track, open_tags, stack_params_keep, first_untagged}
use Rattle.ssa_form.proofs.Eases.{none_some}
use Rattle.ssa_form.proofs.Turns.{Config, Good}
use Rattle.ssa_form.proofs.Cycles.{is_over_soon}
use Rattle.ssa_form.proofs.StateRuns.{body_lowers}

-- what is lawful gives no entries back, so these laws hold of what the contracts of passes enter
pub lawful_lowers : (enter : ℕ → Values → M Term) → IsLawful enter → Lowers enter
lawful_lowers enter l n vs s = let h : Lawful s (enter n vs s).0 = l n vs s in h.left

module _ {S : Type 0} (o : Storage S) (around : Around) (here : Here) (lowers : Lowers here.enter)
    (open_in : S → List Handler) (tracks : Tracks o open_in) (b : Body) where
  abbrev first_config : S → List MatchContext → State → Config S
  first_config st cs s = record {
    raised = None;
    from = 0;
    at = 0;
    frame = record { store = st; contexts = cs; save = 0; window = None };
    state = s;
  }

  first_good : (st : S) (cs : List MatchContext) (s : State) → open_in st ≡ []
      → Good o around here lowers open_in tracks b (first_config st cs s)
  first_good st cs s e = record {
    came = subst (Reached b (point 0 0)) (sym e) (b.params, begins);
    fits = λ m p. absurd (none_some None m refl p);
  }

  body_ends : (st : S) (cs : List MatchContext) (s : State) → open_in st ≡ [] → CycleRule b
      → IsOver (λ k. body_run o around here b k st cs s)
  body_ends st cs s e rule = let r : (k : ℕ)
      × (body_run o around here b k st cs s ≢ unfinished) = is_over_soon o around here lowers open_in tracks b rule
      (first_config st cs s) (first_good st cs s e) in record { within = r.0; over = r.1 }

-- where the arguments have a point
if_ends : {A : Type 0} (x : Option A) (run : ℕ → A → Ended) → ((a : A) → x ≡ Some a → IsOver (λ k. run k a))
    → IsOver (λ k. run_if x (run k))
if_ends None run h = record { within = 0; over = λ e. cc }
if_ends (Some a) run h = let r : IsOver (λ k. run k a) = h a refl in record { within = r.within; over = r.over }

if_lowers : {A : Type 0} (x : Option A) (run : A → Ended) (s u : State) (q : Outcome Term)
    → ((a : A) → run a ≡ done u q → u.left ≤ s.left) → run_if x run ≡ done u q → u.left ≤ s.left
if_lowers None run s u q h e = absurd cc
if_lowers (Some a) run s u q h e = h a e

pub runs_end : RunsEnd
unfolding ssa_run placed_run framed_run
runs_end = record {
  ssa = λ around here b hs cs s rule lowers. body_ends in_vars around here lowers
      (λ st. st.handlers) vars_track b _ cs s refl rule;
  placed = λ around here p hs cs s rule lowers. if_ends (Placed.params_in p.spots p.body.params hs no_registers)
      (λ k st. body_run (in_registers p.spots) around here p.body k st cs s) (λ st e.
      body_ends (in_registers p.spots) around here lowers (λ st. st.handlers) (registers_track p.spots) p.body st cs s
      (params_keep p.spots p.body.params hs no_registers st e) rule);
  framed = λ around here p hs cs s rule lowers. if_ends (Framed.params_in p.spots p.sizes p.body.params hs _)
      (λ k st. body_run (in_stack p.spots p.sizes) around here p.body k st cs s) (λ st e.
      body_ends (in_stack p.spots p.sizes) around here lowers (open_tags p.spots p.sizes)
      (stack_track p.spots p.sizes) p.body st cs s
      (stack_params_keep p.spots p.sizes p.body.params hs _ st e ∙ first_untagged (size_at p.sizes 0)) rule);
}

pub runs_lower_all : RunsLower
unfolding ssa_run placed_run framed_run
runs_lower_all = record {
  ssa = λ around here b k hs cs s u q lowers e. body_lowers in_vars around here s b k _ cs u q e lowers;
  placed = λ around here p k hs cs s u q lowers e. if_lowers (Placed.params_in p.spots p.body.params hs no_registers)
      (λ st. body_run (in_registers p.spots) around here p.body k st cs s) s u q
      (λ st h. body_lowers (in_registers p.spots) around here s p.body k st cs u q h lowers) e;
  framed = λ around here p k hs cs s u q lowers e. if_lowers (Framed.params_in p.spots p.sizes p.body.params hs _)
      (λ st. body_run (in_stack p.spots p.sizes) around here p.body k st cs s) s u q
      (λ st h. body_lowers (in_stack p.spots p.sizes) around here s p.body k st cs u q h lowers) e;
}
