-- From functions that are realized one by one to what is said of a module.
use Rattle.std.proofs.Common.{◌≡◌, ◌≤◌, ℕ, suc, [], length, IsTrue, refl, sym, ap, subst, ◌∙◌, arith}
use Rattle.erl_base.specs.declared.ids.FunKey.{FunKey}
use Rattle.erl_term.specs.Term.{Term}
use Rattle.erl_term.specs.Terms.{Values}
use Rattle.world_model.specs.Run.{State, Outcome, spent, entries}
use Rattle.world_model.specs.World.{Script}
use Rattle.core_form.specs.Core.{Module}
use Rattle.core_meaning.specs.CoreRun as E
use Rattle.core_meaning.specs.CoreRun.{evaluated, deep, known, known_export}
use Rattle.core_meaning.proofs.Kept.{entries_within, entries_spent}
use Rattle.step_machine.specs.Follows.{OneWay, Reaches, site_list}
use Rattle.step_machine.specs.Steps.{Ran, run}
use Rattle.step_machine.proofs.OneWayLaws.{run_once, both_ways}
use Rattle.beam_table.specs.Code.{AsmModule}
use Rattle.beam_table.specs.InstructionStep.{step}
use Rattle.beam_table.specs.MachineRun.{start, asm_run}
use Rattle.pass_contract.specs.SameRun.{Compared}
use Rattle.pass_contract.specs.PassContract.{Run}
use Rattle.behaviour.proofs.Bridge.{ordered, follows_said, tails_said, costs_said}
use Rattle.behaviour.proofs.Entering.{start_at_entry, start_holds}
use Rattle.behaviour.proofs.Whole.{meant, one_way, cheap_way, length_sites, same_results_show}
use Rattle.behaviour.specs.MachineTarget.{target}
use Rattle.behaviour.specs.Realizes.{CostsNoted, Matches}
use Rattle.behaviour.specs.Matched.{FollowsTails, FollowsCosts}
use Rattle.behaviour.specs.FunctionsGiveModule.{Finds, Compiled, FunctionsGiveModule, ShowsCosts, BindsNone, CompiledCheaply, FunctionsGiveCosts, CompiledBy, PassesGiveModule, PassesGiveCosts}
use Rattle.behaviour.specs.SameBehaviour.{FollowsResults}

module _ (m : Module) (a : AsmModule) (f : FunKey) (vs : Values) (x : Script) (found : Finds m a f)
    (arity : length vs ≡ f.arity) (r : Compiled m a f vs x) where
  abbrev old : ℕ → State × Outcome Term
  old n = deep (known m x.own) (suc n) (known_export m f) vs (E.start x n)

  within : (n : ℕ) → length (site_list (entries (old n).0.notes)) ≤ n
  within n = omega (
    arith,
    length_sites (entries (old n).0.notes),
    entries_within (known m x.own) n (known_export m f) vs x,
  )

  spends : (n : ℕ) → (old n).1 ≡ spent → length (site_list (entries (old n).0.notes)) ≡ n
  spends n e = length_sites (entries (old n).0.notes) ∙ entries_spent (known m x.own) n (known_export m f) vs x e

  begun : (n : ℕ) → Matches (target a x.own) (E.start x n) (start x vs found.function.code) x.replies []
  begun n = record {
    replies = refl;
    noted = record { happened = refl; entered = refl; tails = tt; looked = tt };
    costs = record { looked = refl; subs = omega arith };
    mailbox = start_holds n x vs found.function.code;
  }

  abbrev from_start : ℕ → Ran
  from_start k = run (step a) k (start x vs found.function.code) x.replies []

  ways : OneWay from_start (λ n. meant (old n))
  ways = one_way (target a x.own) m.name x.own r.runs r.meaning r.realized r.means [] (λ u s. refl) (λ c u s. refl)
      (known_export m f) vs (start x vs found.function.code) x.replies
      (start_at_entry a (known_export m f) found.function x vs found.found (arity ∙ found.arity)) (E.start x)
      (λ k. refl) begun old r.shown within spends

  cheap : ((n : ℕ) → ShowsCosts (old n) (r.meaning (suc n) (known_export m f) vs (E.start x n)))
      → (n : ℕ) → (k : ℕ) × Reaches (from_start k) (meant (old n)) × CostsNoted (old n).0.notes (from_start k).log
  cheap = cheap_way (target a x.own) m.name x.own r.runs r.meaning r.realized r.means [] (λ u s. refl) (λ c u s. refl)
      (known_export m f) vs (start x vs found.function.code) x.replies
      (start_at_entry a (known_export m f) found.function x vs found.found (arity ∙ found.arity)) (E.start x)
      (λ k. refl) begun old r.shown within spends

  runs_asm : from_start ≡ asm_run a f vs x
  unfolding asm_run
  runs_asm = λ i k. run (step a) k (start x vs (sym found.code i)) x.replies []

  means_evaluated : (λ n. ordered x.choices (meant (old n))) ≡ evaluated m f vs x
  unfolding evaluated
  means_evaluated = refl

  pub call_follows : FollowsResults (asm_run a f vs x) (evaluated m f vs x)
  call_follows = subst (λ z. FollowsResults z (evaluated m f vs x)) runs_asm
      (subst (λ z. FollowsResults from_start z) means_evaluated
      (follows_said x.choices _ _
      (both_ways _ _ (λ k. run_once (step a) k (start x vs found.function.code) x.replies []) ways)))

  pub call_tails : FollowsTails (asm_run a f vs x) (evaluated m f vs x)
  call_tails = subst (λ z. FollowsTails z (evaluated m f vs x)) runs_asm
      (subst (λ z. FollowsTails from_start z) means_evaluated
      (tails_said x.choices _ _ ways))

  pub call_costs : ((n : ℕ) → ShowsCosts (old n) (r.meaning (suc n) (known_export m f) vs (E.start x n)))
      → BindsNone m f vs x → FollowsCosts (asm_run a f vs x) (evaluated m f vs x)
  call_costs c u = subst (λ z. FollowsCosts z (evaluated m f vs x)) runs_asm
      (subst (λ z. FollowsCosts from_start z) means_evaluated
      (costs_said x.choices from_start (λ n. meant (old n)) (cheap c)
      (λ n. ap (λ e. e.marks) (λ i. means_evaluated i n) ∙ u n)))

pub functions_give_module : FunctionsGiveModule
functions_give_module m a i finds each = (
  record {
    interface = i;
    follows = λ f vs x c. call_follows m a f vs x (finds f c.exported) c.arity (each f vs x c);
  },
  λ f vs x c. call_tails m a f vs x (finds f c.exported) c.arity (each f vs x c),
)

pub functions_give_costs : FunctionsGiveCosts
functions_give_costs m a finds each f vs x c =
    let h : CompiledCheaply m a f vs x = each f vs x c in
    call_costs m a f vs x (finds f c.exported) c.arity h.compiled h.costs h.unmarked

-- a row of passes

module _ (w : Compared) (m : Module) (a : AsmModule) (runs : Term → ℕ → Run) (h : CompiledBy w m a runs) where
  by_row : (f : FunKey) (vs : Values) (x : Script) → Compiled m a f vs x
  by_row f vs x = record {
    runs = runs x.own;
    realized = h.realized x.own;
    meaning = (h.same x.own).meaning;
    means = (h.same x.own).means;
    shown = λ n. (same_results_show w _ _ ((h.same x.own).same (suc n) (known_export m f) vs (E.start x n))).0;
  }

  cheaply : IsTrue w.cuts → (f : FunKey) (vs : Values) (x : Script) → BindsNone m f vs x → CompiledCheaply m a f vs x
  unfolding by_row
  cheaply c f vs x u = record {
    compiled = by_row f vs x;
    costs = λ n. (same_results_show w _ _ ((h.same x.own).same (suc n) (known_export m f) vs (E.start x n))).1 c;
    unmarked = u;
  }

pub passes_give_module : PassesGiveModule
passes_give_module w m a runs i finds h =
    functions_give_module m a i finds (λ f vs x c. by_row w m a runs h f vs x)

pub passes_give_costs : PassesGiveCosts
passes_give_costs w c m a runs finds h u =
    functions_give_costs m a finds (λ f vs x d. cheaply w m a runs h c f vs x (u f vs x d))
