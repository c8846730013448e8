-- Functions one by one give the module.
use Rattle.std.specs.Prelude.{◌≡◌, ℕ, suc, List, [], slice_get, Some, Contains, IsTrue}
use Rattle.erl_base.specs.declared.ids.FunKey.{FunKey}
use Rattle.erl_term.specs.Term.{Term}
use Rattle.erl_term.specs.Terms.{Values}
use Rattle.world_model.specs.Run.{State, Outcome, M}
use Rattle.world_model.specs.World.{Script}
use Rattle.core_form.specs.Core.{Module}
use Rattle.core_meaning.specs.CoreRun as E
use Rattle.core_meaning.specs.CoreRun.{deep, known, known_export, evaluated}
use Rattle.step_machine.specs.Follows.{Noted}
use Rattle.step_machine.specs.Steps.{Event}
use Rattle.beam_table.specs.Code.{AsmFun, AsmModule}
use Rattle.beam_table.specs.MachineRun.{code_of}
use Rattle.pass_contract.specs.SameRun.{Compared, SameResult}
use Rattle.pass_contract.specs.PassContract.{Run, IsMeaning, MeansSame}
use Rattle.behaviour.specs.Called.{Called, export_keys}
use Rattle.behaviour.specs.SameBehaviour.{SameInterface, SameBehaviour, TailCalls, CheapCalls}
use Rattle.behaviour.specs.Realizes.{CostsNoted, RunsRealized}
use Rattle.behaviour.specs.MachineTarget.{target}

-- what a new meaning has to show of an old one, so that a machine that follows the new one follows the old one:
-- whatever notes it has it has of the old one too, and the end is the same
pub record Shown (old new : State × Outcome Term) : Type 0 where
  pub noted : (log : List Event) → Noted new.0.notes log → Noted old.0.notes log
  pub end : new.1 ≡ old.1

-- and besides, so that it costs no more than the old one
abbrev pub ShowsCosts : State × Outcome Term → State × Outcome Term → Type 0
ShowsCosts old new = (log : List Event) → CostsNoted new.0.notes log → CostsNoted old.0.notes log

-- results that are the same show it, whatever is compared, and the costs where sub-binaries are
abbrev pub SameResultsShow : Type 0
SameResultsShow =
    (w : Compared) (old new : State × Outcome Term) → SameResult w old new
    → Shown old new × (IsTrue w.cuts → ShowsCosts old new)

-- the function of an export
pub record Finds (m : Module) (a : AsmModule) (f : FunKey) : Type 0 where
  pub function : AsmFun
  pub found : slice_get a.funs (known_export m f) ≡ Some function
  pub arity : f.arity ≡ function.key.arity
  pub code : code_of a.funs f ≡ function.code

-- functions in some form that the assembly realizes, and whose module shows what the Core module means for this call
pub record Compiled (m : Module) (a : AsmModule) (f : FunKey) (vs : Values) (x : Script) : Type 0 where
  pub runs : ℕ → Run
  pub realized : RunsRealized (target a x.own) m.name x.own runs
  pub meaning : ℕ → ℕ → Values → M Term
  pub means : IsMeaning m.name x.own runs meaning
  pub shown : (n : ℕ)
      → Shown (deep (known m x.own) (suc n) (known_export m f) vs (E.start x n))
      (meaning (suc n) (known_export m f) vs (E.start x n))

-- where that holds of each call, the modules behave the same, and tail entries stay tail entries
abbrev pub FunctionsGiveModule : Type 0
FunctionsGiveModule = (m : Module) (a : AsmModule) → SameInterface m a →
    ((f : FunKey) → Contains (export_keys m) f → Finds m a f) →
    ((f : FunKey) (vs : Values) (x : Script) → Called m f vs x → Compiled m a f vs x)
    → SameBehaviour m a × TailCalls m a

-- a call whose meaning binds no reference, whatever the bound, so that each message is looked at that is there
abbrev pub BindsNone : Module → FunKey → Values → Script → Type 0
BindsNone m f vs x = (n : ℕ) → (evaluated m f vs x n).marks ≡ []

-- functions in some form whose module shows the costs of the Core module too
pub record CompiledCheaply (m : Module) (a : AsmModule) (f : FunKey) (vs : Values) (x : Script) : Type 0 where
  pub compiled : Compiled m a f vs x
  pub costs : (n : ℕ)
      → ShowsCosts (deep (known m x.own) (suc n) (known_export m f) vs (E.start x n))
      (compiled.meaning (suc n) (known_export m f) vs (E.start x n))
  pub unmarked : BindsNone m f vs x

-- where that holds of each call, the calls cost no more
abbrev pub FunctionsGiveCosts : Type 0
FunctionsGiveCosts = (m : Module) (a : AsmModule) →
    ((f : FunKey) → Contains (export_keys m) f → Finds m a f) →
    ((f : FunKey) (vs : Values) (x : Script) → Called m f vs x → CompiledCheaply m a f vs x)
    → CheapCalls m a

-- passes in a row that lead to functions which the assembly realizes, whatever process runs them
pub record CompiledBy (w : Compared) (m : Module) (a : AsmModule) (runs : Term → ℕ → Run) : Type 0 where
  pub same : (own : Term) → MeansSame w m.name own (runs own) (deep (known m own))
  pub realized : (own : Term) → RunsRealized (target a own) m.name own (runs own)

-- that is enough
abbrev pub PassesGiveModule : Type 0
PassesGiveModule = (w : Compared) (m : Module) (a : AsmModule) (runs : Term → ℕ → Run) → SameInterface m a →
    ((f : FunKey) → Contains (export_keys m) f → Finds m a f) → CompiledBy w m a runs
    → SameBehaviour m a × TailCalls m a

-- and for the costs too, where sub-binaries are compared along the row and no call binds a reference
abbrev pub PassesGiveCosts : Type 0
PassesGiveCosts = (w : Compared) → IsTrue w.cuts → (m : Module) (a : AsmModule) (runs : Term → ℕ → Run) →
    ((f : FunKey) → Contains (export_keys m) f → Finds m a f) → CompiledBy w m a runs →
    ((f : FunKey) (vs : Values) (x : Script) → Called m f vs x → BindsNone m f vs x)
    → CheapCalls m a
