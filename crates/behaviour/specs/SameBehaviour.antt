-- An assembly module behaves as a Core module: whatever is called, whatever the world does, with every bound.
use Rattle.std.specs.Prelude.{◌≡◌, ◌≢◌, ℕ, List, length}
use Rattle.erl_base.specs.declared.ids.FunKey.{FunKey}
use Rattle.erl_term.specs.Term.{Term}
use Rattle.world_model.specs.World.{Script}
use Rattle.core_form.specs.Core.{Module}
use Rattle.core_meaning.specs.CoreRun.{Result, evaluated}
use Rattle.step_machine.specs.Steps.{Ran, is_bad}
use Rattle.beam_table.specs.Code.{AsmModule}
use Rattle.beam_table.specs.MachineRun.{asm_run}
use Rattle.behaviour.specs.Called.{Called, export_keys, each_once}
use Rattle.behaviour.specs.Matched.{sites_in, ReachesResult, StaysWithin, FollowsTails, FollowsCosts}

-- the same name, attributes and exports
pub record SameInterface (m : Module) (a : AsmModule) : Type 0 where
  pub name : a.name ≡ m.name
  pub attributes : a.attributes ≡ m.attributes
  pub exports : a.exports ≡ each_once (export_keys m)

-- run k: with k steps; eval n: with at most n entries
pub record FollowsResults (run : ℕ → Ran) (eval : ℕ → Result) : Type 0 where
  pub core_run_is_matched : (n : ℕ) → (k : ℕ) × ReachesResult (run k) (eval n)
  pub machine_run_is_matched : (k : ℕ) → StaysWithin (run k) (eval (length (sites_in (run k))))
  pub never_bad : (k : ℕ) → (run k).end ≢ is_bad

-- the same interface, and every call is followed
pub record SameBehaviour (m : Module) (a : AsmModule) : Type 0 where
  pub interface : SameInterface m a
  pub follows : (f : FunKey) (vs : List Term) (x : Script) → Called m f vs x →
      FollowsResults (asm_run a f vs x) (evaluated m f vs x)

-- where a run reaches what the module does, its tail entries stay tail entries
abbrev pub TailCalls : Module → AsmModule → Type 0
TailCalls m a = (f : FunKey) (vs : List Term) (x : Script) → Called m f vs x
    → FollowsTails (asm_run a f vs x) (evaluated m f vs x)

-- where a run reaches what the module does, it examines the same messages and makes no more sub-binaries
abbrev pub CheapCalls : Module → AsmModule → Type 0
CheapCalls m a = (f : FunKey) (vs : List Term) (x : Script) → Called m f vs x
    → FollowsCosts (asm_run a f vs x) (evaluated m f vs x)
