-- The calls that same behaviour speaks of.
use Rattle.std.specs.Prelude.{◌≡◌, ℕ, List, [], ◌∷◌, map, length, Contains, if◌then◌else◌}
use Rattle.erl_base.specs.Names.{same_key}
use Rattle.erl_base.specs.declared.ids.FunKey.{FunKey}
use Rattle.erl_term.specs.Term as T
use Rattle.erl_term.specs.Term.{Term}
use Rattle.world_model.specs.World.{Script}
use Rattle.core_form.specs.Core.{Module}
use Rattle.core_meaning.specs.FreshReferences.{Fresh}

-- the exports of a Core module
abbrev pub export_keys : Module → List FunKey
export_keys m = map (λ f. f.key) m.exports

-- an export with as many arguments as its arity, run by a process, and a script whose marking calls return new
-- references
pub record Called (m : Module) (f : FunKey) (vs : List Term) (x : Script) : Type 0 where
  pub exported : Contains (export_keys m) f
  pub arity : length vs ≡ f.arity
  pub own : (p : ℕ) × (x.own ≡ T.pid p)
  pub fresh : Fresh m f vs x

-- the others
abbrev pub without : FunKey → List FunKey → List FunKey
without f [] = []
without f (g ∷ gs) = if same_key f g then without f gs else g ∷ without f gs

-- each of them once, in their order
abbrev pub each_once : List FunKey → List FunKey
each_once [] = []
each_once (f ∷ fs) = f ∷ without f (each_once fs)
