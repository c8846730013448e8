-- What laws of runs speak of.
use Rattle.std.specs.Prelude.{◌≡◌, ◌≢◌, ◌≤◌, ◌<◌, ◌+◌, ℕ, List, ◌++◌, length, suc}
use Rattle.erl_base.specs.declared.ids.FunKey.{FunKey}
use Rattle.erl_term.specs.Terms.{Values}
use Rattle.world_model.specs.World.{Script}
use Rattle.world_model.specs.Run.{State, entries, spent}
use Rattle.core_form.specs.Core.{Module}
use Rattle.core_meaning.specs.CoreRun.{Known, deep, evaluated}

-- one list begins the other
abbrev pub Begins : {A : Type 0} → List A → List A → Type 0
Begins {A} xs ys = (zs : List A) × (ys ≡ xs ++ zs)

-- a run is the same with a larger bound, unless the bound ended it
abbrev pub SameWithMore : Type 0
SameWithMore =
    (m : Module) (f : FunKey) (vs : Values) (x : Script) (n k : ℕ) →
    n ≤ k → (evaluated m f vs x n).end ≢ spent → evaluated m f vs x k ≡ evaluated m f vs x n

-- what happens within a bound comes first within a larger one
abbrev pub HappensFirst : Type 0
HappensFirst =
    (m : Module) (f : FunKey) (vs : Values) (x : Script) (n k : ℕ) →
    n ≤ k → Begins (evaluated m f vs x n).happenings (evaluated m f vs x k).happenings

-- and so does what is entered
abbrev pub EntersFirst : Type 0
EntersFirst =
    (m : Module) (f : FunKey) (vs : Values) (x : Script) (n k : ℕ) →
    n ≤ k → Begins (evaluated m f vs x n).entries (evaluated m f vs x k).entries

-- entering a function at any depth: the entries that are noted and those that are left are as many after as before
abbrev pub EntriesAreSpent : Type 0
EntriesAreSpent =
    (m : Known) (d f : ℕ) (vs : Values) (s : State) →
    length (entries (deep m d f vs s).0.notes) + (deep m d f vs s).0.left ≡ length (entries s.notes) + s.left

-- a run has no more entries than its bound
abbrev pub EntersWithin : Type 0
EntersWithin =
    (m : Module) (f : FunKey) (vs : Values) (x : Script) (n : ℕ) →
    length (evaluated m f vs x n).entries ≤ n

-- and that many where the bound ends it
abbrev pub SpentAtBound : Type 0
SpentAtBound =
    (m : Module) (f : FunKey) (vs : Values) (x : Script) (n : ℕ) →
    (evaluated m f vs x n).end ≡ spent → length (evaluated m f vs x n).entries ≡ n

-- the depth to which functions are entered never ends a run: one more than the entries left is as good as any above it
abbrev pub DepthIsEnough : Type 0
DepthIsEnough =
    (m : Known) (f : ℕ) (vs : Values) (s : State) (d : ℕ) →
    s.left < d → deep m d f vs s ≡ deep m (suc s.left) f vs s
