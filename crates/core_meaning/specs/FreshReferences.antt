-- Scripts whose marking calls return new references (this project's own).
use Rattle.std.specs.Prelude.{◌≡◌, ℕ, List, Bool, false, ◌||◌, eqb, IsFalse, All}
use Rattle.erl_base.specs.declared.ids.FunKey.{FunKey}
use Rattle.erl_term.specs.Term as T
use Rattle.erl_term.specs.Term.{Term, Terms, none, more, Pairs, no_pair, pair}
use Rattle.world_model.specs.World.{Script}
use Rattle.world_model.specs.Run.{Marked}
use Rattle.core_form.specs.Core.{Module}
use Rattle.core_meaning.specs.CoreRun.{evaluated}

-- whether a reference occurs in a term, at any depth
abbrev mutual
  pub occurs : ℕ → Term → Bool
  occurs n (T.reference m) = eqb n m
  occurs n (T.cons x y) = occurs n x || occurs n y
  occurs n (T.tuple ts) = occurs_in n ts
  occurs n (T.map ps) = occurs_pairs n ps
  occurs n (T.fun m s a ts) = occurs_in n ts
  occurs n _ = false

  pub occurs_in : ℕ → Terms → Bool
  occurs_in n none = false
  occurs_in n (more t ts) = occurs n t || occurs_in n ts

  pub occurs_pairs : ℕ → Pairs → Bool
  occurs_pairs n no_pair = false
  occurs_pairs n (pair k v ps) = occurs n k || occurs n v || occurs_pairs n ps

-- a marking call returned a reference that no message held before
abbrev pub IsFresh : Marked → Type 0
IsFresh x = (n : ℕ) × (x.reference ≡ T.reference n) × All (λ w. IsFalse (occurs n w.term)) x.before

-- so does each marking call of a run, with any bound
abbrev pub Fresh : Module → FunKey → List Term → Script → Type 0
Fresh m f vs x = (n : ℕ) → All IsFresh (evaluated m f vs x n).marks
