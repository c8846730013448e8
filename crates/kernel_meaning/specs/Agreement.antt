-- When trying clauses agrees, and which functions in kernel form do: the contract of passes says what agreement is.
use Rattle.std.specs.Prelude.{◌≡◌, ◌≤◌, ℕ, Bool, IsTrue, Option, Some, None}
use Rattle.erl_base.specs.Names.{Name}
use Rattle.erl_term.specs.Term.{Term}
use Rattle.erl_term.specs.Terms.{Values}
use Rattle.world_model.specs.Run.{M}
use Rattle.world_model.specs.Receive.{Tried}
use Rattle.step_machine.specs.Bodies.{here_of}
use Rattle.pass_contract.specs.SameRun.{Compared, Agree, EntersAgree}
use Rattle.pass_contract.specs.PassContract.{at_once, Agrees}
use Rattle.kernel_form.specs.Kernel.{Expr, Tree, Cases, SegRows, Fun}
use Rattle.kernel_meaning.specs.Environment.{Env, Rests, Setting}
use Rattle.kernel_meaning.specs.KernelRun.{Falls, meaning, tree_does, cases_do, rows_do, fun_does}

-- what comes of trying clauses: the same body, or none on both sides
unfoldable pub OptionAgrees : Compared → {A : Type 0} → Option (M A) → Option (M A) → Type 0
OptionAgrees w None None = Unit {0}
OptionAgrees w (Some m) (Some k) = Agree w m k
OptionAgrees w _ _ = ⊥

-- and no more sub-binaries, if they are compared
pub record TriedAgrees (w : Compared) {A : Type 0} (old new : Tried A) : Type 0 where
  pub cuts : IsTrue w.cuts → new.cuts ≤ old.cuts
  pub body : OptionAgrees w old.body new.body

-- falls that agree wherever they go
unfoldable pub FallsAgree : Compared → Falls → Falls → Type 0
FallsAgree w fs gs = (k : ℕ) (r : Rests) → TriedAgrees w (fs k r) (gs k r)

-- an expression that may stand for another one, wherever it stands
abbrev pub ExprAgrees : Compared → Setting → Expr → Expr → Type 0
ExprAgrees c w old new =
    (name : Name) (own : Term) (f g : ℕ → Values → M Term) → EntersAgree c f g → (env : Env) (tail : Bool) →
    Agree c (meaning w (here_of name own f) old env tail) (meaning w (here_of name own g) new env tail)

-- a node of a tree that may stand for another one, wherever it stands: whatever the contexts are, and wherever falls go
abbrev pub NodeAgrees : Compared → Setting → Tree → Tree → Type 0
NodeAgrees c w old new =
    (name : Name) (own : Term) (f g : ℕ → Values → M Term) → EntersAgree c f g → (env : Env) (r : Rests) (tail : Bool)
    (fs gs : Falls) → FallsAgree c fs gs →
    TriedAgrees c (tree_does w (here_of name own f) old env r tail fs)
    (tree_does w (here_of name own g) new env r tail gs)

-- the cases of a switch, before trees that agree
abbrev pub CasesAgree : Compared → Setting → Cases → Cases → Type 0
CasesAgree c w old new =
    (name : Name) (own : Term) (f g : ℕ → Values → M Term) → EntersAgree c f g → (u : Term) (env : Env) (r : Rests)
    (tail : Bool) (fs gs : Falls) → FallsAgree c fs gs → (a b : Tried Values) → TriedAgrees c a b →
    TriedAgrees c (cases_do w (here_of name own f) old u env r tail fs a)
    (cases_do w (here_of name own g) new u env r tail gs b)

-- the rows of segments, before trees that agree
abbrev pub RowsAgree : Compared → Setting → SegRows → SegRows → Type 0
RowsAgree c w old new =
    (name : Name) (own : Term) (f g : ℕ → Values → M Term) → EntersAgree c f g → (u : Term) (env : Env) (r : Rests)
    (tail : Bool) (fs gs : Falls) → FallsAgree c fs gs → (a b : Tried Values) → TriedAgrees c a b →
    TriedAgrees c (rows_do w (here_of name own f) old u env r tail fs a)
    (rows_do w (here_of name own g) new u env r tail gs b)

-- every function agrees with itself at each of its nodes
pub record AgreesAtNodes : Type 0 where
  pub exprs : (c : Compared) (w : Setting) (e : Expr) → ExprAgrees c w e e
  pub trees : (c : Compared) (w : Setting) (t : Tree) → NodeAgrees c w t t

-- functions with one meaning agree, whatever is compared
abbrev pub SameMeaningAgrees : Type 0
SameMeaningAgrees =
    (c : Compared) (w : Setting) (old new : Fun) → fun_does w old ≡ fun_does w new
    → Agrees c (at_once (fun_does w old)) (at_once (fun_does w new))
