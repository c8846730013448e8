-- The contracts of passes over decision trees: the new tree takes the same row, and does the same with it.
use Rattle.std.specs.Prelude.{◌≤◌, ◌+◌, ◌⊎◌, max, ℕ, List, map, length, Bool, IsTrue, Contains}
use Rattle.erl_base.specs.Names.{Name}
use Rattle.erl_term.specs.Term.{Term}
use Rattle.erl_term.specs.Terms.{Values}
use Rattle.world_model.specs.Run.{M}
use Rattle.step_machine.specs.Bodies.{here_of}
use Rattle.kernel_form.specs.Kernel.{Tree, Row, var, match_in}
use Rattle.kernel_meaning.specs.Environment.{Env, no_rests, read_all, Setting}
use Rattle.kernel_meaning.specs.KernelRun.{no_falls, tree_does, clauses_do}
use Rattle.pass_contract.specs.SameRun.{Compared, EntersAgree}
use Rattle.pass_contract.specs.PassContract.{most, deepest, are_fitting, most_made, most_named, IsLeft}
use Rattle.kernel_meaning.specs.Agreement.{TriedAgrees}
use Rattle.kernel_meaning.specs.Walks.{binders, receives, let_calls}
use Rattle.kernel_meaning.specs.Wanted.{wanted}
use Rattle.kernel_meaning.specs.Literals.{literals, argument_counts}
use Rattle.kernel_meaning.specs.Tested.{sizes_named}

-- a whole tree, whose falls without an alternative take no row, whatever is compared
abbrev pub TreeAgrees : Tree → Tree → Type 0
TreeAgrees old new =
    (c : Compared) (w : Setting) (name : Name) (own : Term) (f g : ℕ → Values → M Term) → EntersAgree c f g →
    (env : Env) (tail : Bool) →
    TriedAgrees c (tree_does w (here_of name own f) old env no_rests tail no_falls)
    (tree_does w (here_of name own g) new env no_rests tail no_falls)

-- a tree does what clauses do with the values of these variables
abbrev pub TreeTakesRows : List ℕ → List Row → Tree → Type 0
TreeTakesRows places xs new =
    (c : Compared) (w : Setting) (name : Name) (own : Term) (f g : ℕ → Values → M Term) → EntersAgree c f g →
    (env : Env) (tail : Bool) →
    TriedAgrees c (clauses_do w (here_of name own f) xs (read_all env (map var places)) env tail)
    (tree_does w (here_of name own g) new env no_rests tail no_falls)

-- what a pass over one tree keeps, as passes over functions do; what it adds has numbers from the next one on
pub record TreeKeeps (next : ℕ) (old new : Tree) : Type 0 where
  pub agrees : TreeAgrees old new
  pub receives : IsLeft (receives (match_in old)) (receives (match_in new))
  pub added : (v : ℕ) → Contains (binders (match_in new)) v → Contains (binders (match_in old)) v ⊎ (next ≤ v)
  pub calls : (v : ℕ) → Contains (let_calls (match_in new)) v → Contains (binders (match_in old)) v
      → Contains (let_calls (match_in old)) v
  pub stays : (v : ℕ) → Contains (let_calls (match_in old)) v → Contains (binders (match_in new)) v
      → Contains (let_calls (match_in new)) v
  pub variables : length (binders (match_in new)) + wanted (match_in new)
      ≤ length (binders (match_in old)) + wanted (match_in old)
  pub deepest : deepest (literals (match_in new)) ≤ max (deepest (literals (match_in old))) most_made
  pub fitting : IsTrue (are_fitting (literals (match_in old))) → IsTrue (are_fitting (literals (match_in new)))
  pub widest : most (argument_counts (match_in new)) ≤ most (argument_counts (match_in old))
  pub highest : most (sizes_named (match_in new)) ≤ max (most (sizes_named (match_in old))) most_named
