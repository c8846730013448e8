-- Calls of a module's own functions, and primops (Core Erlang 1.0.3, section 5: apply, primop).
use Rattle.std.specs.Prelude.{ℕ, ◌+◌, List, [], ◌∷◌, length, slice_get, false, Option, Some, None, if◌then◌else◌, codes}
use Rattle.erl_base.specs.Names.{Name, same_name}
use Rattle.erl_term.specs.Term as T
use Rattle.erl_term.specs.Term.{Term, more}
use Rattle.erl_term.specs.Terms.{Values, word}
use Rattle.world_model.specs.World as W
use Rattle.world_model.specs.Run.{M, ◌>>=◌, fail, ask}
use Rattle.world_model.specs.Meaning.{single}
use Rattle.bif_table.specs.BuiltinAnswer.{badarg}
use Rattle.world_model.specs.RemoteCalls.{Callees, raise_again}
use Rattle.world_model.specs.Entries.{enter_site}
use Rattle.core_form.specs.Sites.{Site}
use Rattle.core_meaning.specs.PassedOnTail.{Param}

-- one activation of a function: what is fixed while its body is evaluated, and how a function is entered
-- reached: the parameters that passed-on variables reach; apart: the bindings of this function's own ones
pub record Invocation : Type 0 where
  pub name : Name
  pub own : Term
  pub sites : List Site
  pub reached : List Param
  pub apart : List ℕ
  pub enter : ℕ → Values → M Term

-- how many terms a site's function takes: arguments and captured terms
abbrev pub parameters_of : Option Site → Option ℕ
parameters_of None = None
parameters_of (Some x) = Some (length x.params + length x.captures)

-- the module as calls of funs see it; an entry by a fun is never in tail position
abbrev pub own_functions : Invocation → Callees
own_functions here = record {
  name = here.name;
  parameters = λ n. parameters_of (slice_get here.sites n);
  enter = λ n vs. enter_site here.enter n false vs;
}

-- a tuple that begins with 'function_clause' stands for that atom alone
abbrev pub fail_reason : Term → Term
fail_reason (T.tuple (more (T.atom a) ts)) =
    if same_name a (codes "function_clause") then word a else T.tuple (more (T.atom a) ts)
fail_reason t = t

-- the primops match_fail, build_stacktrace and raise (this project's own choice of three)
abbrev pub primitive : Name → Values → M Values
primitive n [] = fail T.error badarg
primitive n (t ∷ []) =
    if same_name n (codes "match_fail") then fail T.error (fail_reason t)
    else ask W.trace >>= λ r. single r.term
primitive n (t ∷ u ∷ us) = raise_again t u
