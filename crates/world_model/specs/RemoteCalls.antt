-- Calls of functions by module and name, calls of terms, and raises by an earlier trace (Core Erlang 1.0.3, section 5:
-- apply, call, primop raise).
use Rattle.std.specs.Prelude.{ℕ, ◌+◌, [], ◌∷◌, ◌++◌, length, Bool, false, not, ◌&&◌, eqb, Option, Some, None, if◌then◌else◌, codes}
use Rattle.erl_base.specs.Names.{Name, same_name}
use Rattle.erl_term.specs.Term as T
use Rattle.erl_term.specs.Term.{Term, none, more}
use Rattle.erl_term.specs.Terms.{Values, listed, list_of, tagged}
use Rattle.bif_table.specs.BuiltinAnswer.{lookup, answer, badarg}
use Rattle.world_model.specs.Run.{M, fail}
use Rattle.world_model.specs.Requests.{call_out, answers, is_send, send_or_call}

-- a call of the module erlang, in a process with this pid: listed functions are answered, sends are requests, and so is
-- everything else
unfoldable pub call_erlang : Term → Name → Values → M Values
unfolding answer
call_erlang own f vs = elim (lookup f (length vs)) [
  | Some b ↦ answers (answer b own vs)
  | None ↦ if is_send f then send_or_call f vs else call_out (codes "erlang") f vs
]

-- a call of a module's function by terms, which have to be atoms
unfoldable pub call_terms : Term → Term → Term → Values → M Values
unfolding call_erlang
call_terms own (T.atom m) (T.atom f) vs =
    if same_name m (codes "erlang") then call_erlang own f vs else call_out m f vs
call_terms own _ _ vs = fail T.error badarg

-- the reason of a call of f with another number of arguments than its arity
abbrev pub badarity : Term → Values → Term
badarity f vs = tagged (codes "badarity") (T.tuple (more f (more (list_of vs T.nil) none)))

-- whether a function, if there is one, has n parameters
abbrev pub takes : Option ℕ → ℕ → Bool
takes None n = false
takes (Some k) n = eqb k n

-- what a call of a fun sees of the module that runs: its name, how many parameters each of its functions has, those for
-- captured terms too, and how one is entered
pub record Callees : Type 0 where
  pub name : Name
  pub parameters : ℕ → Option ℕ
  pub enter : ℕ → Values → M Values

-- a call of a term; a fun of another module, or of another version of this one, is a request
abbrev pub apply_term : Callees → Term → Values → M Values
apply_term callees (T.fun m s a cs) vs =
    if not (eqb a (length vs)) then fail T.error (badarity (T.fun m s a cs) vs)
    else if same_name m callees.name && takes (callees.parameters s) (a + length (listed cs))
    then callees.enter s (vs ++ listed cs)
    else call_out (codes "erlang") (codes "apply") (T.fun m s a cs ∷ list_of vs T.nil ∷ [])
apply_term callees (T.extern m f a) vs =
    if not (eqb a (length vs)) then fail T.error (badarity (T.extern m f a) vs) else call_out m f vs
apply_term callees t vs = fail T.error (tagged (codes "badfun") t)

-- raises with the class that a raw trace keeps
abbrev pub raise_again : Term → Term → M Values
raise_again (T.raw_trace c) r = fail c r
raise_again _ r = fail T.error badarg
