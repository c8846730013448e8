-- Raises, and where they are caught (Core Erlang 1.0.3, section 5: try, catch, do, primop).
use Rattle.std.specs.Prelude.{◌≡◌, List, [], ◌∷◌}
use Rattle.erl_term.specs.Term as T
use Rattle.world_model.specs.World as W
use Rattle.world_model.specs.World.{Reply, asked}
use Rattle.world_model.specs.Run.{gives, raises}
use Rattle.core_form.specs.Core.{Expr}
use Rattle.core_meaning.specs.CoreRun.{Result}
use Rattle.core_examples.specs.Build.{i, v, a, asks, tuple, do_then, catch, try, primop, atom, tuple_of, runs, shown, script, reply, called, fails}

-- an expression, where these replies come
abbrev pub with_replies : Expr → List Reply → Result
with_replies e rs = runs [] e [] [] (script [] rs)

-- a raise with the reason x in place of the answer of a call
abbrev pub raised : W.How → Reply
raised h = reply [] h (atom "x")

-- where raises go, and what is caught
pub record Raises : Type 0 where
  -- a handler does not catch what the second part raises
  pub second_part :
      with_replies (try (i 1) "X" (asks "a") ("C" ∷ "E" ∷ "T" ∷ []) (a "caught")) (raised W.error ∷ [])
      ≡ shown (called "a" (raised W.error) ∷ []) [] (fails "x")
  -- after a raise the second part of `do` is not evaluated
  pub first_of_do : with_replies (do_then (asks "a") (asks "b")) (raised W.throw ∷ raised W.exit ∷ [])
      ≡ shown (called "a" (raised W.throw) ∷ []) [] (raises T.throw (atom "x"))
  -- the three variables of a handler are the class, the reason and a trace of that class
  pub handler_variables :
      with_replies (try (asks "a") "X" (v "X") ("C" ∷ "E" ∷ "T" ∷ []) (tuple (v "C" ∷ v "E" ∷ v "T" ∷ [])))
      (raised W.exit ∷ [])
      ≡ shown (called "a" (raised W.exit) ∷ []) []
      (gives (tuple_of (atom "exit" ∷ atom "x" ∷ T.raw_trace T.exit ∷ [])))
  -- a failed function head raises the atom, also where the tuple holds nothing more
  pub function_head : with_replies (primop "match_fail" (tuple (a "function_clause" ∷ []) ∷ [])) []
      ≡ shown [] [] (fails "function_clause")
  -- the trace is what the world says, not the argument
  pub trace_of_the_world : with_replies (tuple (primop "build_stacktrace" (i 7 ∷ []) ∷ [])) (raised W.return ∷ [])
      ≡ shown (asked W.trace (raised W.return) ∷ []) [] (gives (tuple_of (atom "x" ∷ [])))
  -- a caught error holds its trace, however the world gives it
  pub caught_error : with_replies (catch (asks "a")) (raised W.error ∷ reply [] W.exit (atom "y") ∷ [])
      ≡ shown (called "a" (raised W.error) ∷ asked W.trace (reply [] W.exit (atom "y")) ∷ []) []
      (gives (tuple_of (atom "EXIT" ∷ tuple_of (atom "x" ∷ atom "y" ∷ []) ∷ [])))
