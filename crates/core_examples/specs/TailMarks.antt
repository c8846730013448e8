-- Which calls by name are in tail position (Core Erlang 1.0.3, section 5).
use Rattle.std.specs.Prelude.{◌≡◌, List, [], ◌∷◌, true, false}
use Rattle.world_model.specs.World as W
use Rattle.world_model.specs.World.{Reply, asked, millis}
use Rattle.world_model.specs.Run.{Entry, gives}
use Rattle.core_form.specs.Core.{Expr, Def}
use Rattle.core_meaning.specs.CoreRun.{Result}
use Rattle.core_examples.specs.Build.{i, v, asks, local, case, do_then, catch, try, receive, clause, when, any, literal_like, byte_and_rest, taker, def, int, atom, bytes, runs, shown, script, alone, reply, nothing_came, called, entry}

-- 'g'/0 = fun () -> 3, at site 1
abbrev pub g : Def
g = def "g" [] (i 3)

-- a call of it
abbrev pub three : Expr
three = local "g" []

-- an expression that is the body of a function, where these replies come
abbrev pub in_body : Expr → List Reply → Result
in_body e rs = runs [] e (g ∷ []) [] (script [] rs)

-- a call out of tail position, and then one in it
abbrev pub inner_then_tail : List Entry
inner_then_tail = entry 1 false ∷ entry 1 true ∷ []

-- a throw in place of the answer of a call
abbrev pub thrown : Reply
thrown = reply [] W.throw (atom "x")

-- which calls are tail calls
pub record TailMarks : Type 0 where
  -- the first part of `do` is not in tail position
  pub of_do : in_body (do_then three three) [] ≡ shown [] inner_then_tail (gives (int 3))
  -- nor is a subject, while the body of a clause is
  pub of_case : in_body (case three (clause (literal_like (int 4)) (i 1) ∷ clause (any "X") three ∷ [])) []
      ≡ shown [] inner_then_tail (gives (int 3))
  -- the tried part is not, the handler is
  pub of_handler : in_body (try (do_then three (asks "a")) "X" (i 1) ("C" ∷ "E" ∷ "T" ∷ []) three) (thrown ∷ [])
      ≡ shown (called "a" thrown ∷ []) inner_then_tail (gives (int 3))
  -- and so is the part that takes its values
  pub of_try : in_body (try three "X" three ("C" ∷ "E" ∷ "T" ∷ []) (i 1)) []
      ≡ shown [] inner_then_tail (gives (int 3))
  -- what `catch` guards is not
  pub of_catch : in_body (catch three) [] ≡ shown [] (entry 1 false ∷ []) (gives (int 3))
  -- a timeout is not, and what follows it is
  pub of_timeout : in_body (receive [] three three) (nothing_came ∷ nothing_came ∷ [])
      ≡ shown (asked W.look nothing_came ∷ asked (W.wait (millis 3)) nothing_came ∷ []) inner_then_tail (gives (int 3))
  -- a guard is not: what its clauses hand on is a part of its own
  pub of_guard :
      runs ("X" ∷ []) (case (v "X")
      (when (any "Y" ∷ [])
      (case (v "Y") (clause byte_and_rest (local "tk" (v "R" ∷ [])) ∷ []))
      (i 1)
      ∷ clause (any "Z") (i 2) ∷ [])) (taker ∷ []) (bytes (1 ∷ 2 ∷ []) ∷ []) alone
      ≡ record (shown [] [] (gives (int 2))) { subs = 1 }
