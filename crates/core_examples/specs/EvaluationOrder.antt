-- The order in which the parts of an expression are evaluated (Core Erlang 1.0.3, section 5: from left to right).
use Rattle.std.specs.Prelude.{◌≡◌, List, [], ◌∷◌, true, false}
use Rattle.erl_term.specs.Term as T
use Rattle.world_model.specs.World.{Reply, Happening, taken}
use Rattle.world_model.specs.Run.{gives}
use Rattle.core_form.specs.Core as C
use Rattle.core_form.specs.Core.{Expr}
use Rattle.core_form.specs.View.{exprs}
use Rattle.core_meaning.specs.CoreRun.{Result}
use Rattle.core_examples.specs.Build.{p0, i, v, a, asks, apply, tuple, list, map_with, puts, binary, segment, receive, clause, any, int, atom, tuple_of, map_of, runs, shown, script, back, called, fails, fails_with, look}

-- the reply to the first call
abbrev pub first_reply : Reply
first_reply = back (int 1)

-- the reply to the second call
abbrev pub second_reply : Reply
second_reply = back (int 2)

-- the reply to the third
abbrev pub third_reply : Reply
third_reply = back (map_of [])

-- an expression, where up to three calls are answered
abbrev pub seen_of : Expr → Result
seen_of e = runs [] e [] [] (script [] (first_reply ∷ second_reply ∷ third_reply ∷ []))

-- one call happens
abbrev pub a_alone : List Happening
a_alone = called "a" first_reply ∷ []

-- two calls
abbrev pub a_then_b : List Happening
a_then_b = called "a" first_reply ∷ called "b" second_reply ∷ []

-- three calls
abbrev pub a_b_c : List Happening
a_b_c = called "a" first_reply ∷ called "b" second_reply ∷ called "c" third_reply ∷ []

-- what is evaluated before what
pub record EvaluationOrder : Type 0 where
  -- elements are evaluated from left to right
  pub elements : seen_of (tuple (asks "a" ∷ asks "b" ∷ []))
      ≡ shown a_then_b [] (gives (tuple_of (int 1 ∷ int 2 ∷ [])))
  -- an operator before its arguments
  pub operator : seen_of (apply (asks "a") (asks "b" ∷ [])) ≡ shown a_then_b [] (fails_with "badfun" (int 1))
  -- the arguments of what is no fun are evaluated before it raises
  pub no_operator : seen_of (apply (i 7) (asks "a" ∷ [])) ≡ shown a_alone [] (fails_with "badfun" (int 7))
  -- the module of a call before its function, and both before its arguments
  pub call_names : seen_of (C.call p0 (asks "a") (asks "b") (exprs (asks "c" ∷ []))) ≡ shown a_b_c [] (fails "badarg")
  -- the pairs of a map before its base, and a key before its value
  pub map_pairs : seen_of (map_with (puts (asks "a") (asks "b") ∷ []) (asks "c"))
      ≡ shown a_b_c [] (gives (map_of ((int 1, int 2) ∷ [])))
  -- the value of a segment before its size
  pub segment_parts : seen_of (binary (segment (asks "a") (asks "b") 1 "integer" ∷ []))
      ≡ shown a_then_b [] (gives (T.bits (false ∷ true ∷ [])))
  -- all segments before one of them raises
  pub all_segments :
      seen_of (binary (segment (a "x") (i 8) 1 "integer" ∷ segment (asks "a") (i 8) 1 "integer" ∷ []))
      ≡ shown a_alone [] (fails "badarg")
  -- the items of a list before its tail
  pub list_items : seen_of (list (asks "a" ∷ []) (asks "b")) ≡ shown a_then_b [] (gives (T.cons (int 1) (int 2)))
  -- the timeout of a receive before its messages are tried
  pub timeout_first :
      runs [] (receive (clause (any "X") (v "X") ∷ []) (asks "a") (a "late")) [] []
      (script (atom "m" ∷ []) (first_reply ∷ []))
      ≡ record (shown (called "a" first_reply ∷ taken 0 ∷ []) [] (gives (atom "m"))) {
        looks = look 0 true ∷ [];
        examined = 0 ∷ [];
      }
