-- How many sub-binaries it may take to try clauses, and which rests are handed on without one (this project's own).
use Rattle.std.specs.Prelude.{◌≡◌, ℕ, List, [], ◌∷◌}
use Rattle.erl_term.specs.Term.{Term}
use Rattle.world_model.specs.Run.{Outcome, gives}
use Rattle.core_form.specs.Core.{Expr, Pattern, Clause, Def}
use Rattle.core_meaning.specs.CoreRun.{Result}
use Rattle.core_examples.specs.Build.{i, v, a, apply, name_of, local, primop, erlang, same, values, tuple, let_in, do_then, case, clause, when, yes, any, literal_like, alias, tuple_like, bits_like, part_like, byte_like, bits_byte, rest_like, byte_and_rest, taker, def, own_fun, int, atom, tuple_of, list_term, bytes, runs, script, alone, back, fails_with}

-- how many sub-binaries a call of f may make, and how it ends
abbrev pub made : Result → ℕ × Outcome Term
made r = (r.subs, r.end)

-- 'f'/1 = fun (B) -> case B of .., before these functions, called with a term
abbrev pub tried : List Clause → List Def → Term → ℕ × Outcome Term
tried cs ds t = made (runs ("B" ∷ []) (case (v "B") cs) ds (t ∷ []) alone)

-- the binary that most are called with
abbrev pub three_bytes : Term
three_bytes = bytes (1 ∷ 2 ∷ 3 ∷ [])

-- #{V, R}#, where V is the first byte as bits
abbrev pub bits_and_rest : Pattern
bits_and_rest = bits_like (bits_byte "V" ∷ rest_like "R" ∷ [])

-- <#{V, R}#> when 'true' -> E
abbrev pub first_byte : Expr → Clause
first_byte e = clause byte_and_rest e

-- a call of the function that takes a rest apart
abbrev pub hands_on : Expr
hands_on = local "tk" (v "R" ∷ [])

-- the same loop, whose clauses are these
abbrev pub looped : List Clause → ℕ × Outcome Term
looped cs = tried cs [] three_bytes

-- a call of the loop with the rest
abbrev pub again : Expr
again = local "f" (v "R" ∷ [])

-- a function that takes one byte off and fails at anything else
abbrev pub one_byte : Def
one_byte = def "ob" ("B" ∷ []) (case (v "B") (first_byte (local "ob" (v "R" ∷ [])) ∷ []))

-- which parts of a binary are made
pub record PassedOnRests : Type 0 where
  -- a rest that is handed on in a tail call, to a function that takes it apart, is not made
  pub handed_on : tried (first_byte hands_on ∷ []) (taker ∷ []) three_bytes ≡ (0, gives (atom "end"))
  -- a binary pattern under an alias does not take the parameter apart, so that each rest is made
  pub under_an_alias : looped (clause (alias "C" byte_and_rest) again ∷ clause (any "_0") (a "end") ∷ [])
      ≡ (3, gives (atom "end"))
  -- a use in the guard is a use
  pub used_in_the_guard :
      tried (when (byte_and_rest ∷ []) (erlang "is_binary" (v "R" ∷ [])) hands_on ∷ [])
      (taker ∷ []) three_bytes
      ≡ (1, gives (atom "end"))
  -- a parameter that is used twice is not taken apart
  pub used_twice :
      made (runs ("B" ∷ []) (case (values (v "B" ∷ v "B" ∷ []))
      (when (byte_and_rest ∷ any "X" ∷ []) yes again
      ∷ when (any "_0" ∷ any "_1" ∷ []) yes (a "end") ∷ [])) [] (three_bytes ∷ []) alone)
      ≡ (3, gives (atom "end"))
  -- what is left as a number is no rest: the function that it is handed to fails without making any bits
  pub left_as_a_number :
      tried (clause (bits_like (byte_like "V" ∷ part_like (any "R") (a "all") 8 "integer" ∷ []))
      (local "ob" (v "R" ∷ [])) ∷ [])
      (def "ob" ("B" ∷ []) (case (v "B") (clause (bits_like (byte_like "V" ∷ [])) (a "one") ∷ [])) ∷ []) three_bytes
      ≡ (0, fails_with "case_clause" (int 515))
  -- while a rest that a failing case has in its reason is made
  pub failing_case : tried (first_byte (local "ob" (v "R" ∷ [])) ∷ []) (one_byte ∷ []) three_bytes
      ≡ (1, fails_with "case_clause" (bytes []))
  -- the first part of `do` is no tail call
  pub first_of_do : tried (first_byte (do_then hands_on (i 1)) ∷ []) (taker ∷ []) three_bytes ≡ (1, gives (int 1))
  -- a call with another number of arguments hands nothing on
  pub another_arity :
      tried (first_byte (apply (name_of "tk" 1) (v "R" ∷ i 1 ∷ [])) ∷ []) (taker ∷ []) three_bytes
      ≡ (1, fails_with "badarity" (tuple_of (own_fun 1 1 [] ∷ list_term (bytes (2 ∷ 3 ∷ []) ∷ int 1 ∷ []) ∷ [])))
  -- only match_fail fails: another primop uses what its tuple holds
  pub another_primop :
      made (runs ("B" ∷ []) (case (v "B")
      (first_byte again
      ∷ clause (any "B2") (primop "build_stacktrace" (tuple (a "function_clause" ∷ v "B2" ∷ []) ∷ [])) ∷ [])) []
      (three_bytes ∷ []) (script [] (back (atom "trace") ∷ [])))
      ≡ (3, gives (atom "trace"))
  -- a clause that is not in tail position hands nothing on
  pub not_in_tail_position :
      made (runs ("B" ∷ []) (let_in "X" (case (v "B") (first_byte hands_on ∷ [])) (v "X")) (taker ∷ [])
      (three_bytes ∷ []) alone)
      ≡ (1, gives (atom "end"))
  -- what is not used is not made
  pub unused : tried (clause bits_and_rest (i 1) ∷ []) [] three_bytes
      ≡ (0, gives (int 1))
  -- what a later segment has as its size is made, also where that segment does not match
  pub used_as_a_size :
      tried (clause (bits_like (bits_byte "S" ∷ part_like (any "T") (v "S") 1 "binary" ∷ [])) (i 1)
      ∷ clause (any "Y") (i 2) ∷ []) [] three_bytes
      ≡ (1, gives (int 2))
  -- a guard's own case makes what it uses
  pub case_in_a_guard :
      tried (when (any "Y" ∷ []) (case (v "Y") (clause bits_and_rest (same (v "V") (v "R")) ∷ [])) (i 1)
      ∷ clause (any "Z") (i 2) ∷ []) [] three_bytes
      ≡ (2, gives (int 2))
  -- behind a literal that does not match no segment is made
  pub behind_a_literal :
      tried (clause
      (bits_like (bits_byte "V" ∷ part_like (literal_like (int 9)) (i 8) 1 "integer" ∷ bits_byte "W" ∷ []))
      (tuple (v "V" ∷ v "W" ∷ [])) ∷ clause (any "X") (i 2) ∷ []) [] three_bytes
      ≡ (1, gives (int 2))
  -- a tuple of another width is not looked into
  pub another_width :
      tried (clause (tuple_like (bits_and_rest ∷ [])) (tuple (v "V" ∷ v "R" ∷ []))
      ∷ clause (any "X") (i 2) ∷ []) [] (tuple_of (three_bytes ∷ int 1 ∷ []))
      ≡ (0, gives (int 2))
