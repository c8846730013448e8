-- Clauses, guards and maps: examples, computed.
use Rattle.std.proofs.Common.{◌≡◌, List, [], ◌∷◌, true, false, codes, refl}
use Rattle.erl_term.specs.Term as T
use Rattle.erl_term.specs.Term.{Term, no_pair, pair}
use Rattle.world_model.specs.Run.{gives, raises}
use Rattle.core_form.specs.Core as C
use Rattle.core_form.specs.Core.{Module, Expr, Pattern}
use Rattle.core_form.specs.View.{parts, keys}
use Rattle.core_meaning.specs.CoreRun.{evaluated, Result}
use Rattle.core_meaning.proofs.Build.{p0, key, binders, atom, int, tuple_of, a, i, v, values, tuple, fun, case, erlang, same, any, known, tuple_like, yes, clause, def, program, alone, run}

abbrev pub of_one : Module → Term → Result
of_one m t = evaluated m (key (codes "f") 1) (t ∷ []) alone 10

abbrev pub gives_one : Term → Result
gives_one t = run [] [] (gives t)

abbrev pub with_one : Expr → Module
with_one e = program (codes "m") (def (codes "f") 1 (fun (codes "X" ∷ []) e) ∷ [])

-- a constructor, a variable, a constructor: the first clause that matches wins
abbrev three_clauses : Module
three_clauses = with_one (case (v (codes "X"))
    (clause (tuple_like (known (atom (codes "a")) ∷ any (codes "Y") ∷ []) ∷ []) yes (tuple (i 1 ∷ v (codes "Y") ∷ []))
    ∷ clause (any (codes "Y") ∷ []) yes (tuple (i 2 ∷ v (codes "Y") ∷ []))
    ∷ clause (tuple_like (known (atom (codes "b")) ∷ any (codes "Y") ∷ []) ∷ []) yes
    (tuple (i 3 ∷ v (codes "Y") ∷ [])) ∷ []))

first_clause_wins_second : of_one three_clauses (tuple_of (atom (codes "b") ∷ int 1 ∷ []))
    ≡ gives_one (tuple_of (int 2 ∷ tuple_of (atom (codes "b") ∷ int 1 ∷ []) ∷ []))
unfolding evaluated
first_clause_wins_second = refl

first_clause_wins_first : of_one three_clauses (tuple_of (atom (codes "a") ∷ int 5 ∷ []))
    ≡ gives_one (tuple_of (int 1 ∷ int 5 ∷ []))
unfolding evaluated
first_clause_wins_first = refl

-- a guard that divides by zero does not hold
abbrev divides : Expr
divides = same (erlang (codes "div") (i 1 ∷ v (codes "Y") ∷ [])) (i 1)

abbrev raising_guard : Module
raising_guard = with_one (case (v (codes "X"))
    (clause (any (codes "Y") ∷ []) divides (a (codes "one"))
    ∷ clause (any (codes "Z") ∷ []) yes (a (codes "other")) ∷ []))

raising_guard_does_not_hold : of_one raising_guard (int 0) ≡ gives_one (atom (codes "other"))
unfolding evaluated
raising_guard_does_not_hold = refl

guard_that_holds : of_one raising_guard (int 1) ≡ gives_one (atom (codes "one"))
unfolding evaluated
guard_that_holds = refl

-- a guard that catches its own raise and holds by the reason
abbrev guarded_try : Module
guarded_try = with_one (case (v (codes "X"))
    (clause (any (codes "Y") ∷ [])
    (C.try p0 divides (binders (codes "B" ∷ [])) (v (codes "B")) (binders (codes "C" ∷ codes "R" ∷ []))
    (same (v (codes "R")) (a (codes "badarith"))))
    (a (codes "yes")) ∷ clause (any (codes "Z") ∷ []) yes (a (codes "no")) ∷ []))

try_in_a_guard_raises : of_one guarded_try (int 0) ≡ gives_one (atom (codes "yes"))
unfolding evaluated
try_in_a_guard_raises = refl

try_in_a_guard_holds : of_one guarded_try (int 1) ≡ gives_one (atom (codes "yes"))
unfolding evaluated
try_in_a_guard_holds = refl

try_in_a_guard_fails : of_one guarded_try (int 2) ≡ gives_one (atom (codes "no"))
unfolding evaluated
try_in_a_guard_fails = refl

-- a case without a clause names its value, or the tuple of its values
abbrev two_values : Module
two_values = program (codes "m")
    (def (codes "f") 2 (fun (codes "X" ∷ codes "Y" ∷ []) (case (values (v (codes "X") ∷ v (codes "Y") ∷ []))
    (clause (known (int 1) ∷ known (int 2) ∷ []) yes (a (codes "ok")) ∷ []))) ∷ [])

case_clause_of_two_values : evaluated two_values (key (codes "f") 2) (int 1 ∷ int 3 ∷ []) alone 10
    ≡ run [] [] (raises T.error (tuple_of (atom (codes "case_clause") ∷ tuple_of (int 1 ∷ int 3 ∷ []) ∷ [])))
unfolding evaluated
case_clause_of_two_values = refl

abbrev one_value : Module
one_value = with_one (case (v (codes "X")) (clause (known (int 1) ∷ []) yes (a (codes "ok")) ∷ []))

case_clause_of_one_value : of_one one_value (int 3)
    ≡ run [] [] (raises T.error (tuple_of (atom (codes "case_clause") ∷ int 3 ∷ [])))
unfolding evaluated
case_clause_of_one_value = refl

abbrev no_value : Module
no_value = with_one (case (values []) [])

case_clause_of_no_value : of_one no_value (int 3)
    ≡ run [] [] (raises T.error (tuple_of (atom (codes "case_clause") ∷ tuple_of [] ∷ [])))
unfolding evaluated
case_clause_of_no_value = refl

-- Maps.

abbrev pub map_of : List (Term × Term) → Term
map_of ps = T.map (pairs ps)
  where
    pairs : List (Term × Term) → T.Pairs
    pairs [] = no_pair
    pairs (p ∷ ps) = pair p.0 p.1 (pairs ps)

-- `'a' => 1, 'a' := 'b'` put into a map
abbrev map_update : Module
map_update = with_one (C.map_of p0
    (parts (C.map_part (a (codes "a")) (i 1) false ∷ C.map_part (a (codes "a")) (a (codes "b")) true ∷ []))
    (v (codes "X")))

map_update_in_order : of_one map_update (map_of []) ≡ gives_one (map_of ((atom (codes "a"), atom (codes "b")) ∷ []))
unfolding evaluated
map_update_in_order = refl

map_update_of_no_map : of_one map_update (int 5)
    ≡ run [] [] (raises T.error (tuple_of (atom (codes "badmap") ∷ int 5 ∷ [])))
unfolding evaluated
map_update_of_no_map = refl

abbrev exact_update : Module
exact_update = with_one (C.map_of p0 (parts (C.map_part (a (codes "x")) (i 1) true ∷ [])) (v (codes "X")))

exact_update_wants_its_key : of_one exact_update (map_of [])
    ≡ run [] [] (raises T.error (tuple_of (atom (codes "badkey") ∷ atom (codes "x") ∷ [])))
unfolding evaluated
exact_update_wants_its_key = refl

exact_update_with_its_key : of_one exact_update (map_of ((atom (codes "x"), int 7) ∷ []))
    ≡ gives_one (map_of ((atom (codes "x"), int 1) ∷ []))
unfolding evaluated
exact_update_with_its_key = refl

-- map patterns ask for their keys alone
abbrev map_patterns : Module
map_patterns = with_one (case (v (codes "X"))
    (clause (C.map_like p0 (keys (C.key_pattern (a (codes "a")) (known (int 1)) ∷ [])) ∷ []) yes (a (codes "one"))
    ∷ clause (C.map_like p0 (keys []) ∷ []) yes (a (codes "map"))
    ∷ clause (any (codes "Y") ∷ []) yes (a (codes "no")) ∷ []))

map_pattern_with_its_key : of_one map_patterns (map_of ((atom (codes "a"), int 1) ∷ (atom (codes "b"), int 2) ∷ []))
    ≡ gives_one (atom (codes "one"))
unfolding evaluated
map_pattern_with_its_key = refl

map_pattern_without_key : of_one map_patterns (map_of ((atom (codes "b"), int 2) ∷ [])) ≡ gives_one (atom (codes "map"))
unfolding evaluated
map_pattern_without_key = refl

map_pattern_of_no_map : of_one map_patterns (int 5) ≡ gives_one (atom (codes "no"))
unfolding evaluated
map_pattern_of_no_map = refl

-- the elements of a call are evaluated before its module is looked at
abbrev call_of_no_atom : Module
call_of_no_atom = with_one (C.call p0 (v (codes "X")) (a (codes "g")) C.no_expr)

call_of_no_atom_raises : of_one call_of_no_atom (int 7) ≡ run [] [] (raises T.error (atom (codes "badarg")))
unfolding evaluated
call_of_no_atom_raises = refl
