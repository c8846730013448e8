-- Binaries, and rests that are handed on: examples, computed.
use Rattle.std.proofs.Common.{◌≡◌, ℕ, zero, suc, List, [], ◌∷◌, ◌++◌, true, Bool, negsuc, codes, refl}
use Rattle.erl_base.specs.Names.{Name}
use Rattle.erl_term.specs.Term as T
use Rattle.erl_term.specs.Term.{Term}
use Rattle.erl_term.specs.BitString.{bits_of}
use Rattle.world_model.specs.Run.{Outcome, Entry, gives, raises}
use Rattle.core_form.specs.Core as C
use Rattle.core_form.specs.Core.{Module, Expr, Clause, Pattern}
use Rattle.core_form.specs.View.{segments}
use Rattle.core_meaning.specs.CoreRun.{evaluated, Result}
use Rattle.core_meaning.proofs.Build.{p0, key, atom, int, tuple_of, list_term, lit, a, i, v, values, tuple, fun, case, local, erlang, primop, any, yes, clause, unsigned_big, integer, integer_like, rest_like, bits_like, def, program, alone, entry, run}

-- Construction.

abbrev bits : List Bool → Term
bits bs = T.bits bs

abbrev little : Term
little = list_term (atom (codes "unsigned") ∷ atom (codes "little") ∷ [])

-- twelve bits of X, the lowest eight first
abbrev twelve_little : Module
twelve_little = program (codes "m") (def (codes "f") 1 (fun (codes "X" ∷ [])
    (C.binary p0 (segments (integer (v (codes "X")) (i 12) little ∷ [])))) ∷ [])

abbrev twelve : Term → Result
twelve t = evaluated twelve_little (key (codes "f") 1) (t ∷ []) alone 10

little_endian_construction : twelve (int 258) ≡ run [] [] (gives (bits (bits_of 8 2 ++ bits_of 4 1)))
unfolding evaluated
little_endian_construction = refl

little_endian_of_minus_one : twelve (T.int (negsuc 0)) ≡ run [] [] (gives (bits (bits_of 8 255 ++ bits_of 4 15)))
unfolding evaluated
little_endian_of_minus_one = refl

construction_of_no_number : twelve (atom (codes "a")) ≡ run [] [] (raises T.error (atom (codes "badarg")))
unfolding evaluated
construction_of_no_number = refl

abbrev negative : Module
negative = program (codes "m") (def (codes "f") 0 (fun []
    (C.binary p0 (segments (integer (i 1) (lit (T.int (negsuc 7))) unsigned_big ∷ [])))) ∷ [])

negative_size : evaluated negative (key (codes "f") 0) [] alone 10 ≡ run [] [] (raises T.error (atom (codes "badarg")))
unfolding evaluated
negative_size = refl

-- Matching.

-- case B of <#{#<V>(N,1,'integer',['signed','big'])}#> -> V; <Y> -> 'no'
abbrev sized : Module
sized = program (codes "m") (def (codes "f") 2 (fun (codes "B" ∷ codes "N" ∷ []) (case (v (codes "B"))
    (clause (bits_like (integer_like (any (codes "V")) (v (codes "N"))
    (list_term (atom (codes "signed") ∷ atom (codes "big") ∷ [])) ∷ []) ∷ []) yes (v (codes "V"))
    ∷ clause (any (codes "Y") ∷ []) yes (a (codes "no")) ∷ []))) ∷ [])

abbrev of_size : Term → Result
of_size n = evaluated sized (key (codes "f") 2) (bits (bits_of 8 255) ∷ n ∷ []) alone 10

size_in_a_pattern : of_size (int 8) ≡ run [] [] (gives (T.int (negsuc 0)))
unfolding evaluated
size_in_a_pattern = refl

size_that_leaves_a_bit : of_size (int 7) ≡ run [] [] (gives (atom (codes "no")))
unfolding evaluated
size_that_leaves_a_bit = refl

size_that_is_negative : of_size (T.int (negsuc 7)) ≡ run [] [] (gives (atom (codes "no")))
unfolding evaluated
size_that_is_negative = refl

size_that_is_no_number : of_size (atom (codes "a")) ≡ run [] [] (gives (atom (codes "no")))
unfolding evaluated
size_that_is_no_number = refl

-- the atom 'all' as the value of a variable takes nothing
size_all_through_a_variable : of_size (atom (codes "all")) ≡ run [] [] (gives (atom (codes "no")))
unfolding evaluated
size_all_through_a_variable = refl

-- a size means the nearest earlier variable of its binary: N is the parameter in the first segment, then the byte
abbrev own_size : Module
own_size = program (codes "m") (def (codes "f") 2 (fun (codes "B" ∷ codes "N" ∷ []) (case (v (codes "B"))
    (clause (bits_like (integer_like (any (codes "N")) (v (codes "N")) unsigned_big
    ∷ integer_like (any (codes "V")) (v (codes "N")) unsigned_big ∷ []) ∷ []) yes
    (tuple (v (codes "N") ∷ v (codes "V") ∷ [])) ∷ []))) ∷ [])

size_by_an_earlier_segment : evaluated own_size (key (codes "f") 2)
    (bits (bits_of 8 4 ++ bits_of 4 9) ∷ int 8 ∷ []) alone 10
    ≡ run [] [] (gives (tuple_of (int 4 ∷ int 9 ∷ [])))
unfolding evaluated
size_by_an_earlier_segment = refl

-- A loop over a binary that hands its rest on.

abbrev first_clause : Clause
first_clause = clause (bits_like (integer_like (any (codes "V")) (i 8) unsigned_big ∷ rest_like (codes "R") ∷ [])
    ∷ any (codes "S") ∷ [])
    yes (local (codes "loop") (v (codes "R") ∷ erlang (codes "+") (v (codes "S") ∷ v (codes "V") ∷ []) ∷ []))

abbrev summing : List Clause → Module
summing more = program (codes "m")
    (def (codes "sum") 1 (fun (codes "B" ∷ []) (local (codes "loop") (v (codes "B") ∷ i 0 ∷ [])))
    ∷ def (codes "loop") 2 (fun (codes "B" ∷ codes "A" ∷ [])
    (case (values (v (codes "B") ∷ v (codes "A") ∷ [])) (first_clause ∷ more))) ∷ [])

abbrev one_two_three : Term
one_two_three = bits (bits_of 8 1 ++ bits_of 8 2 ++ bits_of 8 3)

abbrev sum : List Clause → Term → Result
sum more t = evaluated (summing more) (key (codes "sum") 1) (t ∷ []) alone 10

abbrev of_loop : ℕ → ℕ → Outcome Term → Result
of_loop n made end = record (run [] (entries n) end) { subs = made }
  where
    entries : ℕ → List Entry
    entries zero = []
    entries (suc k) = entry 1 true ∷ entries k

abbrev ends_with : Name → Expr → List Clause
ends_with x e = clause (any x ∷ any (codes "S") ∷ []) yes e ∷ []

binary_loop_without_sub_binaries : sum (ends_with (codes "_0") (v (codes "S"))) one_two_three
    ≡ of_loop 4 0 (gives (int 6))
unfolding evaluated
binary_loop_without_sub_binaries = refl

binary_loop_over_nothing : sum (ends_with (codes "_0") (v (codes "S"))) (bits []) ≡ of_loop 1 0 (gives (int 0))
unfolding evaluated
binary_loop_over_nothing = refl

-- a second clause that uses the rest
used_tail_is_not_listed : sum (ends_with (codes "B2") (tuple (v (codes "S") ∷ v (codes "B2") ∷ []))) one_two_three
    ≡ of_loop 4 3 (gives (tuple_of (int 6 ∷ bits [] ∷ [])))
unfolding evaluated
used_tail_is_not_listed = refl

empty_binary_clause_keeps_listing : sum
    (clause (bits_like [] ∷ any (codes "S") ∷ []) yes (v (codes "S")) ∷ []) one_two_three ≡ of_loop 4 0 (gives (int 6))
unfolding evaluated
empty_binary_clause_keeps_listing = refl

-- no second clause: the reason holds the rest
reason_holds_the_tail : sum [] one_two_three
    ≡ of_loop 4 1 (raises T.error (tuple_of (atom (codes "case_clause") ∷ tuple_of (bits [] ∷ int 6 ∷ []) ∷ [])))
unfolding evaluated
reason_holds_the_tail = refl

-- a second clause that only fails by it, as a function's last clause does: only where the tuple begins with
-- 'function_clause' is the rest not made
abbrev failing : Name → Expr
failing x = primop (codes "match_fail") (tuple (a x ∷ v (codes "B2") ∷ v (codes "S") ∷ []) ∷ [])

failing_by_function_clause : sum (ends_with (codes "B2") (failing (codes "function_clause"))) one_two_three
    ≡ of_loop 4 0 (raises T.error (atom (codes "function_clause")))
unfolding evaluated
failing_by_function_clause = refl

failing_by_another_reason : sum (ends_with (codes "B2") (failing (codes "badmatch"))) one_two_three
    ≡ of_loop 4 3 (raises T.error (tuple_of (atom (codes "badmatch") ∷ bits [] ∷ int 6 ∷ [])))
unfolding evaluated
failing_by_another_reason = refl
