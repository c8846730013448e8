-- Raises, `try` and `catch`: examples, computed.
use Rattle.std.proofs.Common.{◌≡◌, List, [], ◌∷◌, codes, refl}
use Rattle.erl_base.specs.Names.{Name}
use Rattle.erl_term.specs.Term as T
use Rattle.erl_term.specs.Term.{Term}
use Rattle.world_model.specs.World as W
use Rattle.world_model.specs.World.{Reply, asked, How}
use Rattle.world_model.specs.Run.{gives, raises, waits}
use Rattle.core_form.specs.Core as C
use Rattle.core_form.specs.Core.{Module, Expr}
use Rattle.core_meaning.specs.CoreRun.{evaluated, Result}
use Rattle.core_meaning.proofs.Build.{p0, key, binders, atom, int, tuple_of, list_term, a, v, tuple, fun, call, erlang, primop, def, program, script, alone, returns, run}

abbrev try : Expr → Name → Expr → List Name → Expr → Expr
try e x b ys h = C.try p0 e (binders (x ∷ [])) b (binders ys) h

abbrev of_none : Expr → Module
of_none e = program (codes "m") (def (codes "f") 0 (fun [] e) ∷ [])

abbrev run_none : Expr → List Reply → Result
run_none e rs = evaluated (of_none e) (key (codes "f") 0) [] (script [] rs) 10

abbrev raised : How → Term → Reply
raised h t = record { arrivals = []; how = h; term = t }

abbrev called : Reply → W.Happening
called r = asked (W.call (codes "m") (codes "g") []) r

abbrev calling : Expr
calling = call (codes "m") (codes "g") []

-- a raise in the handler of an inner try goes to the outer one
abbrev nested : Expr
nested = try (try calling (codes "A") (v (codes "A")) (codes "C" ∷ codes "E" ∷ codes "S" ∷ [])
    (erlang (codes "error") (tuple (a (codes "again") ∷ v (codes "E") ∷ []) ∷ [])))
    (codes "B") (v (codes "B")) (codes "C" ∷ codes "E" ∷ codes "S" ∷ []) (tuple (v (codes "C") ∷ v (codes "E") ∷ []))

abbrev thrown_x : Reply
thrown_x = raised W.throw (atom (codes "x"))

raise_inside_a_handler : run_none nested (thrown_x ∷ [])
    ≡ run (called thrown_x ∷ []) []
    (gives (tuple_of (atom (codes "error") ∷ tuple_of (atom (codes "again") ∷ atom (codes "x") ∷ []) ∷ [])))
unfolding evaluated
raise_inside_a_handler = refl

-- catch: a throw gives its reason, an exit a tuple, an error a tuple with a trace that the world is asked for
catch_of_throw : run_none (C.catch p0 calling) (thrown_x ∷ [])
    ≡ run (called thrown_x ∷ []) [] (gives (atom (codes "x")))
unfolding evaluated
catch_of_throw = refl

catch_of_exit : let r = raised W.exit (atom (codes "x")) in
    run_none (C.catch p0 calling) (r ∷ [])
    ≡ run (called r ∷ []) [] (gives (tuple_of (atom (codes "EXIT") ∷ atom (codes "x") ∷ [])))
unfolding evaluated
catch_of_exit = refl

abbrev error_x : Reply
error_x = raised W.error (atom (codes "x"))

catch_of_error : run_none (C.catch p0 calling) (error_x ∷ returns [] (list_term []) ∷ [])
    ≡ run (called error_x ∷ asked W.trace (returns [] (list_term [])) ∷ []) []
    (gives (tuple_of (atom (codes "EXIT") ∷ tuple_of (atom (codes "x") ∷ list_term [] ∷ []) ∷ [])))
unfolding evaluated
catch_of_error = refl

catch_waits_for_trace : run_none (C.catch p0 calling) (error_x ∷ []) ≡ run (called error_x ∷ []) [] (waits W.trace)
unfolding evaluated
catch_waits_for_trace = refl

-- raising again: the class is the raw trace's
abbrev raising : Module
raising = program (codes "m")
    (def (codes "f") 1 (fun (codes "T" ∷ []) (primop (codes "raise") (v (codes "T") ∷ a (codes "x") ∷ []))) ∷ [])

raise_of_no_trace : evaluated raising (key (codes "f") 1) (int 1 ∷ []) alone 10
    ≡ run [] [] (raises T.error (atom (codes "badarg")))
unfolding evaluated
raise_of_no_trace = refl

raise_again : evaluated raising (key (codes "f") 1) (T.raw_trace T.exit ∷ []) alone 10
    ≡ run [] [] (raises T.exit (atom (codes "x")))
unfolding evaluated
raise_again = refl

-- match_fail with a tuple that begins with 'function_clause' raises the atom
failed_function_clause : run_none
    (primop (codes "match_fail") (tuple (a (codes "function_clause") ∷ a (codes "b") ∷ []) ∷ [])) []
    ≡ run [] [] (raises T.error (atom (codes "function_clause")))
unfolding evaluated
failed_function_clause = refl

failed_with_a_reason : run_none
    (primop (codes "match_fail") (tuple (a (codes "badmatch") ∷ a (codes "b") ∷ []) ∷ [])) []
    ≡ run [] [] (raises T.error (tuple_of (atom (codes "badmatch") ∷ atom (codes "b") ∷ [])))
unfolding evaluated
failed_with_a_reason = refl
