-- Calls, funs and captures: examples, computed.
use Rattle.std.proofs.Common.{◌≡◌, ℕ, List, [], ◌∷◌, true, false, codes, refl, map}
use Rattle.erl_base.specs.declared.ids.FunKey.{FunKey}
use Rattle.erl_term.specs.Term as T
use Rattle.erl_term.specs.Term.{Term}
use Rattle.erl_term.specs.Terms.{terms}
use Rattle.world_model.specs.World as W
use Rattle.world_model.specs.World.{Happening, asked}
use Rattle.world_model.specs.Run.{gives, raises, waits, spent}
use Rattle.core_form.specs.Core as C
use Rattle.core_form.specs.Core.{Module, Expr}
use Rattle.core_form.specs.Sites.{Site, module_sites}
use Rattle.core_form.specs.View.{defs}
use Rattle.core_meaning.specs.CoreRun.{evaluated}
use Rattle.core_meaning.proofs.Build.{p0, key, atom, int, tuple_of, list_term, a, i, v, tuple, fun, let_in, local, apply, call, erlang, def, program, script, alone, returns, entry, run}

abbrev f1 : FunKey
f1 = key (codes "f") 1

abbrev letrec : List C.Def → Expr → Expr
letrec ds e = C.letrec p0 (defs ds) e

-- a call of the module's own export is a request, not an entry
abbrev own_export : Module
own_export = program (codes "own") (def (codes "f") 0 (fun [] (call (codes "own") (codes "g") (i 1 ∷ [])))
    ∷ def (codes "g") 1 (fun (codes "X" ∷ []) (v (codes "X"))) ∷ [])

call_of_own_export_is_a_request : evaluated own_export (key (codes "f") 0) [] (script [] (returns [] (int 4) ∷ [])) 10
    ≡ run (asked (W.call (codes "own") (codes "g") (int 1 ∷ [])) (returns [] (int 4)) ∷ []) [] (gives (int 4))
unfolding evaluated
call_of_own_export_is_a_request = refl

-- a fun that is sent shows what it captures
abbrev sending : Module
sending = program (codes "snd") (def (codes "f") 2 (fun (codes "P" ∷ codes "X" ∷ [])
    (C.do_then p0 (erlang (codes "!")
    (v (codes "P") ∷ fun (codes "Y" ∷ []) (tuple (v (codes "Y") ∷ v (codes "X") ∷ [])) ∷ [])) (a (codes "ok")))) ∷ [])

abbrev sent_fun : Term
sent_fun = T.fun (codes "snd") 1 1 (terms (int 7 ∷ []))

sent_fun_shows_captures : evaluated sending (key (codes "f") 2) (T.pid 2 ∷ int 7 ∷ [])
    (script [] (returns [] (atom (codes "ok")) ∷ [])) 10
    ≡ run (asked (W.send (T.pid 2) sent_fun) (returns [] (atom (codes "ok"))) ∷ []) [] (gives (atom (codes "ok")))
unfolding evaluated
sent_fun_shows_captures = refl

-- an inner variable of the same name does not hide what a function captured:
-- let X = 1 in letrec 'g'/0 = fun () -> X in let X = 2 in apply 'g'/0 ()
abbrev shadowed : Module
shadowed = program (codes "m") (def (codes "f") 1 (fun (codes "Y" ∷ [])
    (let_in (codes "X" ∷ []) (i 1) (letrec (def (codes "g") 0 (fun [] (v (codes "X"))) ∷ [])
    (let_in (codes "X" ∷ []) (i 2) (local (codes "g") []))))) ∷ [])

capture_under_shadowing : evaluated shadowed f1 (int 0 ∷ []) alone 10 ≡ run [] (entry 1 true ∷ []) (gives (int 1))
unfolding evaluated
capture_under_shadowing = refl

-- two groups that name each other: the inner group's functions call the outer one's and the other way round
-- letrec 'g'/1 = fun (N) -> letrec 'h'/1 = fun (M) -> {apply 'g'/1 (0), Y, M} in case N of <0> -> X; <K> -> apply 'h'/1
-- (K) in apply 'g'/1 (5)
abbrev inner_group : Expr
inner_group = letrec (def (codes "h") 1
    (fun (codes "M" ∷ []) (tuple (local (codes "g") (i 0 ∷ []) ∷ v (codes "Y") ∷ v (codes "M") ∷ []))) ∷ [])
    (C.case p0 (v (codes "N"))
    (C.and_clause (C.clause p0 (C.and_pattern (C.known p0 (int 0)) C.no_pattern) (a (codes "true")) (v (codes "X")))
    (C.and_clause (C.clause p0 (C.and_pattern (C.any p0 (codes "K")) C.no_pattern) (a (codes "true"))
    (local (codes "h") (v (codes "K") ∷ []))) C.no_clause)))

abbrev groups : Module
groups = program (codes "m") (def (codes "f") 2 (fun (codes "X" ∷ codes "Y" ∷ [])
    (letrec (def (codes "g") 1 (fun (codes "N" ∷ []) inner_group) ∷ []) (local (codes "g") (i 5 ∷ [])))) ∷ [])

groups_that_name_each_other : evaluated groups (key (codes "f") 2) (int 8 ∷ int 9 ∷ []) alone 10
    ≡ run [] (entry 1 true ∷ entry 2 true ∷ entry 1 false ∷ []) (gives (tuple_of (int 8 ∷ int 9 ∷ int 5 ∷ [])))
unfolding evaluated
groups_that_name_each_other = refl

abbrev captured_names : Site → List (List ℕ)
captured_names x = map (λ u. u.name) x.captures

-- the outer group's captures are found with its own name standing for nothing: first Y, in the inner group, then X;
-- the inner group's use of the outer one stands for both of them
captures_of_groups : map captured_names (module_sites groups) ≡ [] ∷ (codes "Y" ∷ codes "X" ∷ [])
    ∷ (codes "Y" ∷ codes "X" ∷ []) ∷ []
captures_of_groups = refl

-- a fun, a local call, and the bound on entries
abbrev calls : Module
calls = program (codes "m") (def (codes "f") 1 (fun (codes "X" ∷ [])
    (let_in (codes "F" ∷ []) (fun (codes "Y" ∷ []) (tuple (v (codes "X") ∷ v (codes "Y") ∷ [])))
    (let_in (codes "X" ∷ []) (i 9) (apply (v (codes "F")) (local (codes "g") [] ∷ [])))))
    ∷ def (codes "g") 0 (fun [] (i 3)) ∷ [])

entries_by_name_and_by_value : evaluated calls f1 (int 1 ∷ []) alone 10
    ≡ run [] (entry 1 false ∷ entry 2 false ∷ []) (gives (tuple_of (int 1 ∷ int 3 ∷ [])))
unfolding evaluated
entries_by_name_and_by_value = refl

spent_at_the_second_entry : evaluated calls f1 (int 1 ∷ []) alone 1 ≡ run [] (entry 1 false ∷ []) spent
unfolding evaluated
spent_at_the_second_entry = refl

-- a local call in a tuple is no tail entry, and a request inside it shows
abbrev local_then_tuple : Module
local_then_tuple = program (codes "m") (def (codes "f") 1 (fun (codes "X" ∷ [])
    (let_in (codes "Y" ∷ []) (local (codes "g") (v (codes "X") ∷ [])) (tuple (v (codes "Y") ∷ []))))
    ∷ def (codes "g") 1 (fun (codes "X" ∷ []) (call (codes "m") (codes "h") (v (codes "X") ∷ []))) ∷ [])

local_call_then_tuple : evaluated local_then_tuple f1 (int 1 ∷ []) (script [] (returns [] (int 2) ∷ [])) 10
    ≡ run (asked (W.call (codes "m") (codes "h") (int 1 ∷ [])) (returns [] (int 2)) ∷ []) (entry 1 false ∷ [])
    (gives (tuple_of (int 2 ∷ [])))
unfolding evaluated
local_call_then_tuple = refl

-- apply of what is no fun, of a wrong arity, and of a function of another module
abbrev applies : Module
applies = program (codes "m") (def (codes "f") 1 (fun (codes "F" ∷ []) (apply (v (codes "F")) [])) ∷ [])

apply_of_no_fun : evaluated applies f1 (int 5 ∷ []) alone 10
    ≡ run [] [] (raises T.error (tuple_of (atom (codes "badfun") ∷ int 5 ∷ [])))
unfolding evaluated
apply_of_no_fun = refl

abbrev extern : ℕ → Term
extern n = T.extern (codes "m") (codes "f") n

apply_with_wrong_arity : evaluated applies f1 (extern 1 ∷ []) alone 10
    ≡ run [] [] (raises T.error (tuple_of (atom (codes "badarity") ∷ tuple_of (extern 1 ∷ list_term [] ∷ []) ∷ [])))
unfolding evaluated
apply_with_wrong_arity = refl

apply_of_external_fun : evaluated applies f1 (extern 0 ∷ []) alone 10
    ≡ run [] [] (waits (W.call (codes "m") (codes "f") []))
unfolding evaluated
apply_of_external_fun = refl

-- a fun of this module whose captured terms are too many for its site is a request
apply_of_unfitting_fun : let f = T.fun (codes "m") 0 0 (terms (int 1 ∷ int 2 ∷ [])) in
    evaluated applies f1 (f ∷ []) alone 10
    ≡ run [] [] (waits (W.call (codes "erlang") (codes "apply") (f ∷ list_term [] ∷ [])))
unfolding evaluated
apply_of_unfitting_fun = refl
