-- Receives that wait for a new reference: examples, computed.
use Rattle.std.proofs.Common.{◌≡◌, ℕ, List, [], ◌∷◌, true, false, Bool, codes, refl, replicate, length}
use Rattle.erl_base.specs.Names.{Name}
use Rattle.erl_term.specs.Term as T
use Rattle.erl_term.specs.Term.{Term}
use Rattle.erl_term.specs.Terms.{Values}
use Rattle.world_model.specs.World as W
use Rattle.world_model.specs.World.{Reply, Script, asked, taken}
use Rattle.world_model.specs.Run.{gives, numbered}
use Rattle.core_form.specs.Core as C
use Rattle.core_form.specs.Core.{Module, Expr, Clause}
use Rattle.core_meaning.specs.CoreRun.{evaluated, Result}
use Rattle.core_meaning.proofs.Build.{p0, key, atom, tuple_of, a, i, v, fun, let_in, receive, erlang, same, any, known, tuple_like, yes, clause, def, program, returns, brings, look}

-- <{'DOWN',M,'process',Q,W}> when M =:= R -> W
abbrev down_clause : Clause
down_clause = clause
    (tuple_like (known (atom (codes "DOWN")) ∷ any (codes "M") ∷ known (atom (codes "process")) ∷ any (codes "Q")
    ∷ any (codes "W") ∷ []) ∷ [])
    (same (v (codes "M")) (v (codes "R"))) (v (codes "W"))

abbrev monitor : Expr
monitor = erlang (codes "monitor") (a (codes "process") ∷ v (codes "P") ∷ [])

abbrev watching : List Clause → Module
watching more = program (codes "m") (def (codes "w") 1 (fun (codes "P" ∷ [])
    (let_in (codes "R" ∷ []) monitor (receive (down_clause ∷ more) (a (codes "infinity")) (a (codes "true"))))) ∷ [])

-- the answer comes with the reply that has the reference
abbrev down : Reply
down = returns (tuple_of
    (atom (codes "DOWN") ∷ T.reference 9 ∷ atom (codes "process") ∷ T.pid 7 ∷ atom (codes "gone") ∷ []) ∷ [])
    (T.reference 9)

abbrev olds : ℕ → Values
olds n = replicate n (atom (codes "old"))

abbrev with_choices : ℕ → List Bool → Script
with_choices n cs = record { own = T.pid 1; mailbox = olds n; replies = down ∷ []; choices = cs }

abbrev watch : List Clause → ℕ → List Bool → Result
watch more n cs = evaluated (watching more) (key (codes "w") 1) (T.pid 7 ∷ []) (with_choices n cs) 10

abbrev monitored : W.Happening
monitored = asked (W.call (codes "erlang") (codes "monitor") (atom (codes "process") ∷ T.pid 7 ∷ [])) down

-- the thousand messages that were there before the reference are looked at, and passed over
marked_receive_skips_old_messages : let r = watch [] 1000 [] in
    (r.happenings ≡ monitored ∷ taken 1000 ∷ []) × (r.end ≡ gives (atom (codes "gone"))) × (length r.looks ≡ 1001)
    × (r.examined ≡ 1000 ∷ [])
unfolding evaluated
marked_receive_skips_old_messages = (refl, refl, refl, refl)

marking_call_is_noted : (watch [] 2 []).marks
    ≡ record { reference = T.reference 9; serial = 2; before = numbered 0 (olds 2) } ∷ []
unfolding evaluated
marking_call_is_noted = refl

forgotten_marker_examines_all : let r = watch [] 1000 (false ∷ []) in
    (r.happenings ≡ monitored ∷ taken 1000 ∷ []) × (r.end ≡ gives (atom (codes "gone"))) × (length r.examined ≡ 1001)
unfolding evaluated
forgotten_marker_examines_all = (refl, refl, refl)

-- one clause that could accept an old message is enough
undemanding_clause_is_not_marked :
    let r = watch (clause (known (atom (codes "stop")) ∷ []) yes (a (codes "stopped")) ∷ []) 1000 [] in
    (r.happenings ≡ monitored ∷ taken 1000 ∷ []) × (r.end ≡ gives (atom (codes "gone"))) × (r.marks ≡ [])
    × (length r.examined ≡ 1001)
unfolding evaluated
undemanding_clause_is_not_marked = (refl, refl, refl, refl)

-- receive <M> when M =:= X -> E after 'infinity' -> 'true'
abbrev awaiting : Name → Expr → Expr
awaiting x e = receive (clause (any (codes "M") ∷ []) (same (v (codes "M")) (v x)) e ∷ []) (a (codes "infinity"))
    (a (codes "true"))

abbrev make_ref : Expr
make_ref = erlang (codes "make_ref") []

-- two references; the second one's answer is awaited first
abbrev two_references : Module
two_references = program (codes "m")
    (def (codes "f") 0 (fun [] (let_in (codes "A" ∷ []) make_ref (let_in (codes "B" ∷ []) make_ref
    (C.do_then p0 (awaiting (codes "B") (v (codes "M"))) (awaiting (codes "A") (v (codes "M"))))))) ∷ [])

abbrev two : Reply → Reply → Result
two r q = evaluated two_references (key (codes "f") 0) []
    (record { own = T.pid 1; mailbox = []; replies = r ∷ q ∷ []; choices = [] }) 10

two_references_in_order : (two (returns (T.reference 1 ∷ []) (T.reference 1))
    (returns (T.reference 2 ∷ []) (T.reference 2))).examined ≡ 1 ∷ 0 ∷ []
unfolding evaluated
two_references_in_order = refl

-- both are bound to serial 0
two_references_one_serial : (two (returns [] (T.reference 1))
    (returns (T.reference 1 ∷ T.reference 2 ∷ []) (T.reference 2))).examined ≡ 0 ∷ 1 ∷ 0 ∷ []
unfolding evaluated
two_references_one_serial = refl

-- a marked receive that is the timeout of another one: the other one is not marked and looks at all
abbrev inside_timeout : Module
inside_timeout = program (codes "m") (def (codes "f") 0 (fun [] (let_in (codes "R" ∷ []) make_ref
    (receive (clause (known (atom (codes "stop")) ∷ []) yes (a (codes "stopped")) ∷ []) (awaiting (codes "R") (i 0))
    (a (codes "late"))))) ∷ [])

marked_receive_inside_a_timeout :
    let r = evaluated inside_timeout (key (codes "f") 0) []
    (record {
      own = T.pid 1;
      mailbox = olds 1;
      replies = returns (T.reference 9 ∷ []) (T.reference 9) ∷ brings [] ∷ [];
      choices = [];
    }) 10 in
    (length r.marks ≡ 1) × (r.looks ≡ look 0 false ∷ look 1 true ∷ look 0 false ∷ []) × (r.examined ≡ 1 ∷ 0 ∷ [])
    × (r.end ≡ gives (atom (codes "late")))
unfolding evaluated
marked_receive_inside_a_timeout = (refl, refl, refl, refl)
