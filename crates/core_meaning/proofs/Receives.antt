-- Receives: examples, computed.
use Rattle.std.proofs.Common.{◌≡◌, ℕ, List, [], ◌∷◌, true, false, codes, refl}
use Rattle.erl_term.specs.Term as T
use Rattle.erl_term.specs.Term.{Term}
use Rattle.erl_term.specs.Terms.{Values}
use Rattle.world_model.specs.World as W
use Rattle.world_model.specs.World.{Reply, Happening, asked, taken, forever, millis}
use Rattle.world_model.specs.Run.{Looked, Outcome, gives, raises, waits}
use Rattle.core_form.specs.Core.{Module}
use Rattle.core_meaning.specs.CoreRun.{evaluated, Result}
use Rattle.core_meaning.proofs.Build.{key, atom, int, a, i, v, fun, receive, erlang, same, any, known, yes, clause, def, program, script, brings, look}

-- a run that receives
abbrev received : List Happening → List Looked → List ℕ → Outcome Term → Result
received hs ls xs end = record {
  happenings = hs;
  entries = [];
  looks = ls;
  marks = [];
  examined = xs;
  subs = 0;
  end = end;
}

-- receive <'stop'> when 'true' -> 'stopped' after T -> 'late'
abbrev stopping : Module
stopping = program (codes "m") (def (codes "f") 1 (fun (codes "T" ∷ [])
    (receive (clause (known (atom (codes "stop")) ∷ []) yes (a (codes "stopped")) ∷ []) (v (codes "T"))
    (a (codes "late")))) ∷ [])

abbrev stop : Term → Values → List Reply → Result
stop t mailbox rs = evaluated stopping (key (codes "f") 1) (t ∷ []) (script mailbox rs) 10

receive_with_timeout_zero : stop (int 0) [] (brings [] ∷ [])
    ≡ received (asked W.look (brings []) ∷ []) [] [] (gives (atom (codes "late")))
unfolding evaluated
receive_with_timeout_zero = refl

-- a timeout that is none is found at the end of the mailbox, after a look that brings nothing
receive_with_wrong_timeout : stop (atom (codes "bad")) [] (brings [] ∷ [])
    ≡ received (asked W.look (brings []) ∷ []) [] [] (raises T.error (atom (codes "timeout_value")))
unfolding evaluated
receive_with_wrong_timeout = refl

receive_that_waits : stop (int 5) [] (brings [] ∷ brings (atom (codes "hello") ∷ []) ∷ brings [] ∷ brings [] ∷ [])
    ≡ received (asked W.look (brings []) ∷ asked (W.wait (millis 5)) (brings (atom (codes "hello") ∷ []))
    ∷ asked W.look (brings []) ∷ asked (W.wait (millis 5)) (brings []) ∷ [])
    (look 0 false ∷ []) (0 ∷ []) (gives (atom (codes "late")))
unfolding evaluated
receive_that_waits = refl

receive_takes_the_first : stop (int 0) (atom (codes "old") ∷ atom (codes "stop") ∷ atom (codes "stop") ∷ []) []
    ≡ received (taken 1 ∷ []) (look 0 false ∷ look 1 true ∷ []) (0 ∷ 1 ∷ []) (gives (atom (codes "stopped")))
unfolding evaluated
receive_takes_the_first = refl

receive_waits_for_ever : stop (atom (codes "infinity")) [] (brings [] ∷ brings [] ∷ [])
    ≡ received (asked W.look (brings []) ∷ asked (W.wait forever) (brings []) ∷ []) [] [] (waits W.look)
unfolding evaluated
receive_waits_for_ever = refl

-- receive <X> when 1 div X =:= 1 -> X after 0 -> 'none'
abbrev dividing : Module
dividing = program (codes "m") (def (codes "d") 0 (fun []
    (receive (clause (any (codes "X") ∷ []) (same (erlang (codes "div") (i 1 ∷ v (codes "X") ∷ [])) (i 1))
    (v (codes "X")) ∷ []) (i 0) (a (codes "none")))) ∷ [])

abbrev divide : Values → List Reply → Result
divide mailbox rs = evaluated dividing (key (codes "d") 0) [] (script mailbox rs) 10

raising_guard_passes_over : divide (int 0 ∷ int 1 ∷ []) []
    ≡ received (taken 1 ∷ []) (look 0 false ∷ look 1 true ∷ []) (0 ∷ 1 ∷ []) (gives (int 1))
unfolding evaluated
raising_guard_passes_over = refl

raising_guard_in_a_receive : divide (int 0 ∷ []) (brings [] ∷ [])
    ≡ received (asked W.look (brings []) ∷ []) (look 0 false ∷ []) (0 ∷ []) (gives (atom (codes "none")))
unfolding evaluated
raising_guard_in_a_receive = refl

-- a receive without clauses looks at each message and takes none
abbrev sleeping : Module
sleeping = program (codes "m") (def (codes "d") 0 (fun [] (receive [] (i 0) (a (codes "late")))) ∷ [])

receive_without_clauses : evaluated sleeping (key (codes "d") 0) [] (script (int 0 ∷ []) (brings [] ∷ [])) 10
    ≡ received (asked W.look (brings []) ∷ []) (look 0 false ∷ []) (0 ∷ []) (gives (atom (codes "late")))
unfolding evaluated
receive_without_clauses = refl
