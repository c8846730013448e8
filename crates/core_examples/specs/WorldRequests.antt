-- What a run asks of the world: sends, and waits for messages.
use Rattle.std.specs.Prelude.{◌≡◌, [], ◌∷◌}
use Rattle.erl_term.specs.Term as T
use Rattle.erl_term.specs.Term.{Term}
use Rattle.world_model.specs.World as W
use Rattle.world_model.specs.World.{How, Reply, Happening, asked, millis}
use Rattle.world_model.specs.Run.{gives}
use Rattle.core_form.specs.Core.{Expr}
use Rattle.core_meaning.specs.CoreRun.{Result}
use Rattle.core_examples.specs.Build.{v, a, erlang, tuple, receive, int, below_zero, atom, tuple_of, runs, shown, script, reply, nothing_came, fails}

-- a message is sent to a pid, and this reply comes
abbrev pub sends : Expr → How → Result
sends e h = runs ("P" ∷ "M" ∷ []) e [] (T.pid 2 ∷ atom "hi" ∷ []) (script [] (reply [] h (atom "x") ∷ []))

-- what happens then
abbrev pub send_happens : How → Happening
send_happens h = asked (W.send (T.pid 2) (atom "hi")) (reply [] h (atom "x"))

-- `call 'erlang':'!' (P,M)`
abbrev pub bang : Expr
bang = erlang "!" (v "P" ∷ v "M" ∷ [])

-- `receive after T -> 'late'`, where nothing comes
abbrev pub waits_for : Term → Result
waits_for t = runs ("T" ∷ []) (receive [] (v "T") (a "late")) [] (t ∷ []) (script [] (nothing_came ∷ nothing_came ∷ []))

-- the look that comes before each wait
abbrev pub looked : Happening
looked = asked W.look nothing_came

-- what is asked, and what comes of it
pub record WorldRequests : Type 0 where
  -- `erlang:send/2` sends too
  pub send_by_name : sends (tuple (erlang "send" (v "P" ∷ v "M" ∷ []) ∷ [])) W.return
      ≡ shown (send_happens W.return ∷ []) [] (gives (tuple_of (atom "hi" ∷ [])))
  -- a send gives the message, whatever term the reply has
  pub send_gives : sends bang W.return ≡ shown (send_happens W.return ∷ []) [] (gives (atom "hi"))
  -- a send that the world refuses raises badarg, in whatever way it is refused
  pub refused_by_error : sends bang W.error ≡ shown (send_happens W.error ∷ []) [] (fails "badarg")
  pub refused_by_exit : sends bang W.exit ≡ shown (send_happens W.exit ∷ []) [] (fails "badarg")
  pub refused_by_throw : sends bang W.throw ≡ shown (send_happens W.throw ∷ []) [] (fails "badarg")
  -- the longest wait is 2^32 - 1 milliseconds
  pub longest_wait : waits_for (int 4294967295)
      ≡ shown (looked ∷ asked (W.wait (millis 4294967295)) nothing_came ∷ []) [] (gives (atom "late"))
  -- a longer one is no timeout, and neither is a negative one
  pub too_long : waits_for (int 4294967296) ≡ shown (looked ∷ []) [] (fails "timeout_value")
  pub negative_wait : waits_for (below_zero 0) ≡ shown (looked ∷ []) [] (fails "timeout_value")
