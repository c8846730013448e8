-- What a run asks of the world.
use Rattle.std.specs.Prelude.{[], ◌∷◌, Bool, ◌||◌, codes}
use Rattle.erl_base.specs.Names.{Name, same_name}
use Rattle.erl_term.specs.Term as T
use Rattle.erl_term.specs.Term.{Term, Terms, none, more, Class}
use Rattle.erl_term.specs.Terms.{Values, tagged}
use Rattle.bif_table.specs.BuiltinAnswer.{Answer, value, raised, badarg}
use Rattle.world_model.specs.World as W
use Rattle.world_model.specs.World.{Reply}
use Rattle.world_model.specs.Run.{M, ◌>>=◌, fail, ask}
use Rattle.world_model.specs.Meaning.{single}

-- a reply gives its term, or raises it
abbrev pub replied : Reply → M Values
replied r = elim r.how [
  | W.return ↦ single r.term
  | W.error ↦ fail T.error r.term
  | W.exit ↦ fail T.exit r.term
  | W.throw ↦ fail T.throw r.term
]

-- a call of a function of the outside
abbrev pub call_out : Name → Name → Values → M Values
call_out m f vs = ask (W.call m f vs) >>= replied

-- a send gives the message, or raises badarg
abbrev pub sent : Term → Reply → M Values
sent message r = elim r.how [
  | W.return ↦ single message
  | W.error ↦ fail T.error badarg
  | W.exit ↦ fail T.error badarg
  | W.throw ↦ fail T.error badarg
]

-- sends a message to a term
abbrev pub send_to : Term → Term → M Values
send_to to message = ask (W.send to message) >>= sent message

-- an answer is given or raised
abbrev pub answers : Answer → M Values
answers (value t) = single t
answers (raised c r) = fail c r

-- the two functions of the module erlang that send
abbrev pub is_send : Name → Bool
is_send f = same_name f (codes "!") || same_name f (codes "send")

-- they send with two arguments, and are calls with any other number
abbrev pub send_or_call : Name → Values → M Values
send_or_call f (to ∷ message ∷ []) = send_to to message
send_or_call f vs = call_out (codes "erlang") f vs

-- what `catch` gives for a raise: an error has the trace in its reason
abbrev pub exit_of : Class → Term → M Values
exit_of T.throw r = single r
exit_of T.exit r = single (tagged (codes "EXIT") r)
exit_of T.error r = ask W.trace >>= λ t. single (tagged (codes "EXIT") (T.tuple (more r (more t.term none))))
