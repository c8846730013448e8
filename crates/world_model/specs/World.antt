-- The world of a process: what it is asked, what it replies, and what happens.
use Rattle.std.specs.Prelude.{ℕ, List, Bool}
use Rattle.erl_base.specs.Names.{Name}
use Rattle.erl_term.specs.Term.{Term}

-- how long a process waits for a message
pub data Delay : Type 0 where
  forever : Delay
  millis : ℕ → Delay

-- a call of a function by module and name, a message sent to a term, the trace of the last raise, a look for messages
-- that came, and a wait for one
pub data Request : Type 0 where
  call : Name → Name → List Term → Request
  send : Term → Term → Request
  trace : Request
  look : Request
  wait : Delay → Request

-- the way of a reply: it returns its term, or raises it with a class
pub data How : Type 0 where
  return error exit throw : How

-- what the world replies, and the messages that came meanwhile
pub record Reply : Type 0 where
  pub arrivals : List Term
  pub how : How
  pub term : Term

-- a choice is whether the next marker that is used is still kept; where none is left, it is
pub record Script : Type 0 where
  pub own : Term
  pub mailbox : List Term
  pub replies : List Reply
  pub choices : List Bool

-- a message of a mailbox; serials count all messages of a run
pub record Message : Type 0 where
  pub serial : ℕ
  pub term : Term

-- what can be seen of a run: a request with its reply, or the serial of a message that was taken
pub data Happening : Type 0 where
  asked : Request → Reply → Happening
  taken : ℕ → Happening
