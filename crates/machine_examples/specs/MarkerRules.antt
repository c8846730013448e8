-- Receive markers: what is bound, what is kept, and where a receive then begins (after OTP 25's BEAM).
use Rattle.std.specs.Prelude.{◌≡◌, ℕ, List, [], ◌∷◌, Bool, true, false}
use Rattle.erl_term.specs.Term as T
use Rattle.world_model.specs.World as W
use Rattle.world_model.specs.World.{Script, Reply}
use Rattle.step_machine.specs.Steps.{serials}
use Rattle.beam_table.specs.Code.{Insn, label, move, allocate, if_end, wait, call_ext, loop_rec, remove_message, recv_marker_reserve, recv_marker_bind, recv_marker_use, recv_marker_clear}
use Rattle.machine_examples.specs.Build.{atom, x0, x1, x2, y0, r, outside, script, reply, runs}

-- a mailbox with the messages 0 and 1, and choices
abbrev pub choosing : List Bool → Script
choosing cs = record { own = T.pid 1; mailbox = atom "a" ∷ atom "b" ∷ []; replies = []; choices = cs }

-- the messages that are examined where code runs with two references, the second one bound to serial 2, and then looks
-- for one message: [0] from the start of the mailbox, none from behind both messages
abbrev pub looks_at : List Insn → List Bool → List ℕ
looks_at is cs =
    serials (runs (recv_marker_reserve x2 ∷ recv_marker_bind x2 (r x1) ∷ is)
    (T.reference 3 ∷ T.reference 4 ∷ []) (choosing cs)).log

-- a receive that waits for the first reference
abbrev pub first : Insn
first = recv_marker_use (r x0)

-- a receive that waits for the second reference
abbrev pub second : Insn
second = recv_marker_use (r x1)

-- a look at one message
abbrev pub look : List Insn
look = loop_rec 3 0 ∷ remove_message ∷ if_end ∷ label 3 ∷ wait 3 ∷ []

-- takes a message, and then waits for a reference: what is left of the mailbox is shorter than its serials
abbrev pub behind_a_taken_one : List Insn
behind_a_taken_one =
    allocate 1 1 ∷ move (r x0) y0 ∷ loop_rec 3 0 ∷ remove_message ∷ recv_marker_reserve x1 ∷ recv_marker_bind x1 (r y0)
    ∷ recv_marker_use (r y0) ∷ look

-- the reply that brings the message 2
abbrev pub brings_a_message : Reply
brings_a_message = reply (atom "c" ∷ []) W.return (atom "ok")

-- binds a reference, and binds it again once a message has come
abbrev pub bound_twice : List Insn
bound_twice =
    allocate 1 1 ∷ move (r x0) y0 ∷ recv_marker_reserve x1 ∷ recv_marker_bind x1 (r y0) ∷ call_ext 0 (outside "g" 0)
    ∷ recv_marker_reserve x1 ∷ recv_marker_bind x1 (r y0) ∷ recv_marker_use (r y0) ∷ look

-- where a receive begins that waits for a reference
pub record MarkerRules : Type 0 where
  -- a marker holds the serial of the next message, however many the mailbox has
  pub next_serial : serials (runs behind_a_taken_one (T.reference 3 ∷ []) (choosing [])).log ≡ 0 ∷ []
  -- a kept marker stays bound: the receive begins behind what came before it
  pub kept : looks_at (second ∷ second ∷ look) (true ∷ true ∷ []) ≡ []
  -- a forgotten one is bound no more
  pub forgotten : looks_at (second ∷ second ∷ look) (false ∷ []) ≡ 0 ∷ []
  -- a receive whose marker is forgotten begins at the start, wherever the save place was
  pub forgotten_begins_at_start : looks_at (second ∷ second ∷ look) (true ∷ false ∷ []) ≡ 0 ∷ []
  -- a receive whose reference is not bound takes no choice
  pub unbound_takes_no_choice : looks_at (first ∷ second ∷ look) (false ∷ []) ≡ 0 ∷ []
  -- and begins at the start
  pub unbound_begins_at_start : looks_at (second ∷ first ∷ look) (true ∷ []) ≡ 0 ∷ []
  -- a marker that is cleared is bound no more
  pub cleared : looks_at (recv_marker_clear (r x1) ∷ second ∷ look) [] ≡ 0 ∷ []
  -- while clearing another one leaves it
  pub another_one_cleared : looks_at (recv_marker_clear (r x0) ∷ second ∷ look) [] ≡ []
  -- the later binding of a reference is the one that counts
  pub bound_anew :
      serials (runs bound_twice (T.reference 3 ∷ []) (script (atom "a" ∷ atom "b" ∷ []) (brings_a_message ∷ []))).log
      ≡ []
