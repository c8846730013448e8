-- Receives, and the markers that let them skip messages.
use Rattle.std.specs.Prelude.{ℕ, suc, [], slice_get, Option, Some, None, codes}
use Rattle.erl_term.specs.Term as T
use Rattle.erl_term.specs.Term.{Term}
use Rattle.erl_term.specs.Terms.{word}
use Rattle.world_model.specs.References.{Standing, serial_of, unbound, bound_to, used, save_place}
use Rattle.world_model.specs.World as W
use Rattle.world_model.specs.Receive.{Timeout, now, in', wrong, timeout_of, without, new_or}
use Rattle.world_model.specs.World.{Delay, forever, millis, Message, taken}
use Rattle.step_machine.specs.Steps.{goes, bad, notes, happened, examined}
use Rattle.step_machine.specs.Frames.{with_cell}
use Rattle.beam_table.specs.Code.{Reg, Source, AsmModule}
use Rattle.beam_table.specs.MachineState.{Cell, Machine, term, marker, unset}
use Rattle.beam_table.specs.GeneralRules.{Effect, read_reg, read, outside_window, write, jumps, raising, asking}

-- the message at the save place, in X register n
abbrev pub look_at : ℕ → Message → Machine → Effect
look_at n w m = notes (examined w.serial) (goes (record m { xs = with_cell unset n (term w.term) []; window = Some w }))

-- the message, if there is one
abbrev pub look_or : ℕ → Option Message → Machine → (Machine → Effect) → Effect
look_or n (Some w) m k = look_at n w m
look_or n None m k = k m

-- the message that is looked at is wanted
abbrev pub in_window : Machine → (Message → Effect) → Effect
in_window m k = elim m.window [ None ↦ bad | Some w ↦ k w ]

-- remove_message: in the window; the message leaves, the save place goes to the start, the window ends
abbrev pub do_remove : Machine → Effect
do_remove m = in_window m λ w. notes (happened (taken w.serial)) (goes (record m {
  mailbox = without w.serial m.mailbox;
  save = 0;
  window = None;
}))

-- timeout: the save place goes to the start
abbrev pub do_timeout : Machine → Effect
do_timeout m = outside_window m (goes (record m { save = 0 }))

module _ (a : AsmModule) where
  -- {loop_rec,L,{x,N}}: the X registers are unset; looks at the message at the save place, where there is none asks
  -- for more, and jumps to L where none comes
  abbrev pub do_loop_rec : ℕ → ℕ → Machine → Effect
  do_loop_rec l n m = outside_window m (
      look_or n (slice_get m.mailbox m.save) m λ m'.
      asking W.look m' λ r u.
      look_or n (slice_get u.mailbox u.save) u λ u'. jumps a l (record u' { xs = [] }))

  -- {loop_rec_end,L}: in the window; the save place goes one on, the window ends
  abbrev pub do_loop_end : ℕ → Machine → Effect
  do_loop_end l m = in_window m λ w. jumps a l (record m { save = suc m.save; window = None; xs = [] })

  -- asks the world to wait, and jumps; after a time without messages it goes on
  abbrev pub waits_for : ℕ → Delay → Machine → Effect
  waits_for l forever m = asking (W.wait forever) m λ r u. jumps a l u
  waits_for l (millis n) m = asking (W.wait (millis n)) m λ r u. new_or r.arrivals (goes u) (jumps a l u)

  -- {wait,L}
  abbrev pub do_wait : ℕ → Machine → Effect
  do_wait l m = outside_window m (waits_for l forever (record m { xs = [] }))

  -- what a timeout leads to
  abbrev pub waits_until : ℕ → Timeout → Machine → Effect
  waits_until l now m = goes m
  waits_until l (in' d) m = waits_for l d m
  waits_until l wrong m = raising a T.error (word (codes "timeout_value")) (record m { save = 0 })

  -- {wait_timeout,L,S}: 0 goes on, infinity waits, a number of milliseconds waits so long; another term raises
  -- timeout_value from the start of the mailbox
  abbrev pub do_wait_timeout : ℕ → Source → Machine → Effect
  do_wait_timeout l s m = outside_window m (read m s λ t. waits_until l (timeout_of t) (record m { xs = [] }))

-- Markers.

-- a receive begins that waits for a reference: the save place goes behind the messages that it passes over
abbrev pub begins : Standing → Machine → Machine
begins a m = record m { markers = a.bound; choices = a.choices; save = save_place a.low m.mailbox }

-- a reference is wanted
abbrev pub if_reference : Term → (ℕ → Effect) → Effect
if_reference (T.reference n) k = k n
if_reference _ k = bad

-- a marker is wanted
abbrev pub if_marker : Cell → (ℕ → Effect) → Effect
if_marker (marker n) k = k n
if_marker _ k = bad

-- {recv_marker_reserve,D}: a marker for the next serial
abbrev pub do_reserve : Reg → Machine → Effect
do_reserve d m = write m d (marker m.next_serial) goes

-- {recv_marker_bind,D,S}: the reference is bound to the serial of the marker in D, in place of an older binding
unfoldable pub do_bind : Reg → Source → Machine → Effect
unfolding bound_to
do_bind d s m = read_reg m d λ c. if_marker c λ n. read m s λ t. if_reference t λ r.
    goes (record m { markers = bound_to m.markers (T.reference r) n })

-- {recv_marker_use,S}
unfoldable pub do_use : Source → Machine → Effect
unfolding serial_of used
do_use s m = outside_window m (read m s λ t. if_reference t λ r.
    goes (begins (used (serial_of m.markers (T.reference r)) (T.reference r) m.markers m.choices) m))

-- {recv_marker_clear,S}: a term that is no reference has no binding
unfoldable pub do_clear : Source → Machine → Effect
unfolding unbound
do_clear s m = read m s λ t. goes (record m { markers = unbound m.markers t })
