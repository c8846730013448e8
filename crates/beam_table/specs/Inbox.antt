-- What of a machine the world can change: its mailbox and the next serial number.
use Rattle.std.specs.Prelude.{ℕ, ◌+◌, List, ◌++◌, length}
use Rattle.world_model.specs.World.{Reply, Message}
use Rattle.world_model.specs.Run.{numbered}
use Rattle.world_model.specs.Receive.{without}
use Rattle.beam_table.specs.MachineState.{Machine}

-- the mailbox, and the serial of the next message
pub record Inbox : Type 0 where
  pub mailbox : List Message
  pub next : ℕ

-- of a machine
abbrev pub inbox : Machine → Inbox
inbox m = record { mailbox = m.mailbox; next = m.next_serial }

-- with the arrivals of a reply
abbrev pub arrived : Reply → Inbox → Inbox
arrived r w = record { mailbox = w.mailbox ++ numbered w.next r.arrivals; next = w.next + length r.arrivals }

-- without the message that was taken
abbrev pub taken_out : ℕ → Inbox → Inbox
taken_out n w = record { mailbox = without n w.mailbox; next = w.next }
