-- What a memory object with planned faults holds.
use Rattle.std.specs.Prelude.{ℕ, List, Contains}
use Rattle.store_io.specs.declared.faulty.FaultyStore.{FaultyStore}
use Rattle.store_io.specs.declared.faulty.FaultySink.{FaultySink}
use Rattle.store_io.specs.Files.{Files, Rooms}
use Rattle.store_io.specs.Slots.{told_files, told_rooms}
use Rattle.store_io.specs.Sinks.{put_bytes, sink_room}

-- the files of the memory object
abbrev pub held_files : FaultyStore → Files
held_files s = told_files s.inner

-- the rooms of the memory object
abbrev pub held_rooms : FaultyStore → Rooms
held_rooms s = told_rooms s.inner

-- how many calls were made so far
abbrev pub store_calls : FaultyStore → ℕ
store_calls s = s.calls

-- the numbers of the calls that fail
abbrev pub planned : FaultyStore → List ℕ
planned s = s.failing

-- the next call is one that fails
abbrev pub NextFails : FaultyStore → Type 0
NextFails s = Contains s.failing s.calls

-- how many faults of reading were counted
abbrev pub read_count : FaultyStore → ℕ
read_count s = s.read_faults

-- how many faults of writing were counted
abbrev pub write_count : FaultyStore → ℕ
write_count s = s.write_faults

-- how many faults the sink counted
abbrev pub put_faults : FaultySink → ℕ
put_faults s = s.faults

-- the bytes that the sink in memory has
abbrev pub held_bytes : FaultySink → List ℕ
held_bytes s = put_bytes s.inner

-- the room of the sink in memory
abbrev pub held_room : FaultySink → ℕ
held_room s = sink_room s.inner

-- how many puts were made so far
abbrev pub sink_calls : FaultySink → ℕ
sink_calls s = s.calls

-- the numbers of the puts that fail
abbrev pub sink_planned : FaultySink → List ℕ
sink_planned s = s.failing

-- the next put is one that fails
abbrev pub NextPutFails : FaultySink → Type 0
NextPutFails s = Contains s.failing s.calls
