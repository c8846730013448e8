-- What a sink in memory tells.
use Rattle.std.specs.Prelude.{ℕ, List}
use Rattle.store_io.specs.declared.memory_sink.MemorySink.{MemorySink}
use Rattle.store_io.specs.Files.{content}
use Rattle.store_io.specs.Slots.{file_of}

-- the bytes that were put
abbrev pub put_bytes : MemorySink → List ℕ
put_bytes s = content (file_of s.slot)

-- the greatest number of bytes that it may hold
abbrev pub sink_room : MemorySink → ℕ
sink_room s = s.slot.room

-- how many faults it counted
abbrev pub sink_faults : MemorySink → ℕ
sink_faults s = s.faults
