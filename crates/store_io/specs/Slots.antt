-- What a store in memory tells, from its slots.
use Rattle.std.specs.Prelude.{ℕ, List, Option, None, Some, if◌then◌else◌}
use Rattle.std.specs.declared.string.String.{String}
use Rattle.std.specs.declared.alloc.Global.{Global}
use Rattle.std.specs.BTreeMap.{BTreeMap, get_by_text}
use Rattle.store_io.specs.declared.slot.Slot.{Slot}
use Rattle.store_io.specs.declared.memory.MemoryStore.{MemoryStore}
use Rattle.store_io.specs.Files.{Files, Rooms}

-- the bytes of the file, if the name has one
abbrev pub file_of : Slot → Option (List ℕ)
file_of s = if s.is_file then Some s.bytes.items else None

-- what a slot tells, if the name has a slot
abbrev pub in_slot : {A : Type 0} → (Slot → Option A) → Option Slot → Option A
in_slot f None = None
in_slot f (Some s) = f s

-- the slots by their names
abbrev pub Slots : Type 0
Slots = BTreeMap (String Global) Slot

-- the files of slots
abbrev pub files_in : Slots → Files
files_in m n = in_slot file_of (get_by_text m n)

-- the rooms of slots
abbrev pub rooms_in : Slots → Rooms
rooms_in m n = in_slot (λ s. Some s.room) (get_by_text m n)

-- the files of a store in memory
abbrev pub told_files : MemoryStore → Files
told_files s = files_in s.slots

-- the rooms of a store in memory, one for each known name
abbrev pub told_rooms : MemoryStore → Rooms
told_rooms s = rooms_in s.slots

-- the room of a name; 0 for a name that isn't known
abbrev pub room_of : Option ℕ → ℕ
room_of None = 0
room_of (Some n) = n

-- how many faults of writing a store in memory counted
abbrev pub write_count : MemoryStore → ℕ
write_count s = s.write_faults
