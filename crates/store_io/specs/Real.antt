-- What the objects of the system count.
use Rattle.std.specs.Prelude.{ℕ}
use Rattle.store_io.specs.declared.real.RealStore.{RealStore}
use Rattle.store_io.specs.declared.std_sink.StdSink.{StdSink}

-- how many faults of reading were counted
abbrev pub read_count : {R A B : Type 0} → RealStore R A B → ℕ
read_count s = s.read_faults

-- how many faults of writing were counted
abbrev pub write_count : {R A B : Type 0} → RealStore R A B → ℕ
write_count s = s.write_faults

-- how many faults a stream counted
abbrev pub fault_count : {W : Type 0} → StdSink W → ℕ
fault_count s = s.faults
