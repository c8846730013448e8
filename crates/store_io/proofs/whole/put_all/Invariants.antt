use Rattle.std.proofs.Common.{◌≡◌, ◌≤◌, ◌++◌, ◌-◌, length, take}
use Rattle.store_io.specs.Files.{Alike}
use Rattle.store_io.proofs.whole.put_all.Given as goal

abbrev pub invariant-loop-done : goal.invariant-loop-done
invariant-loop-done g l =
    record {
      within : l.done ≤ length l.bytes;
      bytes : Alike (g.O.Sink.bytes l.fn.sink) (g.O.Sink.bytes l.sink) (λ old new. new ≡ old ++ take l.done l.bytes);
      faults : g.O.Sink.faults l.fn.sink ≤ g.O.Sink.faults l.sink;
    }

abbrev pub decreases-loop-done : goal.decreases-loop-done
decreases-loop-done g l = length l.bytes - l.done
