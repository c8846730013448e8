use Rattle.std.proofs.Common.{◌≡◌, ◌<◌, ◌+◌, ◌-◌, ◌*◌, ◌++◌, min, take, length}
use Rattle.erl_term.specs.BitString.{bits_of, byte_bits}
use Rattle.shared_term.specs.View.{range_view}
use Rattle.shared_term.proofs.octets.own_bits.Given as goal

abbrev pub invariant-loop-done : goal.invariant-loop-done
invariant-loop-done l = record {
  count : l.done ≡ min (8 * length l.copy) l.range.length;
  room : 8 * length l.copy < l.range.length + 8;
  copied : byte_bits l.copy ≡ take (8 * length l.copy) (range_view l.range ++ bits_of 8 0);
}

abbrev pub decreases-loop-done : goal.decreases-loop-done
decreases-loop-done l = l.range.length - l.done
