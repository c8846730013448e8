use Rattle.std.proofs.Common.{◌≡◌, drop}
use Rattle.std.specs.Ordering.{bool_cmp}
use Rattle.std.specs.Cmp.Lexicographic.{slice_cmp}
use Rattle.erl_term.specs.BitString.{byte_bits}
use Rattle.erl_term.proofs.order.compare_bytes.Given as goal

abbrev pub invariant-loop-i : goal.invariant-loop-i
invariant-loop-i l = slice_cmp bool_cmp (byte_bits (drop l.i l.a)) (byte_bits (drop l.i l.b))
    ≡ slice_cmp bool_cmp (byte_bits l.a) (byte_bits l.b)
