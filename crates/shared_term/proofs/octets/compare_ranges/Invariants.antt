use Rattle.std.proofs.Common.{◌≡◌, ◌≤◌, ◌-◌, drop}
use Rattle.std.specs.Ordering.{bool_cmp}
use Rattle.std.specs.Cmp.Lexicographic.{slice_cmp}
use Rattle.shared_term.specs.View.{range_view}
use Rattle.shared_term.proofs.octets.compare_ranges.Given as goal

abbrev pub invariant-loop-done : goal.invariant-loop-done
invariant-loop-done l = record {
  within : l.done ≤ l.common;
  same : slice_cmp bool_cmp (drop l.done (range_view l.a)) (drop l.done (range_view l.b)) ≡ slice_cmp bool_cmp
      (range_view l.a) (range_view l.b);
}

abbrev pub decreases-loop-done : goal.decreases-loop-done
decreases-loop-done l = l.common - l.done
