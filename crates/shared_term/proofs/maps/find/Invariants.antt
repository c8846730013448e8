use Rattle.std.proofs.Common.{◌≡◌, ◌≤◌, ◌<◌, ◌-◌, ℕ, length}
use Rattle.std.specs.declared.cmp.Ordering.TheVariants.{Less, Greater}
use Rattle.shared_term.specs.Places.{stands}
use Rattle.shared_term.specs.View.{view}
use Rattle.shared_term.proofs.maps.find.Given as goal

abbrev pub invariant-loop-low : goal.invariant-loop-low
invariant-loop-low l = record {
  ordered : l.low ≤ l.high;
  within : l.high ≤ length l.pairs;
  below : (i : ℕ) → i < l.low → stands (view l.key) l.pairs i ≡ Greater;
  above : (i : ℕ) → l.high ≤ i → stands (view l.key) l.pairs i ≡ Less;
}

abbrev pub decreases-loop-low : goal.decreases-loop-low
decreases-loop-low l = l.high - l.low
