use Rattle.std.proofs.Common.{◌≡◌}
use Rattle.bif_table.specs.BuiltinAnswer.{items}
use Rattle.shared_term.specs.View.{view, IsWhole}
use Rattle.bif_answer.proofs.Plain.{cells_in}
use Rattle.bif_answer.proofs.parts.length.Given as goal

abbrev pub invariant-along : goal.invariant-along
invariant-along l = record {
  counted : items l.count (view l.at) ≡ items 0 (view l.a);
  whole : IsWhole l.at;
}

abbrev pub decreases-along : goal.decreases-along
decreases-along l = cells_in (view l.at)
