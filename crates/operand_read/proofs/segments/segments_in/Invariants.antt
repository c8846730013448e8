use Rattle.std.proofs.Common.{◌≡◌, length, map}
use Rattle.erl_term.specs.Comparing.{AllNormal}
use Rattle.erl_term.specs.View.{view}
use Rattle.beam_table.specs.View.{segment_view}
use Rattle.insn_terms.specs.Reading.{segments_in}
use Rattle.operand_read.proofs.ListRows.{joined}
use Rattle.operand_read.proofs.segments.segments_in.Given as goal

abbrev pub invariant-left : goal.invariant-left
invariant-left l = record {
  normal : AllNormal l.left;
  read : segments_in (map view l.terms) ≡ joined (map segment_view l.segments) (segments_in (map view l.left));
}

abbrev pub decreases-left : goal.decreases-left
decreases-left l = length l.left
