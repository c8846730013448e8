use Rattle.std.proofs.Common.{◌≡◌, length, map}
use Rattle.erl_term.specs.Comparing.{AllNormal}
use Rattle.erl_term.specs.View.{view}
use Rattle.insn_terms.specs.Reading.{value_of, in_pairs, both}
use Rattle.operand_read.proofs.ListRows.{joined}
use Rattle.operand_read.proofs.rows.in_pairs.Given as goal

abbrev pub invariant-left : goal.invariant-left
invariant-left g l = record {
  normal : AllNormal l.left;
  read : in_pairs (both (value_of g.P.Pair.first) (value_of g.P.Pair.second)) (map view l.terms)
      ≡ joined (map g.P.Pair.plain l.pairs)
      (in_pairs (both (value_of g.P.Pair.first) (value_of g.P.Pair.second)) (map view l.left));
}

abbrev pub decreases-left : goal.decreases-left
decreases-left g l = length l.left
