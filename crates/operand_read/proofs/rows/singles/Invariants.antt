use Rattle.std.proofs.Common.{◌≡◌, map, drop}
use Rattle.erl_term.specs.Comparing.{AllNormal}
use Rattle.erl_term.specs.View.{view}
use Rattle.insn_terms.specs.Reading.{value_of, singles}
use Rattle.operand_read.proofs.ListRows.{joined}
use Rattle.operand_read.proofs.rows.singles.Given as goal

abbrev pub invariant-loop-term : goal.invariant-loop-term
invariant-loop-term g l = record {
  normal : AllNormal (drop l.term-index l.terms);
  read : singles (value_of g.I.Item.kind) (map view l.terms)
      ≡ joined (map g.I.Item.plain l.items) (singles (value_of g.I.Item.kind) (map view (drop l.term-index l.terms)));
}
