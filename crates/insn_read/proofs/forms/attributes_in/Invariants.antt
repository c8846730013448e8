use Rattle.std.proofs.Common.{◌≡◌, map, drop}
use Rattle.erl_term.specs.Comparing.{AllNormal}
use Rattle.erl_term.specs.View.{view, attribute_view}
use Rattle.insn_terms.specs.Reading.{singles, pair_of}
use Rattle.operand_read.proofs.ListRows.{joined}
use Rattle.insn_read.proofs.forms.attributes_in.Given as goal

abbrev pub invariant-loop-term : goal.invariant-loop-term
invariant-loop-term l = record {
  normal : AllNormal (drop l.term-index l.terms);
  read : singles pair_of (map view l.terms)
      ≡ joined (map attribute_view l.attributes) (singles pair_of (map view (drop l.term-index l.terms)));
}
