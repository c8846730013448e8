use Rattle.std.proofs.Common.{◌≡◌, map, drop}
use Rattle.erl_term.specs.Comparing.{AllNormal}
use Rattle.erl_term.specs.View.{view}
use Rattle.insn_terms.specs.Reading.{words_in}
use Rattle.operand_read.proofs.ListRows.{raised}
use Rattle.operand_read.proofs.flags.words_in.Given as goal

abbrev pub invariant-loop-term : goal.invariant-loop-term
invariant-loop-term l = record {
  normal : AllNormal (drop l.term-index l.terms);
  read : words_in (map view l.terms)
      ≡ raised l.flags.signed l.flags.little (words_in (map view (drop l.term-index l.terms)));
}
