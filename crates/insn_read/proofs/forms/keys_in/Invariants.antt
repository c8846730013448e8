use Rattle.std.proofs.Common.{◌≡◌, map, drop}
use Rattle.erl_term.specs.Comparing.{AllNormal}
use Rattle.erl_term.specs.View.{view}
use Rattle.insn_terms.specs.Reading.{singles}
use Rattle.asm_forms.specs.FormParts.{key_term_of}
use Rattle.operand_read.proofs.ListRows.{joined}
use Rattle.insn_read.proofs.forms.keys_in.Given as goal

abbrev pub invariant-loop-term : goal.invariant-loop-term
invariant-loop-term l = record {
  normal : AllNormal (drop l.term-index l.terms);
  read : singles key_term_of (map view l.terms)
      ≡ joined l.keys (singles key_term_of (map view (drop l.term-index l.terms)));
}
