use Rattle.std.proofs.Common.{◌≡◌, All, map, take}
use Rattle.erl_term.specs.View as Kept
use Rattle.shared_term.specs.View.{view, IsWhole}
use Rattle.bif_answer.proofs.terms.values_of.Given as goal

abbrev pub invariant-loop-term : goal.invariant-loop-term
invariant-loop-term l = record {
  same : map view l.values ≡ map Kept.view (take l.term-index l.terms);
  whole : All IsWhole l.values;
}
