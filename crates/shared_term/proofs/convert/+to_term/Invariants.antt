use Rattle.std.proofs.Common.{◌≡◌, ◌≤◌, All, map, take}
use Rattle.erl_term.specs.Term as P
use Rattle.erl_term.specs.Terms.{list_of}
use Rattle.erl_term.specs.View as Kept
use Rattle.erl_term.specs.WellFormed.{IsWellFormed}
use Rattle.erl_term.specs.WellRows.{IsPairWellFormed}
use Rattle.shared_term.specs.Comparing.{IsCellWhole}
use Rattle.shared_term.specs.View.{view, pair_view}
use Rattle.shared_term.specs.declared.value.Cell.{size-Cell}
use Rattle.shared_term.proofs.convert.+to_term.Given as goal

abbrev pub invariant-to_list-along : goal.invariant-to_list-along
invariant-to_list-along l = record {
  same : list_of (map Kept.view l.items) (P.cons (view l.at.head) (view l.at.tail)) ≡ P.cons (view l.fn.cell.head)
      (view l.fn.cell.tail);
  well_formed : All IsWellFormed l.items;
  whole : IsCellWhole l.at;
  size : size-Cell l.at ≤ size-Cell l.fn.cell;
}

abbrev pub invariant-to_terms-loop-value : goal.invariant-to_terms-loop-value
invariant-to_terms-loop-value l = record {
  same : map Kept.view l.terms ≡ map view (take l.value-index l.values);
  well_formed : All IsWellFormed l.terms;
}

abbrev pub invariant-to_pairs-loop-pair : goal.invariant-to_pairs-loop-pair
invariant-to_pairs-loop-pair l = record {
  same : map Kept.pair_view l.pairs ≡ map pair_view (take l.pair-index l.values);
  well_formed : All IsPairWellFormed l.pairs;
}
