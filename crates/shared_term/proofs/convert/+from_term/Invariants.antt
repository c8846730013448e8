use Rattle.std.proofs.Common.{◌≡◌, ◌≤◌, All, map, take, drop, length}
use Rattle.erl_term.specs.Terms.{list_of}
use Rattle.erl_term.specs.View as Kept
use Rattle.shared_term.specs.View.{view, pair_view, IsWhole, IsPairWhole}
use Rattle.shared_term.proofs.convert.+from_term.Given as goal

abbrev pub invariant-from_terms-loop-term : goal.invariant-from_terms-loop-term
invariant-from_terms-loop-term l = record {
  same : map view l.values ≡ map Kept.view (take l.term-index l.terms);
  whole : All IsWhole l.values;
}

abbrev pub invariant-from_pairs-loop-pair : goal.invariant-from_pairs-loop-pair
invariant-from_pairs-loop-pair l = record {
  same : map pair_view l.values ≡ map Kept.pair_view (take l.pair-index l.pairs);
  whole : All IsPairWhole l.values;
}

abbrev pub invariant-put_before-loop-left : goal.invariant-put_before-loop-left
invariant-put_before-loop-left l = record {
  within : l.left ≤ length l.items;
  same : view l.list ≡ list_of (map Kept.view (drop l.left l.items)) (view l.fn.tail);
  whole : IsWhole l.list;
}

abbrev pub decreases-put_before-loop-left : goal.decreases-put_before-loop-left
decreases-put_before-loop-left l = l.left
