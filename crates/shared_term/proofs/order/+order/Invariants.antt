use Rattle.std.proofs.Common.{◌≡◌, ◌≤◌, drop}
use Rattle.erl_term.specs.TermOrder.{compare_all, compare_keys, compare_values}
use Rattle.shared_term.specs.Comparing.{cells, IsCellWhole}
use Rattle.shared_term.specs.View.{row, pair_row}
use Rattle.shared_term.specs.declared.value.Cell.{size-Cell}
use Rattle.shared_term.proofs.order.+order.Given as goal

abbrev pub invariant-compare_cells-along : goal.invariant-compare_cells-along
invariant-compare_cells-along l = record {
  same : cells l.x l.y ≡ cells l.fn.a l.fn.b;
  first : IsCellWhole l.x;
  second : IsCellWhole l.y;
  size : size-Cell l.x ≤ size-Cell l.fn.a;
  other_size : size-Cell l.y ≤ size-Cell l.fn.b;
}

abbrev pub invariant-compare_items-loop-i : goal.invariant-compare_items-loop-i
invariant-compare_items-loop-i l =
    compare_all (row (drop l.i l.xs)) (row (drop l.i l.ys)) ≡ compare_all (row l.xs) (row l.ys)

abbrev pub invariant-compare_keys-loop-i : goal.invariant-compare_keys-loop-i
invariant-compare_keys-loop-i l =
    compare_keys (pair_row (drop l.i l.ps)) (pair_row (drop l.i l.qs)) ≡ compare_keys (pair_row l.ps) (pair_row l.qs)

abbrev pub invariant-compare_values-loop-i : goal.invariant-compare_values-loop-i
invariant-compare_values-loop-i l = compare_values (pair_row (drop l.i l.ps))
    (pair_row (drop l.i l.qs)) ≡ compare_values (pair_row l.ps) (pair_row l.qs)
