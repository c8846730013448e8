use Rattle.std.proofs.Common.{◌≡◌, drop}
use Rattle.erl_term.specs.TermOrder.{compare_keys, compare_values}
use Rattle.erl_term.specs.Comparing.{common, row, pair_row, AllNormal, PairsNormal, ValuesNormal}
use Rattle.erl_term.proofs.order.+order.Given as goal

abbrev pub invariant-compare_common-loop-i : goal.invariant-compare_common-loop-i
invariant-compare_common-loop-i l = record {
  same : common (row (drop l.i l.xs)) (row (drop l.i l.ys)) ≡ common (row l.xs) (row l.ys);
  first : AllNormal (drop l.i l.xs);
  second : AllNormal (drop l.i l.ys);
}

abbrev pub invariant-compare_keys-loop-i : goal.invariant-compare_keys-loop-i
invariant-compare_keys-loop-i l = record {
  same : compare_keys (pair_row (drop l.i l.ps)) (pair_row (drop l.i l.qs))
      ≡ compare_keys (pair_row l.ps) (pair_row l.qs);
  first : PairsNormal (drop l.i l.ps);
  second : PairsNormal (drop l.i l.qs);
}

abbrev pub invariant-compare_values-loop-i : goal.invariant-compare_values-loop-i
invariant-compare_values-loop-i l = record {
  same : compare_values (pair_row (drop l.i l.ps)) (pair_row (drop l.i l.qs))
      ≡ compare_values (pair_row l.ps) (pair_row l.qs);
  first : ValuesNormal (drop l.i l.ps);
  second : ValuesNormal (drop l.i l.qs);
}
