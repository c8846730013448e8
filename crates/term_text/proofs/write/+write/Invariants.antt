use Rattle.std.proofs.Common.{◌≡◌, ℕ, List, ◌++◌, drop, true}
use Rattle.term_text.specs.TermText.{row_on, pairs_on}
use Rattle.erl_term.specs.Comparing.{row, pair_row, AllNormal, PairsNormal}
use Rattle.term_text.proofs.write.+write.Given as goal

abbrev pub invariant-push_row-loop-term : goal.invariant-push_row-loop-term
invariant-push_row-loop-term l = record {
  text : (r : List ℕ) → l.out ++ row_on l.first (row (drop l.term-index l.terms)) r
      ≡ l.initial.out ++ row_on true (row l.terms) r;
  normal : AllNormal (drop l.term-index l.terms);
}

abbrev pub invariant-push_pairs-loop-pair : goal.invariant-push_pairs-loop-pair
invariant-push_pairs-loop-pair l = record {
  text : (r : List ℕ) → l.out ++ pairs_on l.first (pair_row (drop l.pair-index l.pairs)) r
      ≡ l.initial.out ++ pairs_on true (pair_row l.pairs) r;
  normal : PairsNormal (drop l.pair-index l.pairs);
}
