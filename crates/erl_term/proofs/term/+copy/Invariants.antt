use Rattle.std.proofs.Common.{◌≡◌, take}
use Rattle.erl_term.proofs.term.+copy.Given as goal

abbrev pub invariant-copy_terms-loop-term : goal.invariant-copy_terms-loop-term
invariant-copy_terms-loop-term l = l.copy ≡ take l.term-index l.terms

abbrev pub invariant-copy_pairs-loop-pair : goal.invariant-copy_pairs-loop-pair
invariant-copy_pairs-loop-pair l = l.copy ≡ take l.pair-index l.pairs
