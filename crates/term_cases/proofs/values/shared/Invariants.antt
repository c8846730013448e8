use Rattle.std.proofs.Common.{All}
use Rattle.shared_term.specs.View.{IsWhole}
use Rattle.term_cases.proofs.values.shared.Given as goal

abbrev pub invariant-loop-value : goal.invariant-loop-value
invariant-loop-value l = All IsWhole l.copies
