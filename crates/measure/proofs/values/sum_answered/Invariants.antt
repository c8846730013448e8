use Rattle.shared_term.specs.View.{IsWhole}
use Rattle.measure.proofs.values.sum_answered.Given as goal

abbrev pub invariant-loop : goal.invariant-loop
invariant-loop l = IsWhole l.at
