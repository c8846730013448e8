use Rattle.shared_term.specs.View.{IsWhole}
use Rattle.measure.proofs.lists.walk.Given as goal

abbrev pub invariant-loop : goal.invariant-loop
invariant-loop l = IsWhole l.lists × IsWhole l.at
