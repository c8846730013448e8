use Rattle.std.proofs.Common.{◌≤◌}
use Rattle.shared_term.specs.declared.value.Value.{size-Value}
use Rattle.shared_term.proofs.+drop.Given as goal

abbrev pub invariant-value::Value::drop-loop-self : goal.invariant-value::Value::drop-loop-self
invariant-value::Value::drop-loop-self l = size-Value l.self ≤ size-Value l.fn.self
