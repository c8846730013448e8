use Rattle.std.proofs.Common.{◌≡◌, ◌-◌, length, drop}
use Rattle.core_syntax.specs.Beginnings.{stacked}
use Rattle.core_syntax.proofs.stack.Stack.put.Given as goal

abbrev pub invariant-loop-i : goal.invariant-loop-i
invariant-loop-i l = l.self ≡ stacked l.depth (drop (length l.items - l.i) l.items) l.initial.self
