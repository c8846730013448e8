use Rattle.std.proofs.Common.{◌≡◌, take}
use Rattle.core_copy.proofs.tree.ListCoreCopy.copy.Given as goal

abbrev pub invariant-loop-item : goal.invariant-loop-item
invariant-loop-item g l = l.copy ≡ take l.item-index (l.self)
