use Rattle.std.proofs.Common.{◌≡◌, take}
use Rattle.std.specs.Prelude.{IfOk}
use Rattle.core_copy.proofs.copies.+copy.Given as goal

abbrev pub invariant-copy_exprs-loop-item : goal.invariant-copy_exprs-loop-item
invariant-copy_exprs-loop-item l = IfOk l.copy (λ c. c ≡ take l.item-index l.items)

abbrev pub invariant-copy_parts-loop-item : goal.invariant-copy_parts-loop-item
invariant-copy_parts-loop-item l = IfOk l.copy (λ c. c ≡ take l.item-index l.items)

abbrev pub invariant-copy_segments-loop-item : goal.invariant-copy_segments-loop-item
invariant-copy_segments-loop-item l = IfOk l.copy (λ c. c ≡ take l.item-index l.items)

abbrev pub invariant-copy_defs-loop-item : goal.invariant-copy_defs-loop-item
invariant-copy_defs-loop-item l = IfOk l.copy (λ c. c ≡ take l.item-index l.items)

abbrev pub invariant-copy_clauses-loop-item : goal.invariant-copy_clauses-loop-item
invariant-copy_clauses-loop-item l = IfOk l.copy (λ c. c ≡ take l.item-index l.items)

abbrev pub invariant-copy_patterns-loop-item : goal.invariant-copy_patterns-loop-item
invariant-copy_patterns-loop-item l = IfOk l.copy (λ c. c ≡ take l.item-index l.items)

abbrev pub invariant-copy_keys-loop-item : goal.invariant-copy_keys-loop-item
invariant-copy_keys-loop-item l = IfOk l.copy (λ c. c ≡ take l.item-index l.items)

abbrev pub invariant-copy_seg_patterns-loop-item : goal.invariant-copy_seg_patterns-loop-item
invariant-copy_seg_patterns-loop-item l = IfOk l.copy (λ c. c ≡ take l.item-index l.items)
