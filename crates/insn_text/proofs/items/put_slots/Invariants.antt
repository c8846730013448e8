use Rattle.std.proofs.Common.{◌≡◌, ℕ, List, ◌++◌, true, drop}
use Rattle.insn_text.proofs.Loops.{bare}
use Rattle.insn_text.proofs.ListedItems.{slot_on}
use Rattle.insn_text.proofs.items.put_slots.Given as goal

abbrev pub invariant-loop-slot : goal.invariant-loop-slot
invariant-loop-slot l = (r : List ℕ) → l.out ++ bare slot_on l.first (drop l.slot-index l.slots) r
    ≡ l.initial.out ++ bare slot_on true l.slots r
