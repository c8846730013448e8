use Rattle.std.proofs.Common.{◌≡◌, [], ◌∷◌, ◌+◌, drop, arith, get_or}
use Rattle.std.proofs.lemmas.Grind.{common_steps}
use Rattle.term_text.specs.TermText.{texts}
use Rattle.insn_text.proofs.Loops.{bare, bare_one, more, done}
use Rattle.insn_text.proofs.ListedItems.{slot_on, put_slots_steps}
use Rattle.insn_text.proofs.items.put_slots.Goals as goal

pub loop-slot-preserved : goal.loop-slot-preserved
unfolding texts
loop-slot-preserved c =
    let cons : drop c.loop-slot.slot-index c.args.slots.now
    ≡ get_or c.args.slots.now c.loop-slot.slot-index 0
    ∷ drop (c.loop-slot.slot-index + 1) c.args.slots.now = grind (arith, common_steps) in
    more (bare slot_on) (bare_one slot_on) put_slots_steps _ _ _ _ _ _ _ cons
    c.in_ok-put_singles.ensures c.loop-slot.invariant

pub returns : goal.returns
returns c =
    let none : drop c.loop-slot.slot-index c.args.slots.now ≡ [] = grind (arith, common_steps) in
    done (bare slot_on) (bare_one slot_on) put_slots_steps _ _ _ _ none c.loop-slot.invariant
