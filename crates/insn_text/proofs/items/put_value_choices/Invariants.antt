use Rattle.std.proofs.Common.{◌≡◌, ℕ, List, ◌++◌, true, drop}
use Rattle.beam_table.specs.View.{choice_view}
use Rattle.insn_text.proofs.Loops.{listed}
use Rattle.insn_text.proofs.ListedItems.{choice_on}
use Rattle.insn_text.proofs.items.put_value_choices.Given as goal

abbrev pub invariant-loop-choice : goal.invariant-loop-choice
invariant-loop-choice l = (r : List ℕ) → l.out ++ listed choice_on choice_view l.first (drop l.choice-index l.choices) r
    ≡ l.initial.out ++ listed choice_on choice_view true l.choices r
