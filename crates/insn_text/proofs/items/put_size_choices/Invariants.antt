use Rattle.std.proofs.Common.{◌≡◌, ℕ, List, ◌++◌, true, drop}
use Rattle.beam_table.specs.View.{size_choice_view}
use Rattle.insn_text.proofs.Loops.{listed}
use Rattle.insn_text.proofs.ListedItems.{size_on}
use Rattle.insn_text.proofs.items.put_size_choices.Given as goal

abbrev pub invariant-loop-choice : goal.invariant-loop-choice
invariant-loop-choice l = (r : List ℕ)
    → l.out ++ listed size_on size_choice_view l.first (drop l.choice-index l.choices) r
    ≡ l.initial.out ++ listed size_on size_choice_view true l.choices r
