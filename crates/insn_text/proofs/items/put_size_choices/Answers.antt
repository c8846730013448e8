use Rattle.std.proofs.Common.{◌≡◌, [], ◌∷◌, ◌+◌, drop, get_or, arith}
use Rattle.std.proofs.lemmas.Grind.{common_steps}
use Rattle.term_text.specs.TermText.{texts}
use Rattle.beam_table.specs.View.{size_choice_view}
use Rattle.insn_text.proofs.Loops.{listed, listed_one, more, done}
use Rattle.insn_text.proofs.ListedItems.{size_on, put_size_choices_steps}
use Rattle.insn_text.proofs.items.put_size_choices.Goals as goal

pub loop-choice-preserved : goal.loop-choice-preserved
unfolding texts
loop-choice-preserved c =
    let i = c.loop-choice.choice-index in
    let cs = c.args.choices.now in
    let cons : drop i cs ≡ get_or cs i (record { size = 0; label = record { 0 = 0 } }) ∷ drop (i + 1) cs =
    grind (arith, common_steps) in
    more (listed size_on size_choice_view) (listed_one size_on size_choice_view) put_size_choices_steps
    _ _ _ _ _ _ _ cons
    c.in_ok-put_singles.ensures c.loop-choice.invariant

pub returns : goal.returns
returns c =
    let none : drop c.loop-choice.choice-index c.args.choices.now ≡ [] = grind (arith, common_steps) in
    done (listed size_on size_choice_view)
    (listed_one size_on size_choice_view) put_size_choices_steps _ _ _ _ none c.loop-choice.invariant
