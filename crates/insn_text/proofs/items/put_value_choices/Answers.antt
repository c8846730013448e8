use Rattle.std.proofs.Common.{◌≡◌, [], ◌∷◌, ◌+◌, drop, arith}
use Rattle.std.proofs.lemmas.Grind.{common_steps}
use Rattle.term_text.specs.TermText.{texts}
use Rattle.beam_table.specs.View.{choice_view}
use Rattle.beam_table.specs.declared.operand.ValueChoice.{ValueChoice}
use Rattle.insn_text.specs.Literals.{source_normal}
use Rattle.insn_text.proofs.Kept.{part_kept}
use Rattle.insn_text.proofs.Loops.{listed, listed_one, more, done}
use Rattle.insn_text.proofs.ListedItems.{choice_on, put_value_choices_steps}
use Rattle.insn_text.proofs.items.put_value_choices.Goals as goal

pub put_singles-requires : goal.put_singles-requires
put_singles-requires c =
    let cons : drop c.loop-choice.choice-index c.args.choices.now
    ≡ c.choice-item.result ∷ drop (c.loop-choice.choice-index + 1) c.args.choices.now = grind (arith, common_steps) in
    part_kept source_normal (λ (c : ValueChoice). c.value) c.args.choices.now c.loop-choice.choice-index c.choice-item.result
    _ cons c.requires

pub loop-choice-preserved : goal.loop-choice-preserved
unfolding texts
loop-choice-preserved c =
    let cons : drop c.loop-choice.choice-index c.args.choices.now
    ≡ c.choice-item.result ∷ drop (c.loop-choice.choice-index + 1) c.args.choices.now = grind (arith, common_steps) in
    more (listed choice_on choice_view) (listed_one choice_on choice_view) put_value_choices_steps _ _ _ _ _ _ _ cons
    c.in_ok-put_singles.ensures c.loop-choice.invariant

pub returns : goal.returns
returns c =
    let none : drop c.loop-choice.choice-index c.args.choices.now ≡ [] = grind (arith, common_steps) in
    done (listed choice_on choice_view)
    (listed_one choice_on choice_view) put_value_choices_steps _ _ _ _ none c.loop-choice.invariant
