use Rattle.std.proofs.Common.{◌≡◌, [], ◌∷◌, ◌∙◌, ◌+◌, drop, arith}
use Rattle.std.proofs.lemmas.Grind.{common_steps}
use Rattle.insn_text.specs.Rows.{row_term}
use Rattle.insn_text.proofs.Loops.{mapped, one, mapped_steps, more, done}
use Rattle.insn_text.proofs.items.put_row.Goals as goal

pub loop-operand-preserved : goal.loop-operand-preserved
loop-operand-preserved c =
    let cons : drop c.loop-operand.operand-index c.args.row.now
    ≡ c.operand-item.result ∷ drop (c.loop-operand.operand-index + 1) c.args.row.now = grind (arith, common_steps) in
    more (mapped row_term) (one row_term) (mapped_steps row_term) _ _ _ _ _ _ _ cons
    (λ r. c.in_ok-put_operand.ensures r ∙ c.in_ok-put_comma.ensures _) c.loop-operand.invariant

pub returns : goal.returns
returns c =
    let none : drop c.loop-operand.operand-index c.args.row.now ≡ [] = grind (arith, common_steps) in
    done (mapped row_term) (one row_term) (mapped_steps row_term) _ _ _ _ none c.loop-operand.invariant
