use Rattle.std.proofs.Common.{◌≡◌, [], ◌∷◌, ◌∙◌, ◌+◌, drop, arith}
use Rattle.std.proofs.lemmas.Grind.{common_steps}
use Rattle.insn_text.specs.Rows.{single_term}
use Rattle.insn_text.proofs.Loops.{mapped, one, mapped_steps, more, done}
use Rattle.insn_text.proofs.singles.put_singles.Goals as goal

pub loop-single-preserved : goal.loop-single-preserved
loop-single-preserved c =
    let cons : drop c.loop-single.single-index c.args.singles.now
    ≡ c.single-item.result ∷ drop (c.loop-single.single-index + 1) c.args.singles.now = grind (arith, common_steps) in
    more (mapped single_term) (one single_term) (mapped_steps single_term) _ _ _ _ _ _ _ cons
    (λ r. c.in_ok-put_single.ensures r ∙ c.in_ok-put_comma.ensures _) c.loop-single.invariant

pub returns : goal.returns
returns c =
    let none : drop c.loop-single.single-index c.args.singles.now ≡ [] = grind (arith, common_steps) in
    done (mapped single_term) (one single_term) (mapped_steps single_term) _ _ _ _ none c.loop-single.invariant
