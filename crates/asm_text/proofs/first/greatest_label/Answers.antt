use Rattle.std.proofs.Common.{◌≡◌, ◌∷◌, ◌+◌, drop, arith}
use Rattle.std.proofs.lemmas.Grind.{common_steps}
use Rattle.asm_text.proofs.Labels.{function_counted}
use Rattle.asm_text.proofs.first.greatest_label.Goals as goal

pub loop-function-preserved : goal.loop-function-preserved
loop-function-preserved c =
    let cons : drop c.loop-function.function-index c.args.functions.now
    ≡ c.function-item.result ∷ drop (c.loop-function.function-index + 1) c.args.functions.now =
    grind (arith, common_steps) in
    let inside = rw c.as_slice.ensures at c.greatest_in.ensures in
    function_counted _ _ _ _ _ _ cons (omega (arith, inside)) c.loop-function.invariant
