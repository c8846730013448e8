use Rattle.std.proofs.Common.{◌≡◌, [], ◌∷◌, ◌∙◌, ◌+◌, drop, arith}
use Rattle.std.proofs.lemmas.Grind.{common_steps}
use Rattle.beam_table.specs.ModuleForms.{key_term}
use Rattle.insn_text.proofs.Loops.{mapped, one, mapped_steps}
use Rattle.insn_text.proofs.Loops.{more, done}
use Rattle.asm_text.proofs.first.put_keys.Goals as goal

pub loop-key-preserved : goal.loop-key-preserved
loop-key-preserved c =
    let cons : drop c.loop-key.key-index c.args.keys.now
    ≡ c.key-item.result ∷ drop (c.loop-key.key-index + 1) c.args.keys.now = grind (arith, common_steps) in
    more (mapped key_term) (one key_term) (mapped_steps key_term) _ _ _ _ _ _ _ cons
    (λ r. c.in_ok-put_key.ensures r ∙ c.in_ok-put_comma.ensures _) c.loop-key.invariant

pub returns : goal.returns
returns c =
    let none : drop c.loop-key.key-index c.args.keys.now ≡ [] = grind (arith, common_steps) in
    done (mapped key_term) (one key_term) (mapped_steps key_term) _ _ _ _ none c.loop-key.invariant
