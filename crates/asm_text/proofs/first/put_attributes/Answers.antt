use Rattle.std.proofs.Common.{◌≡◌, [], ◌∷◌, ◌∙◌, ◌+◌, ◌<◌, drop, length, sym, arith, rules}
use Rattle.std.proofs.lemmas.Grind.{common_steps}
use Rattle.asm_text.proofs.Rows.{attribute_row, attribute_item, attribute_steps}
use Rattle.insn_text.proofs.Loops.{more, done}
use Rattle.asm_text.proofs.first.put_attributes.Goals as goal

pub put_attribute-requires : goal.put_attribute-requires
put_attribute-requires c =
    let below : c.loop-attribute.attribute-index < length c.args.attributes.now = search rules in
    c.requires _ (c.loop-attribute.attribute-index, below, sym c.attribute-item.is)

pub loop-attribute-preserved : goal.loop-attribute-preserved
loop-attribute-preserved c =
    let cons : drop c.loop-attribute.attribute-index c.args.attributes.now
    ≡ c.attribute-item.result ∷ drop (c.loop-attribute.attribute-index + 1) c.args.attributes.now = grind
    (arith, common_steps) in
    more (attribute_row) (attribute_item) (attribute_steps) _ _ _ _ _ _ _ cons
    (λ r. c.in_ok-put_attribute.ensures r ∙ c.in_ok-put_comma.ensures _) c.loop-attribute.invariant

pub returns : goal.returns
returns c =
    let none : drop c.loop-attribute.attribute-index c.args.attributes.now ≡ [] = grind (arith, common_steps) in
    done (attribute_row) (attribute_item) (attribute_steps) _ _ _ _ none c.loop-attribute.invariant
