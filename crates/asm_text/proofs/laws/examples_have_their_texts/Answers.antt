use Rattle.asm_text.proofs.Examples.{one_has_text, three_has_text}
use Rattle.asm_text.proofs.laws.examples_have_their_texts.Goals as goal

pub returns : goal.returns
returns c = record {
  one = one_has_text c.printed_modules_are_read.ensures;
  three = three_has_text c.printed_modules_are_read.ensures;
}
