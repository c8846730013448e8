use Rattle.bif_answer.proofs.Names.{true_named, false_named, not_named}
use Rattle.bif_answer.proofs.comparisons.truth_named.Goals as goal

pub returns-then-is_text : goal.returns-then-is_text
returns-then-is_text c = true_named _ _ c.is_text.ensures c.if-is_text.true

pub returns-then-is_text-2 : goal.returns-then-is_text-2
returns-then-is_text-2 c = false_named _ _ c.is_text-else-is_text.ensures c.if-is_text-2.true

pub returns-else-is_text-2 : goal.returns-else-is_text-2
returns-else-is_text-2 c =
    not_named _ _ _ c.is_text.ensures c.if-is_text.false c.is_text-else-is_text.ensures c.if-is_text-2.false
