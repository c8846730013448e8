use Rattle.std.proofs.Common.{rules}
use Rattle.bif_answer.proofs.Names.{same_text}
use Rattle.bif_answer.proofs.comparisons.is_text.Goals as goal

pub returns : goal.returns
returns c = same_text _ _ _ _ c.as_str.utf8 c.utf8.text (search rules) (search rules)
