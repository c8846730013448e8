use Rattle.core_texts.proofs.OneTree.{one_tree}
use Rattle.core_texts.proofs.a_text_has_one_tree.Goals as goal

-- src/lib.rt
pub returns : goal.returns
returns c = one_tree
