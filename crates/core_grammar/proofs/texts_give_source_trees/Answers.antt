use Rattle.core_grammar.proofs.SourceTrees.{texts_are_sources}
use Rattle.core_grammar.proofs.texts_give_source_trees.Goals as goal

-- src/lib.rt
pub returns : goal.returns
returns c = texts_are_sources
