use Rattle.std.proofs.Common.{rules}
use Rattle.core_names.proofs.Spelling.{word_spelled}
use Rattle.core_names.proofs.words.is_word.Goals as goal

pub returns : goal.returns
returns c = word_spelled _ _ _ c.utf8.name c.utf8.word (search rules) (search (rules, c.requires.ascii))
