use Rattle.std.proofs.Common.{ap, ◌∙◌}
use Rattle.erl_base.specs.Names.{same_name}
use Rattle.operand_read.proofs.Words.{word_told}
use Rattle.operand_read.proofs.terms.is_word.Goals as goal

pub returns : goal.returns
returns c =
    word_told _ _ _ c.as_str.utf8 c.utf8.word c.eq.ensures c.requires.ascii
    ∙ ap (same_name c.args.word.now) c.as_str.ensures
