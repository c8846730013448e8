use Rattle.term_read.proofs.OneTerm as Law
use Rattle.term_read.proofs.laws.text_has_one_term.Goals as goal

pub returns : goal.returns
returns c bytes t u h k = Law.text_has_one_term bytes t u h k
