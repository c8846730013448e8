use Rattle.core_lex.proofs.Sizes.{lexeme_within}
use Rattle.core_lex.proofs.Scanning.{at_lexeme}
use Rattle.core_lex.proofs.laws.lexemes_cut_the_text.Goals as goal

pub returns-clause-within : goal.returns-clause-within
returns-clause-within c cs h = lexeme_within cs h

pub returns-clause-cut : goal.returns-clause-cut
returns-clause-cut c cs place byte h = let w = lexeme_within cs h in at_lexeme cs place byte h w.positive w.fits
