use Rattle.core_lex.proofs.Cut.{longest_taken, no_symbol}
use Rattle.core_lex.proofs.laws.longest_symbol_is_taken.Goals as goal

pub returns-clause-longest : goal.returns-clause-longest
returns-clause-longest c cs s x l = longest_taken cs s x l

pub returns-clause-none : goal.returns-clause-none
returns-clause-none c cs none = no_symbol cs none
