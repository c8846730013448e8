use Rattle.core_lex.proofs.Numbers.{all_small}
use Rattle.core_lex.proofs.laws.short_numbers_are_small.Goals as goal

pub returns : goal.returns
returns c = all_small
