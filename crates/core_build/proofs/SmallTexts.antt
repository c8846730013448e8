-- Each small text, by computing what is built of it.
use Rattle.std.proofs.Common.{refl}
use Rattle.core_lex.specs.Tokens.{tokens, word_at, variable_at, symbol_at, exponent_len, fraction_len, integer_of, number_at, atom_at, string_at, lexeme_at}
use Rattle.core_build.specs.Building.{built}
use Rattle.core_build.specs.SmallTexts.{SmallTexts}

pub small_texts : SmallTexts
unfolding built tokens lexeme_at word_at variable_at symbol_at number_at fraction_len exponent_len integer_of
    atom_at string_at
small_texts = record {
  one_definition = refl;
  receives = refl;
  brackets = refl;
  constants = refl;
  too_short = refl;
}
