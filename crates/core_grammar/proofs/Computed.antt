-- Each example, by computing it.
use Rattle.std.proofs.Common.{◌≡◌, true, arith, refl, ℕ, ◌+◌, pos, false, codes}
use Rattle.erl_base.specs.declared.ids.Place.{Place}
use Rattle.core_lex.specs.declared.token.TokenKind.TheVariants.{Number}
use Rattle.core_grammar.specs.Signs.{IsArityToken}
use Rattle.erl_term.specs.TermOrder.{compare}
use Rattle.erl_term.specs.Terms.{put}
use Rattle.erl_term.specs.BitString.{byte_bits}
use Rattle.core_lex.specs.Tokens.{token, tokens, word_at, variable_at, symbol_at, exponent_len, fraction_len, integer_of, number_at, atom_at, string_at, lexeme_at}
use Rattle.core_grammar.specs.WrittenTree.{none, more, variable, function_name, fun, plain_module, no_attribute, no_definition, definition}
use Rattle.core_grammar.specs.Examples.{at, WrittenAsRead, StandsWhere, DeepAs, ReadsAs, TextExamples}

-- what does not hold
never : false ≡ true → ⊥
never e = absurd cc

pub stands_where : StandsWhere
stands_where = record {
  list_note = ((refl, refl), ((refl, refl), (refl, tt)));
  atom_note = λ h. never h.1;
  map_pattern = (refl, ((refl, refl), refl, (refl, refl), tt));
  loose_pattern = λ h. never h.1.1;
  tuple_key = λ h. never h.1.0.0;
  noted_alias = (refl, ((refl, refl), (refl, tt)), (refl, refl));
  alias_alias = λ h. never h.1.0.0;
  integer_segment = (refl, (((refl, refl), (refl, refl), (refl, refl), refl, (refl, tt)), tt));
  noted_integer = λ h. never h.0.0;
  character_segment = λ h. never h.0;
  widest = (refl, ((refl, (refl, refl), (refl, refl), refl, (refl, tt)), tt));
  too_wide = λ h. never h.0;
  no_float = λ h. never h.0;
  two_caught = refl;
  one_caught = refl;
  four_caught = refl;
  nine_digits = (refl, refl);
  ten_digits = λ h. never h.1;
}

pub deep_as : DeepAs
deep_as = record {
  node_note = refl;
  items = refl;
  tail = refl;
  binders = refl;
  keys = refl;
  whole_clause = refl;
  first_pattern = refl;
  functions = refl;
}

pub reads_as : ReadsAs
unfolding compare put byte_bits
reads_as = record {
  one_constant = refl;
  no_constant = refl;
  string_tail = refl;
  variable_tail = refl;
  equal_keys = refl;
  exact_map = refl;
  constant_binary = refl;
  binary_pattern = refl;
  float_outside = refl;
  float_inside = refl;
}

pub written_as_read : WrittenAsRead
unfolding tokens lexeme_at word_at variable_at symbol_at number_at fraction_len exponent_len integer_of atom_at
written_as_read = record {
  no_value = refl;
  notes = refl;
  maps = refl;
  segments = refl;
  names = refl;
  clauses = refl;
  calls = refl;
  raises = refl;
  receives = refl;
  whole = refl;
}

-- the arity 1 at the byte 37 or 17, which takes one byte
one_digit : {from : ℕ} {place : Place} → IsArityToken 1 (token (Number false (pos 1)) place from (from + 1))
one_digit {from} = record { kind = refl; bytes = omega arith }

pub text_examples : TextExamples
unfolding tokens lexeme_at word_at variable_at symbol_at number_at fraction_len integer_of atom_at string_at
text_examples = record {
  a_string = refl;
  one_variable = record {
    written = plain_module (record { place = at 8; name = codes "m" })
        (more (function_name (at 13) (codes "f") 1) none) no_attribute
        (definition (function_name (at 34) (codes "f") 1)
        (fun (at 42) (more (variable (at 47) (codes "X")) none) (variable (at 53) (codes "X"))) no_definition);
    stands = (((refl, refl), tt), tt, ((refl, refl), (refl, ((refl, refl), tt), (refl, refl)), tt));
    fits = (
      refl,
      refl,
      (
        (refl, refl),
        refl,
        (
          refl,
          refl,
          (
            (refl, refl),
            refl,
            (
              refl,
              refl,
              (
                one_digit,
                refl,
                (
                  refl,
                  refl,
                  (
                    refl,
                    refl,
                    (
                      refl,
                      refl,
                      (
                        refl,
                        refl,
                        (
                          (refl, refl),
                          refl,
                          (
                            refl,
                            refl,
                            (
                              one_digit,
                              refl,
                              (
                                refl,
                                refl,
                                (
                                  (refl, refl),
                                  refl,
                                  (
                                    refl,
                                    refl,
                                    (
                                      (refl, refl),
                                      refl,
                                      (
                                        refl,
                                        refl,
                                        (
                                          refl,
                                          refl,
                                          ((refl, refl), refl, (refl, refl, (refl, refl, tt))),
                                        ),
                                      ),
                                    ),
                                  ),
                                ),
                              ),
                            ),
                          ),
                        ),
                      ),
                    ),
                  ),
                ),
              ),
            ),
          ),
        ),
      ),
    );
    tree = refl;
  };
}
