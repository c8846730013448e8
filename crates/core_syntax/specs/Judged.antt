-- What tokens that are accepted are.
use Rattle.std.specs.Prelude.{List}
use Rattle.core_lex.specs.declared.token.Token.{Token}
use Rattle.core_form.specs.Core.{Module}
use Rattle.core_grammar.specs.Texts.{ModuleText, NestsWithin, most_depth}

-- the text of a module, which nests no deeper than it may
pub record IsText (ts : List Token) : Type 0 where
  pub tree : Module
  pub text : ModuleText ts tree
  pub within : NestsWithin most_depth ts
