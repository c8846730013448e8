-- The answers that tokens can have: a text, its first fault, or the first token that is too deep.
use Rattle.std.specs.Prelude.{◌≡◌, List}
use Rattle.erl_base.specs.declared.ids.Place.{Place}
use Rattle.core_lex.specs.declared.token.Token.{Token}
use Rattle.core_form.specs.Core.{Module}
use Rattle.core_grammar.specs.Texts.{ModuleText, SyntaxFault, FirstSyntaxFault, NestingFault, NestsWithin, most_depth}

-- a text has one tree, places included
abbrev pub OneTree : Type 0
OneTree = (ts : List Token) (m n : Module) → ModuleText ts m → ModuleText ts n → m ≡ n

-- each fault has one place
pub record OnePlace (ts : List Token) : Type 0 where
  pub syntax : (p q : Place) → SyntaxFault ts p → SyntaxFault ts q → p ≡ q
  pub nesting : (p q : Place) → NestingFault ts p → NestingFault ts q → p ≡ q

-- no two answers are those of the same tokens
pub record OneAnswer (ts : List Token) : Type 0 where
  pub text_or_syntax : (m : Module) (p : Place) → ModuleText ts m → SyntaxFault ts p → ⊥
  pub text_or_nesting : (p : Place) → NestsWithin most_depth ts → NestingFault ts p → ⊥
  pub syntax_or_nesting : (p q : Place) → FirstSyntaxFault ts p → NestingFault ts q → ⊥

-- what closed tokens are
pub data TextAnswer (ts : List Token) : Type 0 where
  is_text : (m : Module) → ModuleText ts m → NestsWithin most_depth ts → TextAnswer ts
  has_syntax_fault : (p : Place) → FirstSyntaxFault ts p → TextAnswer ts
  has_nesting_fault : (p : Place) → NestingFault ts p → TextAnswer ts
