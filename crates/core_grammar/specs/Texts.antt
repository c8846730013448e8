-- Which tokens are the text of a module, and where those that are none have their first fault.
use Rattle.std.specs.Prelude.{◌≡◌, ◌<◌, ℕ, List, [], ◌∷◌, ◌++◌}
use Rattle.erl_base.specs.declared.ids.Place.{Place}
use Rattle.erl_base.specs.declared.refusal.Fault.{Fault}
use Rattle.erl_base.specs.declared.refusal.Fault.TheVariants.{Refused, NoMemory}
use Rattle.erl_base.specs.declared.refusal.Kind.{Kind}
use Rattle.erl_base.specs.declared.refusal.Kind.TheVariants.{Syntax, Limit}
use Rattle.erl_base.specs.declared.refusal.LimitName.TheVariants.{Nesting}
use Rattle.core_lex.specs.declared.token.Token.{Token}
use Rattle.core_form.specs.Core.{Module}
use Rattle.core_grammar.specs.WrittenTree.{Written}
use Rattle.core_grammar.specs.Standing.{IsModule}
use Rattle.core_grammar.specs.Signs.{Sign, signs, FitFront, FitWhole}
use Rattle.core_grammar.specs.ModuleOf.{module_of}

-- the tokens are those of a written module without marks, which stands for m
pub record ModuleText (ts : List Token) (m : Module) : Type 0 where
  pub written : Written
  pub stands : IsModule written
  pub fits : FitWhole (signs written) ts
  pub tree : module_of written ≡ m

-- the tokens of a written module begin with these, and no mark is among them
pub record BeginsModule (ts : List Token) : Type 0 where
  pub written : Written
  pub stands : IsModule written
  pub fits : FitFront (signs written) ts

-- where a token stands among others
pub record IsCutAt (ts before : List Token) (token : Token) : Type 0 where
  pub later : List Token
  pub cut : ts ≡ before ++ token ∷ later

-- the first token with which the tokens so far begin no text
pub record FirstFault (ts before : List Token) (token : Token) : Type 0 where
  pub cut : IsCutAt ts before token
  pub begins : BeginsModule before
  pub ends : BeginsModule (before ++ token ∷ []) → ⊥

-- its place
pub record SyntaxFault (ts : List Token) (p : Place) : Type 0 where
  pub before : List Token
  pub token : Token
  pub first : FirstFault ts before token
  pub place : token.place ≡ p

-- how deep a text may nest
abbrev pub most_depth : ℕ
most_depth = 2000

-- the depth of the sign that the last token fits
abbrev pub last_depth : List Sign → List Token → ℕ
last_depth (g ∷ gs) (t ∷ []) = g.depth
last_depth (g ∷ gs) (t ∷ u ∷ us) = last_depth gs (u ∷ us)
last_depth _ _ = 0

-- the last of the tokens is deeper in every text that begins with them, and there is one
pub record IsDeeper (most : ℕ) (ts : List Token) : Type 0 where
  pub begins : BeginsModule ts
  pub deeper : (w : Written) → IsModule w → FitFront (signs w) ts → most < last_depth (signs w) ts

-- no token is deeper
abbrev pub NestsWithin : ℕ → List Token → Type 0
NestsWithin most ts = (before later : List Token) → ts ≡ before ++ later → IsDeeper most before → ⊥

-- the place of the first token that is deeper than a text may nest
pub record NestingFault (ts : List Token) (p : Place) : Type 0 where
  pub before : List Token
  pub token : Token
  pub cut : IsCutAt ts before token
  pub within : NestsWithin most_depth before
  pub deep : IsDeeper most_depth (before ++ token ∷ [])
  pub place : token.place ≡ p

-- a syntax fault with no deeper token before it
pub record FirstSyntaxFault (ts : List Token) (p : Place) : Type 0 where
  pub fault : SyntaxFault ts p
  pub within : NestsWithin most_depth fault.before

-- the only count that nesting is refused with: the depth of the first token that is too deep
abbrev pub first_too_deep : ℕ
first_too_deep = 2001

-- what a parser may answer of these tokens
abbrev pub IsKindAt : List Token → Kind → Place → Type 0
IsKindAt ts Syntax p = FirstSyntaxFault ts p
IsKindAt ts (Limit Nesting n) p = (n ≡ first_too_deep) × NestingFault ts p
IsKindAt ts _ p = ⊥

-- a fault of the tokens, or want of memory
abbrev pub IsParseFault : List Token → Fault → Type 0
IsParseFault ts (Refused refusal) = IsKindAt ts refusal.kind refusal.place
IsParseFault ts NoMemory = Unit {0}
