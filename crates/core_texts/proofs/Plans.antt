-- Plans: how a part is read, token by token. A plan for a part stands at what of it was read: with this before them,
-- the signs that are left make those of the part.
use Rattle.std.proofs.Common.{◌≡◌, ◌≤◌, ℕ, List, ◌∷◌, Bool, true, false, not}
use Rattle.erl_base.specs.declared.ids.Place.{Place}
use Rattle.core_lex.specs.declared.token.Token.{Token}
use Rattle.core_lex.specs.declared.token.TokenKind.{TokenKind}
use Rattle.core_lex.specs.declared.token.TokenKind.TheVariants.{Word, Symbol, Bad, End}
use Rattle.core_lex.specs.declared.token.Word as Words
use Rattle.core_lex.specs.declared.token.Symbol as Symbols
use Rattle.core_lex.specs.declared.token.Symbol.TheVariants as S
use Rattle.core_form.specs.SourceTree.{is_arity}
use Rattle.core_grammar.specs.Signs.{Sight, of_kind, at_place, an_arity, Sign, plain_sign, Fits}
use Rattle.core_texts.proofs.Parts.{Part, Value, signs_of, Right, least}

-- a symbol, which is clear where it is not marked
abbrev pub symbol_sign : (clear : Bool) → ℕ → Symbols.Symbol → Sign
symbol_sign c d s = record { sight = of_kind (Symbol s); depth = d; marked = not c }

-- a bracket whose depth what it holds tells
pub record Bracket (v : Part) : Type 0 where
  pub deep : Value v → ℕ
  pub sight : Place → Value v → Sight
  pub fits : (t : Token) (b : Value v) → t.kind ≡ Symbol S.OpenParen → Fits (sight t.place b) t
  pub seen : (p : Place) (t : Token) (b : Value v) → Fits (sight p b) t → t.kind ≡ Symbol S.OpenParen
  pub least_deep : (b : Value v) → deep (least v) ≤ deep b

-- what a token that is looked at may be
pub record Looked : Type 0 where
  pub takes : TokenKind → Bool
  pub depth : Place → TokenKind → ℕ
  pub no_bad : takes Bad ≡ false
  pub no_end : takes End ≡ false
  pub place : Place
  pub kind : TokenKind
  pub one : takes kind ≡ true

pub data Plan (w : Part) : (List Sign → List Sign) → Type 0 where
  -- all is read
  done : {k : List Sign → List Sign} (a : Value w) → Right w a → ((r : List Sign) → signs_of w a r ≡ k r) → Plan w k
  symbol_next : {k : List Sign → List Sign} (clear : Bool) (d : ℕ) (s : Symbols.Symbol)
      → Plan w (λ r. k (symbol_sign clear d s ∷ r)) → Plan w k
  word_next : {k : List Sign → List Sign} (d : ℕ) (x : Words.Word)
      → Plan w (λ r. k (plain_sign d (of_kind (Word x)) ∷ r)) → Plan w k
  arity_next : {k : List Sign → List Sign} (d : ℕ)
      → ((n : ℕ) → is_arity n ≡ true → Plan w (λ r. k (plain_sign d (an_arity n) ∷ r))) → Plan w k
  look : {k : List Sign → List Sign} (l : Looked)
      → ((p : Place) (x : TokenKind) → l.takes x ≡ true
      → Plan w (λ r. k (plain_sign (l.depth p x) (at_place p x) ∷ r))) → Plan w k
  -- a part
  call : {k : List Sign → List Sign} (v : Part)
      → ((b : Value v) → Right v b → Plan w (λ r. k (signs_of v b r))) → Plan w k
  -- a bracket and a part
  bracket : {k : List Sign → List Sign} (v : Part) (s : Bracket v)
      → ((p : Place) (b : Value v) → Right v b
      → Plan w (λ r. k (plain_sign (s.deep b) (s.sight p b) ∷ signs_of v b r))) → Plan w k
  -- one of two, by the next token
  if_next : {k : List Sign → List Sign} (c : TokenKind → Bool) → Plan w k → Plan w k → Plan w k
