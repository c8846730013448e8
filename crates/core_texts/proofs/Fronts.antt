-- What the next token or sign is.
use Rattle.std.proofs.Common.{◌≡◌, List, [], ◌∷◌, Bool, true, false, pos}
use Rattle.core_lex.specs.declared.token.Token.{Token}
use Rattle.core_lex.specs.declared.token.TokenKind.{TokenKind}
use Rattle.core_lex.specs.declared.token.TokenKind.TheVariants.{Word, Symbol, Number, Bad, End}
use Rattle.core_lex.specs.declared.token.Word as Words
use Rattle.core_lex.specs.declared.token.Word.TheVariants as W
use Rattle.core_lex.specs.declared.token.Symbol as Symbols
use Rattle.core_lex.specs.declared.token.Symbol.TheVariants as S
use Rattle.core_grammar.specs.Signs.{Sight, of_kind, at_place, an_arity, Sign, Fits}

abbrev pub is_symbol_open : Symbols.Symbol → Bool
is_symbol_open S.OpenParen = true
is_symbol_open S.OpenBracket = true
is_symbol_open S.OpenBrace = true
is_symbol_open S.OpenAngle = true
is_symbol_open S.OpenMap = true
is_symbol_open S.OpenBinary = true
is_symbol_open S.OpenSegment = true
is_symbol_open _ = false

abbrev pub is_word_open : Words.Word → Bool
is_word_open W.After = false
is_word_open W.Attributes = false
is_word_open W.End = false
is_word_open W.In = false
is_word_open W.Module = false
is_word_open W.Of = false
is_word_open W.When = false
is_word_open _ = true

-- something begins
abbrev pub opens : TokenKind → Bool
opens (Word w) = is_word_open w
opens (Symbol s) = is_symbol_open s
opens Bad = false
opens End = false
opens _ = true

abbrev pub is_comma : TokenKind → Bool
is_comma (Symbol S.Comma) = true
is_comma _ = false

abbrev pub is_slash : TokenKind → Bool
is_slash (Symbol S.Slash) = true
is_slash _ = false

abbrev pub is_bar : TokenKind → Bool
is_bar (Symbol S.Bar) = true
is_bar _ = false

abbrev pub is_angle : TokenKind → Bool
is_angle (Symbol S.OpenAngle) = true
is_angle _ = false

abbrev pub is_paren : TokenKind → Bool
is_paren (Symbol S.OpenParen) = true
is_paren _ = false

abbrev pub is_when : TokenKind → Bool
is_when (Word W.When) = true
is_when _ = false

-- a variable of a pattern goes on
abbrev pub equals_in : (in_pattern : Bool) → TokenKind → Bool
equals_in m (Symbol S.Equals) = m
equals_in m _ = false

-- the kind of the tokens that fit
abbrev pub kind_seen : Sight → TokenKind
kind_seen (of_kind k) = k
kind_seen (at_place p k) = k
kind_seen (an_arity n) = Number false (pos n)

-- whether there is a first sign, of such a kind
abbrev pub front : (TokenKind → Bool) → List Sign → Bool
front f [] = false
front f (g ∷ gs) = f (kind_seen g.sight)

pub kind_fits : (w : Sight) (t : Token) → Fits w t → t.kind ≡ kind_seen w
kind_fits (of_kind k) t h = h
kind_fits (at_place p k) t h = h.0
kind_fits (an_arity n) t h = h.kind
