-- What the definition of the tokens amounts to, in the words of the subject.
use Rattle.std.specs.Prelude.{◌≡◌, ℕ, ◌+◌, ◌^◌, ◌<◌, ◌≤◌, ℤ, pos, false, Option, None, Some, List, length, take}
use Rattle.core_lex.specs.declared.token.Token.{Token}
use Rattle.core_lex.specs.declared.token.TokenKind.TheVariants.{Number}
use Rattle.core_lex.specs.declared.token.Lexeme.{Lexeme}
use Rattle.core_lex.specs.declared.token.Symbol as Symbols
use Rattle.core_lex.specs.Tokens.{listed_as, long_symbols, short_symbols}

-- a lexeme of n characters has at least one, and no more than there are
pub record IsWithin (n : ℕ) (lexeme : Lexeme) : Type 0 where
  pub positive : 0 < lexeme.size
  pub fits : lexeme.size ≤ n

-- the symbol with this spelling
abbrev pub symbol_spelled : List ℕ → Option Symbols.Symbol
symbol_spelled s = elim (listed_as long_symbols s) [ None ↦ listed_as short_symbols s | Some symbol ↦ Some symbol ]

-- a symbol stands at the front of the characters
pub record Begins (cs s : List ℕ) (symbol : Symbols.Symbol) : Type 0 where
  pub listed : symbol_spelled s ≡ Some symbol
  pub stands : take (length s) cs ≡ s

-- and no longer one does
pub record IsLongestSymbol (cs s : List ℕ) (symbol : Symbols.Symbol) : Type 0 where
  pub begins : Begins cs s symbol
  pub longest : (t : List ℕ) (other : Symbols.Symbol) → Begins cs t other → length t ≤ length s

-- an integer without a sign that takes at most nine bytes has at most nine digits
abbrev pub IsSmallIfShort : Token → Type 0
IsSmallIfShort t = (z : ℤ) → t.kind ≡ Number false z → t.to ≤ t.from + 9 → (n : ℕ) × (z ≡ pos n) × (n < 10 ^ 9)
