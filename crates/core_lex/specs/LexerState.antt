-- What a lexer keeps of the tokens that it has found.
use Rattle.std.specs.Prelude.{◌≡◌, List, [], ◌∷◌, false, ⊤, Option, Some, None}
use Rattle.core_lex.specs.declared.token.Token.{Token}
use Rattle.core_lex.specs.declared.token.TokenKind.{TokenKind}
use Rattle.core_lex.specs.Tokens.{is_bad, is_last}

-- a lexeme is no End
abbrev pub IsNotEnd : Option TokenKind → Type 0
IsNotEnd None = ⊤
IsNotEnd (Some kind) = is_last kind ≡ is_bad kind

-- none of the tokens is the last one
abbrev pub AreOpen : List Token → Type 0
AreOpen [] = ⊤
AreOpen (t ∷ ts) = (is_last t.kind ≡ false) × AreOpen ts
