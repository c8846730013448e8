-- The tokens of a text, given as its characters (Core Erlang 1.0.3, lexical definitions; the word list, symbols of maps
-- and characters as OTP 25 prints them). The longest token is taken.
use Rattle.std.specs.Prelude.{◌≡◌, ℕ, zero, suc, ◌+◌, ◌-◌, ◌^◌, ◌==◌, Bool, true, false, ◌&&◌, List, [], ◌∷◌, length, take, drop, nat_le, pos, neg_ℤ, bytes_eq, codes, if◌then◌else◌, Option, Some, None, take_while}
use Rattle.std.specs.Char.{len_utf8}
use Rattle.erl_base.specs.Ascii.{percent, single_quote, double_quote, dollar, minus, point}
use Rattle.erl_base.specs.declared.ids.Place.{Place}
use Rattle.core_lex.specs.declared.token.Token.{Token}
use Rattle.core_lex.specs.declared.token.TokenKind.{TokenKind}
use Rattle.core_lex.specs.declared.token.TokenKind.TheVariants.{Word, Symbol, Variable, Atom, Number, Wide, Float, Character, Letters, Bad, End}
use Rattle.core_lex.specs.declared.token.Lexeme.{Lexeme}
use Rattle.core_lex.specs.declared.token.Word as Words
use Rattle.core_lex.specs.declared.token.Word.TheVariants as W
use Rattle.core_lex.specs.declared.token.Symbol as Symbols
use Rattle.core_lex.specs.declared.token.Symbol.TheVariants as S
use Rattle.core_chars.specs.Characters.{is_blank, is_lower, is_digit, is_capital, is_name_char, is_sign, is_exponent_mark, is_in_line, first_is, value_from}
use Rattle.core_chars.specs.Escapes.{quoted_char}
use Rattle.core_chars.specs.Quoted.{quoted_text}
use Rattle.utf8_text.specs.Places.{start, past, byte_len}

-- A lexeme has the kind of the token, or None for a blank or a comment, and how many characters write it.
abbrev pub lexeme : Option TokenKind → (size : ℕ) → Lexeme
lexeme kind size = record { kind = kind; size = size }

-- a token of this kind
abbrev pub of_kind : TokenKind → (size : ℕ) → Lexeme
of_kind kind size = lexeme (Some kind) size

-- a bad token is one character
abbrev pub bad : Lexeme
bad = of_kind Bad 1

-- ---- words, variables, symbols

-- each word by its spelling
abbrev pub words : List (List ℕ × Words.Word)
words =
    (codes "after", W.After) ∷ (codes "apply", W.Apply) ∷ (codes "attributes", W.Attributes) ∷ (codes "call", W.Call)
    ∷ (codes "case", W.Case) ∷ (codes "catch", W.Catch) ∷ (codes "do", W.Do) ∷ (codes "end", W.End)
    ∷ (codes "fun", W.Fun) ∷ (codes "in", W.In) ∷ (codes "let", W.Let) ∷ (codes "letrec", W.Letrec)
    ∷ (codes "module", W.Module) ∷ (codes "of", W.Of) ∷ (codes "primop", W.Primop) ∷ (codes "receive", W.Receive)
    ∷ (codes "try", W.Try) ∷ (codes "when", W.When) ∷ []

-- the symbols of two characters
abbrev pub long_symbols : List (List ℕ × Symbols.Symbol)
long_symbols =
    (codes "->", S.Arrow) ∷ (codes "-|", S.AnnotationBar) ∷ (codes "=>", S.Association)
    ∷ (codes ":=", S.ExactAssociation) ∷ (codes "#{", S.OpenBinary) ∷ (codes "}#", S.CloseBinary)
    ∷ (codes "#<", S.OpenSegment) ∷ (codes "~{", S.OpenMap) ∷ (codes "}~", S.CloseMap) ∷ []

-- the symbols of one character
abbrev pub short_symbols : List (List ℕ × Symbols.Symbol)
short_symbols =
    (codes "(", S.OpenParen) ∷ (codes ")", S.CloseParen) ∷ (codes "{", S.OpenBrace) ∷ (codes "}", S.CloseBrace)
    ∷ (codes "[", S.OpenBracket) ∷ (codes "]", S.CloseBracket) ∷ (codes "<", S.OpenAngle) ∷ (codes ">", S.CloseAngle)
    ∷ (codes "|", S.Bar) ∷ (codes ",", S.Comma) ∷ (codes "/", S.Slash) ∷ (codes ":", S.Colon)
    ∷ (codes "=", S.Equals) ∷ []

-- what a table lists the text as
abbrev pub listed_as : {A : Type 0} → List (List ℕ × A) → List ℕ → Option A
listed_as [] text = None
listed_as (row ∷ rows) text = if bytes_eq text row.0 then Some row.1 else listed_as rows text

-- the first character and all name characters after it
abbrev pub name_len : List ℕ → ℕ
name_len cs = 1 + length (take_while is_name_char (drop 1 cs))

-- a word begins with a lower-case letter; one that is not listed is a bad token
unfoldable pub word_at : List ℕ → Lexeme
word_at cs = elim (listed_as words (take (name_len cs) cs)) [
  | None ↦ bad
  | Some word ↦ of_kind (Word word) (name_len cs)
]

-- a variable is all its name characters
unfoldable pub variable_at : List ℕ → Lexeme
variable_at cs = of_kind (Variable (take (name_len cs) cs)) (name_len cs)

-- a symbol of so many characters, or what stands where there is none
abbrev pub symbol_of : Option Symbols.Symbol → (size : ℕ) → Lexeme → Lexeme
symbol_of None size otherwise = otherwise
symbol_of (Some symbol) size otherwise = of_kind (Symbol symbol) size

-- the longest symbol: no symbol has more than two characters
unfoldable pub symbol_at : List ℕ → Lexeme
symbol_at cs = symbol_of (listed_as long_symbols (take 2 cs)) 2 (symbol_of (listed_as short_symbols (take 1 cs)) 1 bad)

-- ---- numbers

-- a sign or none
abbrev pub sign_len : List ℕ → ℕ
sign_len cs = if first_is is_sign cs then 1 else 0

-- an optional sign and a digit
abbrev pub begins_number : List ℕ → Bool
begins_number cs = first_is is_digit (drop (sign_len cs) cs)

-- `e` or `E`, an optional sign and digits; 0 where they do not stand there
unfoldable pub exponent_len : List ℕ → ℕ
exponent_len cs =
    let signs = sign_len (drop 1 cs) in let digits = length (take_while is_digit (drop (1 + signs) cs)) in
    if first_is is_exponent_mark cs && nat_le 1 digits then 1 + signs + digits else 0

-- what makes a float of an integer: a point and digits, and then an exponent or none; 0 where they do not stand there
unfoldable pub fraction_len : List ℕ → ℕ
fraction_len cs =
    let digits = length (take_while is_digit (drop 1 cs)) in
    if first_is (λ c. c == point) cs && nat_le 1 digits then 1 + digits + exponent_len (drop (1 + digits) cs) else 0

-- an integer within 128 signed bits with its value and whether a sign was written, a wider one with the number of its
-- digits
unfoldable pub integer_of : (negative signed : Bool) (digits : List ℕ) → TokenKind
integer_of negative signed digits =
    let n = value_from 10 0 digits in
    if negative then (if nat_le n (2 ^ 127) then Number signed (neg_ℤ (pos n)) else Wide (length digits))
    else (if nat_le n (2 ^ 127 - 1) then Number signed (pos n) else Wide (length digits))

-- an optional sign directly before digits, and a fraction or none
unfoldable pub number_at : List ℕ → Lexeme
number_at cs =
    let signs = sign_len cs in let digits = take_while is_digit (drop signs cs) in
    let whole = signs + length digits in let fraction = fraction_len (drop whole cs) in
    if fraction == 0 then of_kind (integer_of (first_is (λ c. c == minus) cs) (signs == 1) digits) whole
    else of_kind Float (whole + fraction)

-- ---- quoted texts and characters

-- behind its first quote a token with the text that was read
abbrev pub quoted_lexeme : (List ℕ → TokenKind) → Option (List ℕ × ℕ) → Lexeme
quoted_lexeme kind None = bad
quoted_lexeme kind (Some text) = of_kind (kind text.0) (1 + text.1)

-- an atom, a string, and behind `$` a character
unfoldable pub atom_at : List ℕ → Lexeme
atom_at cs = quoted_lexeme Atom (quoted_text single_quote (drop 1 cs) 0)

-- a string between double quotes
unfoldable pub string_at : List ℕ → Lexeme
string_at cs = quoted_lexeme Letters (quoted_text double_quote (drop 1 cs) 0)

-- behind `$` a character token with the character that was read
abbrev pub character_lexeme : Option (ℕ × ℕ) → Lexeme
character_lexeme None = bad
character_lexeme (Some c) = of_kind (Character c.0) (1 + c.1)

-- a character behind `$`
unfoldable pub character_at : List ℕ → Lexeme
character_at cs = character_lexeme (quoted_char (drop 1 cs))

-- ---- the whole text

-- `%` and what follows it in its line
unfoldable pub comment_at : List ℕ → Lexeme
comment_at cs = lexeme None (1 + length (take_while is_in_line (drop 1 cs)))

-- the first lexeme
unfoldable pub lexeme_at : List ℕ → Lexeme
lexeme_at [] = bad
lexeme_at (c ∷ cs) =
    if is_blank c then lexeme None 1
    else if c == percent then comment_at (c ∷ cs)
    else if is_lower c then word_at (c ∷ cs)
    else if is_capital c then variable_at (c ∷ cs)
    else if begins_number (c ∷ cs) then number_at (c ∷ cs)
    else if c == single_quote then atom_at (c ∷ cs)
    else if c == double_quote then string_at (c ∷ cs)
    else if c == dollar then character_at (c ∷ cs)
    else symbol_at (c ∷ cs)

-- a token by its parts
abbrev pub token : TokenKind → Place → (from to : ℕ) → Token
token kind place from to = record { kind = kind; place = place; from = from; to = to }

-- a bad token
abbrev pub is_bad : TokenKind → Bool
is_bad Bad = true
is_bad _ = false

-- End or a bad token
abbrev pub is_last : TokenKind → Bool
is_last Bad = true
is_last End = true
is_last _ = false

-- nothing follows a bad token
abbrev pub unless_bad : TokenKind → List Token → List Token
unless_bad kind later = if is_bad kind then [] else later

-- the token of a lexeme, if it has one, and then what follows
abbrev pub before : Option TokenKind → Place → (from to : ℕ) → List Token → List Token
before None place from to later = later
before (Some kind) place from to later = token kind place from to ∷ unless_bad kind later

-- The tokens from a place and a byte on, up to End or the first bad one. The first `skip` characters belong to a lexeme
-- that was read. A token has the place of its first character and its range of bytes; the range of a bad one is its
-- first character.
abbrev pub tokens_from : List ℕ → (skip : ℕ) → Place → (byte : ℕ) → List Token
tokens_from [] skip place byte = token End place byte byte ∷ []
tokens_from (c ∷ cs) (suc skip) place byte = tokens_from cs skip (past c place) (byte + len_utf8 c)
tokens_from (c ∷ cs) zero place byte =
    let here = lexeme_at (c ∷ cs) in
    before here.kind place byte (byte + byte_len (take here.size (c ∷ cs)))
    (tokens_from cs (here.size - 1) (past c place) (byte + len_utf8 c))

-- the tokens of a text
unfoldable pub tokens : List ℕ → List Token
tokens cs = tokens_from cs 0 start 0

-- the last token, and no other, is End or a bad one
abbrev pub IsClosed : List Token → Type 0
IsClosed [] = ⊥
IsClosed (t ∷ []) = is_last t.kind ≡ true
IsClosed (t ∷ u ∷ ts) = (is_last t.kind ≡ false) × IsClosed (u ∷ ts)
