-- What a token is.
use Rattle.std.specs.Prelude.{ℕ, ◌+◌, List, Bool, true, false, ◌&&◌, leb, pos}
use Rattle.core_lex.specs.declared.token.Token.{Token}
use Rattle.core_lex.specs.declared.token.TokenKind.{TokenKind}
use Rattle.core_lex.specs.declared.token.TokenKind.TheVariants.{Word, Symbol, Atom, Number, Bad, End}
use Rattle.core_lex.specs.declared.token.Word as Words
use Rattle.core_lex.specs.declared.token.Word.TheVariants as W
use Rattle.core_lex.specs.declared.token.Symbol as Symbols
use Rattle.core_lex.specs.declared.token.Symbol.TheVariants as S
use Rattle.std.specs.List.{list_all}
use Rattle.core_chars.specs.Characters.{is_capital, is_name_char}
use Rattle.core_form.specs.SourceTree.{is_variable_name, is_arity}

-- whether two symbols are one
abbrev pub same_symbol : Symbols.Symbol → Symbols.Symbol → Bool
same_symbol S.Arrow S.Arrow = true
same_symbol S.AnnotationBar S.AnnotationBar = true
same_symbol S.Association S.Association = true
same_symbol S.ExactAssociation S.ExactAssociation = true
same_symbol S.OpenBinary S.OpenBinary = true
same_symbol S.CloseBinary S.CloseBinary = true
same_symbol S.OpenSegment S.OpenSegment = true
same_symbol S.OpenMap S.OpenMap = true
same_symbol S.CloseMap S.CloseMap = true
same_symbol S.OpenParen S.OpenParen = true
same_symbol S.CloseParen S.CloseParen = true
same_symbol S.OpenBrace S.OpenBrace = true
same_symbol S.CloseBrace S.CloseBrace = true
same_symbol S.OpenBracket S.OpenBracket = true
same_symbol S.CloseBracket S.CloseBracket = true
same_symbol S.OpenAngle S.OpenAngle = true
same_symbol S.CloseAngle S.CloseAngle = true
same_symbol S.Bar S.Bar = true
same_symbol S.Comma S.Comma = true
same_symbol S.Slash S.Slash = true
same_symbol S.Colon S.Colon = true
same_symbol S.Equals S.Equals = true
same_symbol _ _ = false

-- this symbol
abbrev pub is_symbol : Symbols.Symbol → TokenKind → Bool
is_symbol x (Symbol y) = same_symbol x y
is_symbol x _ = false

-- whether two words are one
abbrev pub same_word : Words.Word → Words.Word → Bool
same_word W.After W.After = true
same_word W.Apply W.Apply = true
same_word W.Attributes W.Attributes = true
same_word W.Call W.Call = true
same_word W.Case W.Case = true
same_word W.Catch W.Catch = true
same_word W.Do W.Do = true
same_word W.End W.End = true
same_word W.Fun W.Fun = true
same_word W.In W.In = true
same_word W.Let W.Let = true
same_word W.Letrec W.Letrec = true
same_word W.Module W.Module = true
same_word W.Of W.Of = true
same_word W.Primop W.Primop = true
same_word W.Receive W.Receive = true
same_word W.Try W.Try = true
same_word W.When W.When = true
same_word _ _ = false

-- this word
abbrev pub is_word : Words.Word → TokenKind → Bool
is_word x (Word y) = same_word x y
is_word x _ = false

-- an atom
abbrev pub is_atom : TokenKind → Bool
is_atom (Atom a) = true
is_atom _ = false

-- the end of the text
abbrev pub is_end : TokenKind → Bool
is_end End = true
is_end _ = false

-- an integer from 0 on without a sign, of at most nine bytes
abbrev pub is_arity_kind : (short : Bool) → TokenKind → Bool
is_arity_kind b (Number false (pos n)) = b && is_arity n
is_arity_kind b _ = false

-- a number that may be an arity: unsigned, of at most nine digits
abbrev pub is_arity_token : Token → Bool
is_arity_token t = is_arity_kind (leb t.to (t.from + 9)) t.kind

-- the symbols that may begin something
abbrev pub is_symbol_open : Symbols.Symbol → Bool
is_symbol_open S.OpenParen = true
is_symbol_open S.OpenBracket = true
is_symbol_open S.OpenBrace = true
is_symbol_open S.OpenAngle = true
is_symbol_open S.OpenMap = true
is_symbol_open S.OpenBinary = true
is_symbol_open S.OpenSegment = true
is_symbol_open _ = false

-- the words that may begin something
abbrev pub is_word_open : Words.Word → Bool
is_word_open W.After = false
is_word_open W.Attributes = false
is_word_open W.End = false
is_word_open W.In = false
is_word_open W.Module = false
is_word_open W.Of = false
is_word_open W.When = false
is_word_open _ = true

-- some part begins with it
abbrev pub opens : TokenKind → Bool
opens (Word w) = is_word_open w
opens (Symbol s) = is_symbol_open s
opens Bad = false
opens End = false
opens _ = true

-- what a variable goes on with: a capital letter, and then characters of names
abbrev pub goes_on : (begun : Bool) → ℕ → Bool
goes_on true c = is_name_char c
goes_on false c = is_capital c

-- the characters that are left of a variable
abbrev pub is_name_rest : (begun : Bool) → List ℕ → Bool
is_name_rest true cs = list_all is_name_char cs
is_name_rest false cs = is_variable_name cs
