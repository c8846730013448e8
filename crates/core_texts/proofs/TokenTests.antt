-- Whether a token is this word or that symbol.
use Rattle.std.proofs.Common.{◌≡◌, refl, Bool, true, false}
use Rattle.core_lex.specs.declared.token.TokenKind.{TokenKind}
use Rattle.core_lex.specs.declared.token.TokenKind.TheVariants.{Word, Symbol, End}
use Rattle.core_lex.specs.declared.token.Word as Words
use Rattle.core_lex.specs.declared.token.Word.TheVariants as W
use Rattle.core_lex.specs.declared.token.Symbol as Symbols
use Rattle.core_lex.specs.declared.token.Symbol.TheVariants as S
use Rattle.core_texts.proofs.Truths.{never}

abbrev pub same_symbol : Symbols.Symbol → Symbols.Symbol → Bool
same_symbol S.Arrow S.Arrow = true
same_symbol S.AnnotationBar S.AnnotationBar = true
same_symbol S.Association S.Association = true
same_symbol S.ExactAssociation S.ExactAssociation = true
same_symbol S.OpenBinary S.OpenBinary = true
same_symbol S.CloseBinary S.CloseBinary = true
same_symbol S.OpenSegment S.OpenSegment = true
same_symbol S.OpenMap S.OpenMap = true
same_symbol S.CloseMap S.CloseMap = true
same_symbol S.OpenParen S.OpenParen = true
same_symbol S.CloseParen S.CloseParen = true
same_symbol S.OpenBrace S.OpenBrace = true
same_symbol S.CloseBrace S.CloseBrace = true
same_symbol S.OpenBracket S.OpenBracket = true
same_symbol S.CloseBracket S.CloseBracket = true
same_symbol S.OpenAngle S.OpenAngle = true
same_symbol S.CloseAngle S.CloseAngle = true
same_symbol S.Bar S.Bar = true
same_symbol S.Comma S.Comma = true
same_symbol S.Slash S.Slash = true
same_symbol S.Colon S.Colon = true
same_symbol S.Equals S.Equals = true
same_symbol _ _ = false

same_symbol_is : (x y : Symbols.Symbol) → same_symbol x y ≡ true → Symbol y ≡ Symbol x
same_symbol_is S.Arrow S.Arrow h = refl
same_symbol_is S.AnnotationBar S.AnnotationBar h = refl
same_symbol_is S.Association S.Association h = refl
same_symbol_is S.ExactAssociation S.ExactAssociation h = refl
same_symbol_is S.OpenBinary S.OpenBinary h = refl
same_symbol_is S.CloseBinary S.CloseBinary h = refl
same_symbol_is S.OpenSegment S.OpenSegment h = refl
same_symbol_is S.OpenMap S.OpenMap h = refl
same_symbol_is S.CloseMap S.CloseMap h = refl
same_symbol_is S.OpenParen S.OpenParen h = refl
same_symbol_is S.CloseParen S.CloseParen h = refl
same_symbol_is S.OpenBrace S.OpenBrace h = refl
same_symbol_is S.CloseBrace S.CloseBrace h = refl
same_symbol_is S.OpenBracket S.OpenBracket h = refl
same_symbol_is S.CloseBracket S.CloseBracket h = refl
same_symbol_is S.OpenAngle S.OpenAngle h = refl
same_symbol_is S.CloseAngle S.CloseAngle h = refl
same_symbol_is S.Bar S.Bar h = refl
same_symbol_is S.Comma S.Comma h = refl
same_symbol_is S.Slash S.Slash h = refl
same_symbol_is S.Colon S.Colon h = refl
same_symbol_is S.Equals S.Equals h = refl
same_symbol_is _ _ h = never h

pub same_symbol_self : (x : Symbols.Symbol) → same_symbol x x ≡ true
same_symbol_self S.Arrow = refl
same_symbol_self S.AnnotationBar = refl
same_symbol_self S.Association = refl
same_symbol_self S.ExactAssociation = refl
same_symbol_self S.OpenBinary = refl
same_symbol_self S.CloseBinary = refl
same_symbol_self S.OpenSegment = refl
same_symbol_self S.OpenMap = refl
same_symbol_self S.CloseMap = refl
same_symbol_self S.OpenParen = refl
same_symbol_self S.CloseParen = refl
same_symbol_self S.OpenBrace = refl
same_symbol_self S.CloseBrace = refl
same_symbol_self S.OpenBracket = refl
same_symbol_self S.CloseBracket = refl
same_symbol_self S.OpenAngle = refl
same_symbol_self S.CloseAngle = refl
same_symbol_self S.Bar = refl
same_symbol_self S.Comma = refl
same_symbol_self S.Slash = refl
same_symbol_self S.Colon = refl
same_symbol_self S.Equals = refl

abbrev pub is_symbol : Symbols.Symbol → TokenKind → Bool
is_symbol x (Symbol y) = same_symbol x y
is_symbol x _ = false

pub is_symbol_is : (x : Symbols.Symbol) (k : TokenKind) → is_symbol x k ≡ true → k ≡ Symbol x
is_symbol_is x (Symbol y) h = same_symbol_is x y h
is_symbol_is x _ h = never h

abbrev pub same_word : Words.Word → Words.Word → Bool
same_word W.After W.After = true
same_word W.Apply W.Apply = true
same_word W.Attributes W.Attributes = true
same_word W.Call W.Call = true
same_word W.Case W.Case = true
same_word W.Catch W.Catch = true
same_word W.Do W.Do = true
same_word W.End W.End = true
same_word W.Fun W.Fun = true
same_word W.In W.In = true
same_word W.Let W.Let = true
same_word W.Letrec W.Letrec = true
same_word W.Module W.Module = true
same_word W.Of W.Of = true
same_word W.Primop W.Primop = true
same_word W.Receive W.Receive = true
same_word W.Try W.Try = true
same_word W.When W.When = true
same_word _ _ = false

same_word_is : (x y : Words.Word) → same_word x y ≡ true → Word y ≡ Word x
same_word_is W.After W.After h = refl
same_word_is W.Apply W.Apply h = refl
same_word_is W.Attributes W.Attributes h = refl
same_word_is W.Call W.Call h = refl
same_word_is W.Case W.Case h = refl
same_word_is W.Catch W.Catch h = refl
same_word_is W.Do W.Do h = refl
same_word_is W.End W.End h = refl
same_word_is W.Fun W.Fun h = refl
same_word_is W.In W.In h = refl
same_word_is W.Let W.Let h = refl
same_word_is W.Letrec W.Letrec h = refl
same_word_is W.Module W.Module h = refl
same_word_is W.Of W.Of h = refl
same_word_is W.Primop W.Primop h = refl
same_word_is W.Receive W.Receive h = refl
same_word_is W.Try W.Try h = refl
same_word_is W.When W.When h = refl
same_word_is _ _ h = never h

pub same_word_self : (x : Words.Word) → same_word x x ≡ true
same_word_self W.After = refl
same_word_self W.Apply = refl
same_word_self W.Attributes = refl
same_word_self W.Call = refl
same_word_self W.Case = refl
same_word_self W.Catch = refl
same_word_self W.Do = refl
same_word_self W.End = refl
same_word_self W.Fun = refl
same_word_self W.In = refl
same_word_self W.Let = refl
same_word_self W.Letrec = refl
same_word_self W.Module = refl
same_word_self W.Of = refl
same_word_self W.Primop = refl
same_word_self W.Receive = refl
same_word_self W.Try = refl
same_word_self W.When = refl

abbrev pub is_word : Words.Word → TokenKind → Bool
is_word x (Word y) = same_word x y
is_word x _ = false

pub is_word_is : (x : Words.Word) (k : TokenKind) → is_word x k ≡ true → k ≡ Word x
is_word_is x (Word y) h = same_word_is x y h
is_word_is x _ h = never h

abbrev pub is_end : TokenKind → Bool
is_end End = true
is_end _ = false

pub is_end_is : (k : TokenKind) → is_end k ≡ true → k ≡ End
is_end_is End h = refl
is_end_is _ h = never h
