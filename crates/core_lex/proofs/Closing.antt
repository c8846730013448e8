-- Lists of tokens that are not the last one.
use Rattle.std.proofs.Common.{◌≡◌, List, [], ◌∷◌, ◌++◌, true, false}
use Rattle.core_lex.specs.declared.token.Token.{Token}
use Rattle.core_lex.specs.Tokens.{is_last, IsClosed}
use Rattle.core_lex.specs.LexerState.{AreOpen}

pub open_more : (ts : List Token) (t : Token) → AreOpen ts → is_last t.kind ≡ false → AreOpen (ts ++ t ∷ [])
open_more [] t h e = (e, tt)
open_more (u ∷ ts) t h e = (h.0, open_more ts t h.1 e)

pub closed_by : (ts : List Token) (t : Token) → AreOpen ts → is_last t.kind ≡ true → IsClosed (ts ++ t ∷ [])
closed_by [] t h e = e
closed_by (u ∷ []) t h e = (h.0, e)
closed_by (u ∷ v ∷ ts) t h e = (h.0, closed_by (v ∷ ts) t h.1 e)
