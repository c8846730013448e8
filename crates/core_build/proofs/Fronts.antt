-- What may stand behind parts.
use Rattle.std.proofs.Common.{◌≡◌, refl, List, [], ◌∷◌, Bool, true, false}
use Rattle.erl_base.specs.declared.ids.Place.{Place}
use Rattle.core_lex.specs.declared.token.TokenKind.{TokenKind}
use Rattle.core_lex.specs.declared.token.TokenKind.TheVariants.{Word, Symbol, Bad, End}
use Rattle.core_lex.specs.declared.token.Word as Words
use Rattle.core_lex.specs.declared.token.Word.TheVariants as W
use Rattle.core_lex.specs.declared.token.Symbol as Symbols
use Rattle.core_lex.specs.declared.token.Symbol.TheVariants as S
use Rattle.core_grammar.specs.Signs.{Sign}
use Rattle.core_build.specs.declared.item.Row.{Row}
use Rattle.core_build.specs.Steps.{closes, is_passed}
use Rattle.core_build.specs.declared.item.Item.TheVariants as I
use Rattle.core_build.proofs.Outside.{front}

pub never : {A : Type 0} → false ≡ true → A
never e = absurd cc

abbrev pub is_symbol_open : Symbols.Symbol → Bool
is_symbol_open S.OpenParen = true
is_symbol_open S.OpenBracket = true
is_symbol_open S.OpenBrace = true
is_symbol_open S.OpenAngle = true
is_symbol_open S.OpenMap = true
is_symbol_open S.OpenBinary = true
is_symbol_open S.OpenSegment = true
is_symbol_open _ = false

abbrev pub is_word_open : Words.Word → Bool
is_word_open W.After = false
is_word_open W.Attributes = false
is_word_open W.End = false
is_word_open W.In = false
is_word_open W.Module = false
is_word_open W.Of = false
is_word_open W.When = false
is_word_open _ = true

-- something begins
abbrev pub opens : TokenKind → Bool
opens (Word w) = is_word_open w
opens (Symbol s) = is_symbol_open s
opens Bad = false
opens End = false
opens _ = true

-- whatever it is
abbrev pub any_kind : TokenKind → Bool
any_kind k = true

abbrev pub no_comma : TokenKind → Bool
no_comma (Symbol S.Comma) = false
no_comma _ = true

-- a pattern may be followed by it
abbrev pub no_equals : TokenKind → Bool
no_equals (Symbol S.Equals) = false
no_equals _ = true

-- an expression may be followed by it, and a clause
abbrev pub quiet : TokenKind → Bool
quiet (Symbol S.Slash) = false
quiet (Symbol S.Equals) = false
quiet (Word W.When) = false
quiet _ = true

pub open_quiet : (k : TokenKind) → opens k ≡ true → quiet k ≡ true
open_quiet (Symbol S.Slash) h = never h
open_quiet (Symbol S.Equals) h = never h
open_quiet (Word W.When) h = never h
open_quiet _ h = refl

pub open_stays : (k : TokenKind) → opens k ≡ true → closes k ≡ false
open_stays (Symbol S.CloseBinary) h = never h
open_stays (Symbol S.CloseMap) h = never h
open_stays (Symbol S.CloseParen) h = never h
open_stays (Symbol S.CloseBrace) h = never h
open_stays (Symbol S.CloseBracket) h = never h
open_stays (Symbol S.CloseAngle) h = never h
open_stays (Symbol S.Bar) h = never h
open_stays (Word W.After) h = never h
open_stays (Word W.End) h = never h
open_stays (Word W.In) h = never h
open_stays _ h = refl

pub closing_quiet : (k : TokenKind) → closes k ≡ true → quiet k ≡ true
closing_quiet (Symbol S.Slash) h = never h
closing_quiet (Symbol S.Equals) h = never h
closing_quiet (Word W.When) h = never h
closing_quiet _ h = refl

pub closing_no_comma : (k : TokenKind) → closes k ≡ true → no_comma k ≡ true
closing_no_comma (Symbol S.Comma) h = never h
closing_no_comma _ h = refl

pub quiet_no_equals : (k : TokenKind) → quiet k ≡ true → no_equals k ≡ true
quiet_no_equals (Symbol S.Equals) h = never h
quiet_no_equals _ h = refl

pub quiet_no_slash : (k : TokenKind) → quiet k ≡ true → is_passed I.NameRest k ≡ true
quiet_no_slash (Symbol S.Slash) h = never h
quiet_no_slash _ h = refl

pub no_comma_passed : (r : Row) (k : TokenKind) → no_comma k ≡ true → is_passed (I.More r) k ≡ true
no_comma_passed r (Symbol S.Comma) h = never h
no_comma_passed r _ h = refl

pub no_alias : (k : TokenKind) → no_equals k ≡ true → is_passed I.AliasRest k ≡ true
no_alias (Symbol S.Equals) h = never h
no_alias _ h = refl

pub quiet_no_alias : (k : TokenKind) → quiet k ≡ true → is_passed I.AliasRest k ≡ true
quiet_no_alias k h = no_alias k (quiet_no_equals k h)

pub quiet_no_guard : (p : Place) (k : TokenKind) → quiet k ≡ true → is_passed (I.When p) k ≡ true
quiet_no_guard p (Word W.When) h = never h
quiet_no_guard p _ h = refl

-- of the first sign
pub front_so : (f g : TokenKind → Bool) → ((k : TokenKind) → f k ≡ true → g k ≡ true) → (gs : List Sign)
    → front f gs ≡ true → front g gs ≡ true
front_so f g h [] e = never e
front_so f g h (x ∷ xs) e = h _ e
