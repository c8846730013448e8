-- Atoms in a text: which stand without quotes, and how the others are written.
use Rattle.std.specs.Prelude.{ℕ, List, [], ◌∷◌, ◌++◌, Bool, false, not, ◌&&◌, ◌||◌, ◌==◌, nat_le, if◌then◌else◌, codes}
use Rattle.std.specs.List.{list_all, list_any}
use Rattle.std.specs.Fmt.{digits}
use Rattle.erl_base.specs.Names.{Name, same_name}
use Rattle.core_chars.specs.Characters.{is_lower, is_upper, is_digit}

-- words that an atom may not be without quotes
abbrev pub kept_words : List Name
kept_words =
    codes "after" ∷ codes "and" ∷ codes "andalso" ∷ codes "band" ∷ codes "begin" ∷ codes "bnot" ∷ codes "bor"
    ∷ codes "bsl" ∷ codes "bsr" ∷ codes "bxor" ∷ codes "case" ∷ codes "catch" ∷ codes "cond" ∷ codes "div"
    ∷ codes "else" ∷ codes "end" ∷ codes "fun" ∷ codes "if" ∷ codes "let" ∷ codes "maybe" ∷ codes "not" ∷ codes "of"
    ∷ codes "or" ∷ codes "orelse" ∷ codes "receive" ∷ codes "rem" ∷ codes "try" ∷ codes "when" ∷ codes "xor" ∷ []

-- ASCII letters, digits, `_` and `@`
abbrev pub is_name_character : ℕ → Bool
is_name_character c = is_lower c || is_upper c || is_digit c || c == 95 || c == 64

-- a word that the language keeps for itself
abbrev pub is_kept : Name → Bool
is_kept a = list_any (λ w. same_name w a) kept_words

-- an atom that is written without quotes: it begins with a small letter, goes on with name characters, and is no kept
-- word
abbrev pub is_plain_name : Name → Bool
is_plain_name [] = false
is_plain_name (c ∷ cs) = is_lower c && list_all is_name_character cs && not (is_kept (c ∷ cs))

-- a character between quotes: `\\`, `\'`, `\x{H}` in lower-case hexadecimal for control characters, or itself
abbrev pub quoted_character : ℕ → List ℕ
quoted_character c =
    if c == 92 then codes "\\\\" else if c == 39 then codes "\\'"
    else if nat_le c 31 || c == 127 then codes "\\x{" ++ digits 16 false c ++ codes "}" else c ∷ []

-- the characters between the quotes
abbrev pub quoted_characters : Name → List ℕ
quoted_characters [] = []
quoted_characters (c ∷ cs) = quoted_character c ++ quoted_characters cs

-- the text of an atom
abbrev pub atom_text : Name → List ℕ
atom_text a = if is_plain_name a then a else codes "'" ++ quoted_characters a ++ codes "'"
