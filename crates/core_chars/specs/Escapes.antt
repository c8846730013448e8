-- Escapes in atoms, strings and character literals (Core Erlang 1.0.3, lexical definitions; `\x` as OTP 25 writes it).
use Rattle.std.specs.Prelude.{ℕ, ◌+◌, ◌-◌, ◌==◌, ◌&&◌, List, [], ◌∷◌, length, take, drop, nat_le, if◌then◌else◌, Option, Some, None, option_map, take_while}
use Rattle.std.specs.Int.{is_in_range}
use lib.Utf8.{scalar}
use Rattle.core_chars.specs.Characters.{first_is, value_from, is_octal, is_hex}

-- Each gives the character that is meant and how many characters write it, the backslash counted; None where no escape
-- stands.

-- \b \d \e \f \n \r \s \t \v \" \' \\
abbrev pub letter_escape : ℕ → Option ℕ
letter_escape c =
    if c == 98 then Some 8 else if c == 100 then Some 127 else if c == 101 then Some 27 else if c == 102 then Some 12
    else if c == 110 then Some 10 else if c == 114 then Some 13 else if c == 115 then Some 32
    else if c == 116 then Some 9 else if c == 118 then Some 11 else if c == 34 then Some 34
    else if c == 39 then Some 39 else if c == 92 then Some 92 else None

-- a code that is written in digits; one that is no Unicode scalar value is no escape
abbrev pub code_escape : (code size : ℕ) → Option (ℕ × ℕ)
code_escape code size = if scalar code then Some (code, size) else None

-- one to three octal digits
abbrev pub octal_escape : List ℕ → Option (ℕ × ℕ)
octal_escape cs =
    let digits = take_while is_octal (take 3 cs) in code_escape (value_from 8 0 digits) (1 + length digits)

-- behind `\x`: two hexadecimal digits
abbrev pub short_hex_escape : List ℕ → Option (ℕ × ℕ)
short_hex_escape cs = let digits = take_while is_hex (take 2 cs) in
    if length digits == 2 then code_escape (value_from 16 0 digits) 4 else None

-- behind `\x{`: one or more hexadecimal digits and `}`
abbrev pub long_hex_escape : List ℕ → Option (ℕ × ℕ)
long_hex_escape cs = let digits = take_while is_hex cs in
    if nat_le 1 (length digits) && first_is (λ c. c == 125) (drop (length digits) cs)
    then code_escape (value_from 16 0 digits) (4 + length digits) else None

-- behind `\x`: digits between braces, or two digits
abbrev pub hex_escape : List ℕ → Option (ℕ × ℕ)
hex_escape cs = if first_is (λ c. c == 123) cs then long_hex_escape (drop 1 cs) else short_hex_escape cs

-- behind `\^`: a character from @ to _, which means that code less 64
abbrev pub control_escape : List ℕ → Option (ℕ × ℕ)
control_escape [] = None
control_escape (c ∷ cs) = if is_in_range 64 95 c then Some (c - 64, 3) else None

-- what stands behind the backslash
abbrev pub escape_at : List ℕ → Option (ℕ × ℕ)
escape_at [] = None
escape_at (c ∷ cs) =
    if is_octal c then octal_escape (c ∷ cs)
    else if c == 120 then hex_escape cs
    else if c == 94 then control_escape cs
    else option_map (λ n. (n, 2)) (letter_escape c)

-- one character of a quoted text: an escape, or the character itself
abbrev pub quoted_char : List ℕ → Option (ℕ × ℕ)
quoted_char [] = None
quoted_char (c ∷ cs) = if c == 92 then escape_at cs else Some (c, 1)
