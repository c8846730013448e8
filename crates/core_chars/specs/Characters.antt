-- The characters that words, variables, numbers and escapes are written with (Core Erlang 1.0.3, lexical definitions).
use Rattle.std.specs.Prelude.{ℕ, ◌+◌, ◌*◌, ◌==◌, Bool, false, ◌&&◌, ◌||◌, not, List, [], ◌∷◌}
use Rattle.std.specs.Int.{is_in_range}
use Rattle.std.specs.Char.{digit_value}

-- space, tab, LF, form feed, CR
abbrev pub is_blank : ℕ → Bool
is_blank c = c == 32 || c == 9 || c == 10 || c == 12 || c == 13

-- a to z
abbrev pub is_lower : ℕ → Bool
is_lower c = is_in_range 97 122 c

-- A to Z
abbrev pub is_upper : ℕ → Bool
is_upper c = is_in_range 65 90 c

-- 0 to 9
abbrev pub is_digit : ℕ → Bool
is_digit c = is_in_range 48 57 c

-- 0 to 7
abbrev pub is_octal : ℕ → Bool
is_octal c = is_in_range 48 55 c

-- 0 to 9, A to F and a to f
abbrev pub is_hex : ℕ → Bool
is_hex c = is_digit c || is_in_range 65 70 c || is_in_range 97 102 c

-- what begins a variable: A to Z, U+00C0 to U+00DE without the multiplication sign, and the underscore
abbrev pub is_capital : ℕ → Bool
is_capital c = is_upper c || (is_in_range 192 222 c && not (c == 215)) || c == 95

-- what goes on a word or a variable: ASCII letters and digits, the underscore, the at sign,
-- and U+00C0 to U+00FF without the multiplication and the division sign
abbrev pub is_name_char : ℕ → Bool
is_name_char c = is_lower c || is_in_range 64 90 c || is_digit c || c == 95
    || (is_in_range 192 255 c && not (c == 215) && not (c == 247))

-- plus and minus
abbrev pub is_sign : ℕ → Bool
is_sign c = c == 43 || c == 45

-- e and E
abbrev pub is_exponent_mark : ℕ → Bool
is_exponent_mark c = c == 101 || c == 69

-- anything but LF
abbrev pub is_in_line : ℕ → Bool
is_in_line c = not (c == 10)

-- the first character is there and passes the test
abbrev pub first_is : (ℕ → Bool) → List ℕ → Bool
first_is test [] = false
first_is test (c ∷ cs) = test c

-- the number that the digits write in the base, behind digits that write n
abbrev pub value_from : ℕ → ℕ → List ℕ → ℕ
value_from base n [] = n
value_from base n (d ∷ ds) = value_from base (n * base + digit_value d) ds
