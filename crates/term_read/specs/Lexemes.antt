-- What the text of a term is written with: blanks, marks, words, quoted texts and integers. A word and an integer are
-- as long as they can be. Each function gives what stands at the front, and the characters that are left behind it.
use Rattle.std.specs.Prelude.{ℕ, ℤ, pos, negsuc, neg_ℤ, ◌-◌, ◌^◌, ◌==◌, ◌||◌, nat_le, nat_lt, List, [], ◌∷◌, Bool, true, false, not, length, drop, take_while, Option, Some, None, if◌then◌else◌, codes}
use Rattle.erl_base.specs.Names.{Name, same_name}
use Rattle.core_chars.specs.Characters.{is_lower, is_digit, is_sign, first_is, value_from}
use Rattle.core_chars.specs.Quoted.{quoted_text}
use Rattle.term_text.specs.Atoms.{is_name_character}

infixl 10 ◌>>=◌
-- what is read next, where something was read
abbrev pub ◌>>=◌ : {A B : Type 0} → Option A → (A → Option B) → Option B
None >>= f = None
(Some x) >>= f = f x

-- space, tab, LF, CR
abbrev pub is_space : ℕ → Bool
is_space c = c == 32 || c == 9 || c == 10 || c == 13

-- what is left behind blanks and comments; a comment goes from `%` to the end of its line
abbrev pub blanks_skipped : (in_comment : Bool) → List ℕ → List ℕ
blanks_skipped b [] = []
blanks_skipped true (c ∷ cs) = blanks_skipped (not (c == 10)) cs
blanks_skipped false (c ∷ cs) =
    if is_space c then blanks_skipped false cs else if c == 37 then blanks_skipped true cs else c ∷ cs

-- what is left behind blanks and comments
unfoldable pub behind_blanks : List ℕ → List ℕ
behind_blanks cs = blanks_skipped false cs

-- what is left behind a mark, where the characters begin with it
abbrev pub behind_mark : List ℕ → List ℕ → Option (List ℕ)
behind_mark [] cs = Some cs
behind_mark (m ∷ ms) [] = None
behind_mark (m ∷ ms) (c ∷ cs) = if m == c then behind_mark ms cs else None

-- a mark behind blanks
unfoldable pub mark_at : List ℕ → List ℕ → Option (List ℕ)
mark_at mark cs = behind_mark mark (behind_blanks cs)

-- the characters that pass a test, as far as they go, and those behind them
unfoldable pub run_of : (ℕ → Bool) → List ℕ → List ℕ × List ℕ
run_of test cs = (take_while test cs, drop (length (take_while test cs)) cs)

-- a word: a small letter, and all name characters behind it
abbrev pub word_front : List ℕ → Option (Name × List ℕ)
word_front cs = if first_is is_lower cs then Some (run_of is_name_character cs) else None

-- the text between two quotes, its escapes read
abbrev pub unquoted : Option (List ℕ × ℕ) → List ℕ → Option (List ℕ × List ℕ)
unquoted None cs = None
unquoted (Some text) cs = Some (text.0, drop text.1 cs)

-- the rest of a quoted text with what follows it, where the quote was read
unfoldable pub quoted_rest : (quote : ℕ) → List ℕ → Option (List ℕ × List ℕ)
quoted_rest quote cs = unquoted (quoted_text quote cs 0) cs

-- an atom: a word other than `fun`, or a quoted text
abbrev pub no_fun : Option (Name × List ℕ) → Option (Name × List ℕ)
no_fun None = None
no_fun (Some word) = if same_name (codes "fun") word.0 then None else Some word

-- an atom at the front, and what follows it
abbrev pub name_front : List ℕ → Option (Name × List ℕ)
name_front [] = None
name_front (c ∷ cs) = if c == 39 then quoted_rest 39 cs else no_fun (word_front (c ∷ cs))

-- the same, behind blanks
unfoldable pub name_at : List ℕ → Option (Name × List ℕ)
name_at cs = name_front (behind_blanks cs)

-- an integer of 128 signed bits
abbrev pub integer_of : (minus : Bool) → ℕ → Option ℤ
integer_of true n = if nat_le n (2 ^ 127) then Some (neg_ℤ (pos n)) else None
integer_of false n = if nat_le n (2 ^ 127 - 1) then Some (pos n) else None

-- what was found, and what is left
abbrev pub with_rest : {A : Type 0} → Option A → List ℕ → Option (A × List ℕ)
with_rest None cs = None
with_rest (Some x) cs = Some (x, cs)

-- an integer of decimal digits, and what follows them
unfoldable pub digits_front : (minus : Bool) → List ℕ → Option (ℤ × List ℕ)
digits_front minus cs =
    if first_is is_digit cs
    then with_rest (integer_of minus (value_from 10 0 (run_of is_digit cs).0)) (run_of is_digit cs).1
    else None

-- an integer: a sign or none directly before digits
abbrev pub integer_front : List ℕ → Option (ℤ × List ℕ)
integer_front [] = None
integer_front (c ∷ cs) = if is_sign c then digits_front (c == 45) cs else digits_front false (c ∷ cs)

-- an integer behind blanks
unfoldable pub integer_at : List ℕ → Option (ℤ × List ℕ)
integer_at cs = integer_front (behind_blanks cs)

-- a number below a bound
abbrev pub below : ℕ → ℤ × List ℕ → Option (ℕ × List ℕ)
below bound x = elim x.0 [ pos n ↦ (if nat_lt n bound then Some (n, x.1) else None) | negsuc n ↦ None ]

-- a number below a bound, behind blanks
unfoldable pub number_at : (bound : ℕ) → List ℕ → Option (ℕ × List ℕ)
number_at bound cs = integer_at cs >>= below bound
