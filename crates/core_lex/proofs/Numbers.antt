-- What the value of a short number is.
use Rattle.std.proofs.Common.{◌≡◌, ℕ, zero, suc, ◌+◌, ◌-◌, ◌*◌, ◌^◌, ◌<◌, ◌≤◌, Bool, true, false, ◌||◌, Option, None, Some, List, [], ◌∷◌, length, take, drop, take_while, ℤ, pos, nat_le, eqb, if◌then◌else◌, refl, sym, ap, ◌∙◌, subst, arith, length-drop}
use Rattle.std.proofs.Math.Nat.{mul_assoc, mul_comm, pow-suc, one-le-pow}
use Rattle.std.proofs.lemmas.Bool.Decides.{nat_tests}
use Rattle.std.proofs.lemmas.List.{length-take-le}
use Rattle.std.proofs.lemmas.List.Elements.{All-nil, All-cons}
use Rattle.std.proofs.lemmas.List.Sums.{take_while-cons}
use Rattle.std.proofs.lemmas.Nat.{mul-le}
use Rattle.std.proofs.lemmas.Str.{len_utf8_bounds}
use Rattle.std.specs.Char.{digit_value, len_utf8}
use Rattle.std.specs.List.{All}
use Rattle.erl_base.specs.Ascii.{percent, single_quote, double_quote, dollar, minus}
use Rattle.erl_base.specs.declared.ids.Place.{Place}
use Rattle.core_chars.specs.Characters.{is_blank, is_lower, is_digit, is_capital, is_sign, first_is, value_from}
use Rattle.core_chars.specs.Escapes.{quoted_char}
use Rattle.core_chars.specs.Quoted.{quoted_text}
use Rattle.core_chars.proofs.Sizes.{either, run_fits}
use Rattle.utf8_text.specs.Places.{start, past, byte_len}
use Rattle.core_lex.specs.declared.token.Lexeme.{Lexeme}
use Rattle.core_lex.specs.declared.token.Symbol as Symbols
use Rattle.core_lex.specs.declared.token.Token.{Token}
use Rattle.core_lex.specs.declared.token.TokenKind.{TokenKind}
use Rattle.core_lex.specs.declared.token.TokenKind.TheVariants.{Word, Symbol, Atom, Number, Wide, Letters}
use Rattle.core_lex.specs.TokenLaws.{IsSmallIfShort}
use Rattle.core_lex.specs.Tokens.{of_kind, bad, listed_as, words, long_symbols, short_symbols, name_len, word_at, variable_at, symbol_of, symbol_at, sign_len, begins_number, fraction_len, integer_of, number_at, quoted_lexeme, atom_at, string_at, character_lexeme, character_at, comment_at, lexeme_at, token, is_bad, unless_bad, before, tokens_from, tokens}
use Rattle.core_lex.proofs.Sizes.{sign_fits}

-- a number below 10^9
abbrev IsSmall : ℤ → Type 0
IsSmall z = (n : ℕ) × (z ≡ pos n) × (n < 10 ^ 9)

-- ---- digits

digit_small : (c : ℕ) → is_digit c ≡ true → digit_value c ≤ 9
digit_small c h = grind (arith, nat_tests)

-- one digit more
digit_more : (n d p v : ℕ) → d ≤ 9 → v < suc (n * 10 + d) * p → v < suc n * (10 * p)
digit_more n d p v h below =
    let most : suc (n * 10 + d) * p ≤ suc n * 10 * p =
    mul-le (suc (n * 10 + d)) p (suc n * 10) p (omega arith) (omega arith) in
    omega (arith, most, mul_assoc (suc n) 10 p)

positive : (n k : ℕ) → n < suc n * 10 ^ k
positive n k = let most : suc n * 1 ≤ suc n * 10 ^ k =
    mul-le (suc n) 1 (suc n) (10 ^ k) (omega arith) (one-le-pow k 10 (omega arith)) in omega arith

-- at most k digits behind digits that write n
value_below : (xs : List ℕ) (n k : ℕ) → length (take_while is_digit xs) ≤ k
    → value_from 10 n (take_while is_digit xs) < suc n * 10 ^ k
value_below [] n k h = positive n k
value_below (x ∷ xs) n k h =
    by (is_digit x) refl k (value_below xs) (subst (λ ds. length ds ≤ k) (take_while-cons is_digit x xs) h)
  where
    by : (b : Bool) → is_digit x ≡ b → (k : ℕ)
        → ((m j : ℕ) → length (take_while is_digit xs) ≤ j → value_from 10 m (take_while is_digit xs) < suc m * 10 ^ j)
        → length (if b then x ∷ take_while is_digit xs else []) ≤ k
        → value_from 10 n (take_while is_digit (x ∷ xs)) < suc n * 10 ^ k
    by true e zero below l = absurd (omega arith)
    by true e (suc k) below l =
        let front : take_while is_digit (x ∷ xs) ≡ x ∷ take_while is_digit xs =
        take_while-cons is_digit x xs ∙ ap (λ b. if b then x ∷ take_while is_digit xs else []) e in
        let later = below (n * 10 + digit_value x) k (omega arith) in
        let more = digit_more n (digit_value x) (10 ^ k)
        (value_from 10 (n * 10 + digit_value x) (take_while is_digit xs)) (digit_small x e) later in
        let power : 10 ^ suc k ≡ 10 * 10 ^ k = pow-suc 10 k ∙ mul_comm (10 ^ k) 10 in
        subst (λ ds. value_from 10 n ds < suc n * 10 ^ suc k) (sym front)
        (subst (λ p. value_from 10 (n * 10 + digit_value x) (take_while is_digit xs) < suc n * p) (sym power) more)
    by false e k below l =
        let front : take_while is_digit (x ∷ xs) ≡ [] =
        take_while-cons is_digit x xs ∙ ap (λ b. if b then x ∷ take_while is_digit xs else []) e in
        subst (λ ds. value_from 10 n ds < suc n * 10 ^ k) (sym front) (positive n k)

-- ---- bytes

bytes_no_fewer : (cs : List ℕ) → length cs ≤ byte_len cs
bytes_no_fewer [] = omega arith
bytes_no_fewer (c ∷ cs) = let one = (len_utf8_bounds c).0 in let more = bytes_no_fewer cs in omega arith

-- ---- numbers

parts_of : (b signed : Bool) (w z : ℤ) (k : ℕ) → (if b then Number signed w else Wide k) ≡ Number false z
    → (signed ≡ false) × (w ≡ z)
parts_of true signed w z k e = (cc, cc)
parts_of false signed w z k e = absurd cc

integer_small : (negative signed : Bool) (digits : List ℕ) (z : ℤ) → (negative ≡ true → signed ≡ true)
    → value_from 10 0 digits < 10 ^ 9
    → integer_of negative signed digits ≡ Number false z → IsSmall z
unfolding integer_of
integer_small true signed digits z s h e =
    let unsigned = (parts_of (nat_le (value_from 10 0 digits) (2 ^ 127)) signed _ z _ e).0 in
    let written = s refl in absurd cc
integer_small false signed digits z s h e =
    (value_from 10 0 digits, sym (parts_of (nat_le (value_from 10 0 digits) (2 ^ 127 - 1)) signed _ z _ e).1, h)

-- a minus is a sign
minus_signs : (cs : List ℕ) → first_is (λ c. eqb c minus) cs ≡ true → eqb (sign_len cs) 1 ≡ true
minus_signs [] h = absurd cc
minus_signs (c ∷ cs) h = ap (λ b. eqb (if b then 1 else 0) 1) (plus_or (eqb c 43) (eqb c minus) h)
  where
    plus_or : (a b : Bool) → b ≡ true → (a || b) ≡ true
    plus_or true b e = refl
    plus_or false b e = e

-- a lexeme that is an unsigned number of at most nine bytes has a small value
abbrev SmallIn : List ℕ → Lexeme → Type 0
SmallIn cs l = (z : ℤ) → l.kind ≡ Some (Number false z) → byte_len (take l.size cs) ≤ 9 → IsSmall z

number_small : (cs : List ℕ) → SmallIn cs (number_at cs)
unfolding number_at
number_small cs =
    let signs : ℕ = sign_len cs in
    let digits : List ℕ = take_while is_digit (drop signs cs) in
    let whole : ℕ = signs + length digits in
    let fits : whole ≤ length cs =
    omega (arith, sign_fits cs, run_fits is_digit (drop signs cs), length-drop signs cs) in
    either (SmallIn cs) (eqb (fraction_len (drop whole cs)) 0) _ _
    (λ _ z e short.
    let few : length digits ≤ 9 = omega (arith, length-take-le whole cs fits, bytes_no_fewer (take whole cs)) in
    let kind : integer_of (first_is (λ c. eqb c minus) cs) (eqb signs 1) digits ≡ Number false z = cc in
    integer_small (first_is (λ c. eqb c minus) cs) (eqb signs 1) digits z (minus_signs cs)
    (value_below (drop signs cs) 0 9 few) kind)
    (λ _ z e short. absurd cc)

-- ---- other lexemes are none

abbrev NoNumber : Lexeme → Type 0
NoNumber l = (z : ℤ) → l.kind ≡ Some (Number false z) → ⊥

small_none : (cs : List ℕ) (l : Lexeme) → NoNumber l → SmallIn cs l
small_none cs l none z e short = absurd (none z e)

word_none : (cs : List ℕ) → NoNumber (word_at cs)
unfolding word_at
word_none cs = elim (listed_as words (take (name_len cs) cs)) as (λ o. NoNumber
    (elim o [ None ↦ bad | Some word ↦ of_kind (Word word) (name_len cs) ])) [
      | None ↦ λ z e. absurd cc
      | Some word ↦ λ z e. absurd cc
    ]

variable_none : (cs : List ℕ) → NoNumber (variable_at cs)
unfolding variable_at
variable_none cs z e = absurd cc

comment_none : (cs : List ℕ) → NoNumber (comment_at cs)
unfolding comment_at
comment_none cs z e = absurd cc

symbol_none : (cs : List ℕ) → NoNumber (symbol_at cs)
unfolding symbol_at
symbol_none cs = by (listed_as long_symbols (take 2 cs)) (listed_as short_symbols (take 1 cs))
  where
    by : (long short : Option Symbols.Symbol) → NoNumber (symbol_of long 2 (symbol_of short 1 bad))
    by (Some x) short z e = absurd cc
    by None (Some x) z e = absurd cc
    by None None z e = absurd cc

atom_none : (cs : List ℕ) → NoNumber (atom_at cs)
unfolding atom_at
atom_none cs = by (quoted_text single_quote (drop 1 cs) 0)
  where
    by : (r : Option (List ℕ × ℕ)) → NoNumber (quoted_lexeme Atom r)
    by None z e = absurd cc
    by (Some text) z e = absurd cc

string_none : (cs : List ℕ) → NoNumber (string_at cs)
unfolding string_at
string_none cs = by (quoted_text double_quote (drop 1 cs) 0)
  where
    by : (r : Option (List ℕ × ℕ)) → NoNumber (quoted_lexeme Letters r)
    by None z e = absurd cc
    by (Some text) z e = absurd cc

character_none : (cs : List ℕ) → NoNumber (character_at cs)
unfolding character_at
character_none cs = by (quoted_char (drop 1 cs))
  where
    by : (r : Option (ℕ × ℕ)) → NoNumber (character_lexeme r)
    by None z e = absurd cc
    by (Some c) z e = absurd cc

lexeme_small : (cs : List ℕ) → SmallIn cs (lexeme_at cs)
unfolding lexeme_at
lexeme_small [] = λ z e short. absurd cc
lexeme_small (c ∷ cs) =
    let P : Lexeme → Type 0 = SmallIn (c ∷ cs) in
    let none : (l : Lexeme) → NoNumber l → P l = small_none (c ∷ cs) in
    either P (is_blank c) _ _ (λ _ z e short. absurd cc)
    (λ _. either P (eqb c percent) _ _ (λ _. none _ (comment_none (c ∷ cs)))
    (λ _. either P (is_lower c) _ _ (λ _. none _ (word_none (c ∷ cs)))
    (λ _. either P (is_capital c) _ _ (λ _. none _ (variable_none (c ∷ cs)))
    (λ _. either P (begins_number (c ∷ cs)) _ _ (λ _. number_small (c ∷ cs))
    (λ _. either P (eqb c single_quote) _ _ (λ _. none _ (atom_none (c ∷ cs)))
    (λ _. either P (eqb c double_quote) _ _ (λ _. none _ (string_none (c ∷ cs)))
    (λ _. either P (eqb c dollar) _ _ (λ _. none _ (character_none (c ∷ cs)))
    (λ _. none _ (symbol_none (c ∷ cs))))))))))

-- ---- all tokens

small_before : (kind : Option TokenKind) (place : Place) (from to : ℕ) (later : List Token)
    → ((z : ℤ) → kind ≡ Some (Number false z) → to ≤ from + 9 → IsSmall z) → All IsSmallIfShort later
    → All IsSmallIfShort (before kind place from to later)
small_before None place from to later small all = all
small_before (Some kind) place from to later small all =
    All-cons IsSmallIfShort (token kind place from to) (unless_bad kind later)
    (λ z e short. small z (ap (λ k. Some k) e) short)
    (either (All IsSmallIfShort) (is_bad kind) [] later (λ _. All-nil IsSmallIfShort) (λ _. all))

small_tokens : (cs : List ℕ) (skip : ℕ) (place : Place) (byte : ℕ) → All IsSmallIfShort (tokens_from cs skip place byte)
small_tokens [] skip place byte = All-cons IsSmallIfShort _ [] (λ z e short. absurd cc) (All-nil IsSmallIfShort)
small_tokens (c ∷ cs) (suc skip) place byte = small_tokens cs skip (past c place) (byte + len_utf8 c)
small_tokens (c ∷ cs) zero place byte =
    let here : Lexeme = lexeme_at (c ∷ cs) in
    small_before here.kind place byte (byte + byte_len (take here.size (c ∷ cs))) _
    (λ z e short. lexeme_small (c ∷ cs) z e (omega (arith, short)))
    (small_tokens cs (here.size - 1) (past c place) (byte + len_utf8 c))

pub all_small : (cs : List ℕ) → All IsSmallIfShort (tokens cs)
unfolding tokens
all_small cs = small_tokens cs 0 start 0
