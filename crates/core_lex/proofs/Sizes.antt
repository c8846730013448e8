-- How many characters write a lexeme: at least one, and no more than there are.
use Rattle.std.proofs.Common.{◌≡◌, ℕ, suc, ◌+◌, ◌<◌, ◌≤◌, Bool, true, false, ◌&&◌, ◌||◌, nat_le, eqb, Option, Some, None, List, [], ◌∷◌, length, take, drop, take_while, refl, ap, sym, ◌∙◌, arith, length-take, length-drop, bytes_eq, if◌then◌else◌}
use Rattle.std.proofs.lemmas.Bool.Decides.{nat_tests}
use Rattle.std.specs.Cmp.Lexicographic.{same_text}
use Rattle.core_lex.specs.declared.token.TokenKind.{TokenKind}
use Rattle.core_lex.specs.declared.token.Lexeme.{Lexeme}
use Rattle.core_lex.specs.declared.token.Symbol as Symbols
use Rattle.core_lex.specs.declared.token.TokenKind.TheVariants.{Word, Atom, Letters}
use Rattle.core_chars.specs.Characters.{is_blank, is_lower, is_digit, is_capital, is_name_char, is_in_line, is_sign, is_exponent_mark, first_is}
use Rattle.core_chars.specs.Escapes.{quoted_char}
use Rattle.core_chars.specs.Quoted.{quoted_text}
use Rattle.core_chars.proofs.Sizes.{either, run_fits, not_empty, run_begins, second_true, CharFits, char_fits, TextFits, quoted_fits}
use Rattle.core_lex.specs.Tokens.{of_kind, bad, words, long_symbols, short_symbols, listed_as, symbol_of, name_len, word_at, variable_at, symbol_at, sign_len, begins_number, exponent_len, fraction_len, number_at, quoted_lexeme, atom_at, string_at, character_lexeme, character_at, comment_at, lexeme_at}
use Rattle.core_lex.specs.TokenLaws.{IsWithin}

bad_within : (n : ℕ) → 0 < n → IsWithin n bad
bad_within n h = record { positive = omega arith; fits = h }

-- ---- words, variables, symbols, comments

name_fits : (p : ℕ → Bool) (cs : List ℕ) → 0 < length cs → 1 + length (take_while p (drop 1 cs)) ≤ length cs
name_fits p cs h = omega (arith, run_fits p (drop 1 cs), length-drop 1 cs)

word_within : (cs : List ℕ) → 0 < length cs → IsWithin (length cs) (word_at cs)
unfolding word_at
word_within cs h = elim (listed_as words (take (name_len cs) cs)) as (λ o. IsWithin (length cs)
    (elim o [ None ↦ bad | Some word ↦ of_kind (Word word) (name_len cs) ])) [
      | None ↦ bad_within (length cs) h
      | Some word ↦ record { positive = omega arith; fits = name_fits is_name_char cs h }
    ]

variable_within : (cs : List ℕ) → 0 < length cs → IsWithin (length cs) (variable_at cs)
unfolding variable_at
variable_within cs h = record { positive = omega arith; fits = name_fits is_name_char cs h }

comment_within : (cs : List ℕ) → 0 < length cs → IsWithin (length cs) (comment_at cs)
unfolding comment_at
comment_within cs h = record { positive = omega arith; fits = name_fits is_in_line cs h }

-- each text of the table has n characters
abbrev pub AllOf : {A : Type 0} → ℕ → List (List ℕ × A) → Type 0
AllOf n [] = Unit {0}
AllOf n (t ∷ ts) = (length t.0 ≡ n) × AllOf n ts

listed_by : {A : Type 0} (n : ℕ) (s t : List ℕ) (x y : A) (b : Bool) (later : Option A)
    → bytes_eq s t ≡ b → length t ≡ n
    → (later ≡ Some x → length s ≡ n) → (if b then Some y else later) ≡ Some x → length s ≡ n
listed_by n s t x y true later f size rest g = let same : s ≡ t = same_text s t (sym f) in ap length same ∙ size
listed_by n s t x y false later f size rest g = rest g

length_listed : {A : Type 0} (n : ℕ) (table : List (List ℕ × A)) (s : List ℕ) (x : A) → AllOf n table
    → listed_as table s ≡ Some x → length s ≡ n
length_listed n [] s x all e = absurd cc
length_listed n (t ∷ ts) s x all e =
    listed_by n s t.0 x t.1 (bytes_eq s t.0) (listed_as ts s) refl all.0 (length_listed n ts s x all.1) e

pub long_length : (s : List ℕ) (x : Symbols.Symbol) → listed_as long_symbols s ≡ Some x → length s ≡ 2
long_length s x e = length_listed 2 long_symbols s x
    (refl, (refl, (refl, (refl, (refl, (refl, (refl, (refl, (refl, tt))))))))) e

pub short_length : (s : List ℕ) (x : Symbols.Symbol) → listed_as short_symbols s ≡ Some x → length s ≡ 1
short_length s x e = length_listed 1 short_symbols s x
    (refl, (refl, (refl, (refl, (refl, (refl, (refl, (refl, (refl, (refl, (refl, (refl, (refl, tt))))))))))))) e

long_within : (cs : List ℕ) (otherwise : Lexeme) (o : Option Symbols.Symbol) → listed_as long_symbols (take 2 cs) ≡ o
    → IsWithin (length cs) otherwise → IsWithin (length cs) (symbol_of o 2 otherwise)
long_within cs otherwise None e h = h
long_within cs otherwise (Some x) e h =
    record { positive = omega arith; fits = omega (arith, long_length (take 2 cs) x e, length-take 2 cs) }

short_within : (cs : List ℕ) (o : Option Symbols.Symbol) → 0 < length cs → IsWithin (length cs) (symbol_of o 1 bad)
short_within cs None h = bad_within (length cs) h
short_within cs (Some x) h = record { positive = omega arith; fits = omega arith }

symbol_within : (cs : List ℕ) → 0 < length cs → IsWithin (length cs) (symbol_at cs)
unfolding symbol_at
symbol_within cs h = long_within cs _ (listed_as long_symbols (take 2 cs)) refl
    (short_within cs (listed_as short_symbols (take 1 cs)) h)

-- ---- numbers

pub sign_fits : (cs : List ℕ) → sign_len cs ≤ length cs
sign_fits cs = either (λ n. n ≤ length cs) (first_is is_sign cs) 1 0 (λ e. not_empty is_sign cs e) (λ _. omega arith)

exponent_fits : (cs : List ℕ) → exponent_len cs ≤ length cs
unfolding exponent_len
exponent_fits cs =
    let signs : ℕ = sign_len (drop 1 cs) in
    let digits : ℕ = length (take_while is_digit (drop (1 + signs) cs)) in
    either (λ n. n ≤ length cs) (first_is is_exponent_mark cs && nat_le 1 digits) (1 + signs + digits) 0
    (λ e. let some : 1 ≤ digits = grind
    (arith, nat_tests, second_true (first_is is_exponent_mark cs) (nat_le 1 digits) e) in
    omega (arith, run_fits is_digit (drop (1 + signs) cs), length-drop (1 + signs) cs))
    (λ _. omega arith)

fraction_fits : (cs : List ℕ) → fraction_len cs ≤ length cs
unfolding fraction_len
fraction_fits cs =
    let digits : ℕ = length (take_while is_digit (drop 1 cs)) in
    either (λ n. n ≤ length cs) (first_is (λ c. eqb c 46) cs && nat_le 1 digits)
    (1 + digits + exponent_len (drop (1 + digits) cs)) 0
    (λ e. let some : 1 ≤ digits = grind
    (arith, nat_tests, second_true (first_is (λ c. eqb c 46) cs) (nat_le 1 digits) e) in
    omega (
      arith,
      run_fits is_digit (drop 1 cs),
      length-drop 1 cs,
      exponent_fits (drop (1 + digits) cs),
      length-drop (1 + digits) cs,
    ))
    (λ _. omega arith)

number_within : (cs : List ℕ) → begins_number cs ≡ true → IsWithin (length cs) (number_at cs)
unfolding number_at
number_within cs e =
    let signs : ℕ = sign_len cs in
    let digits : ℕ = length (take_while is_digit (drop signs cs)) in
    let some : 0 < digits = run_begins is_digit (drop signs cs) e in
    let fits : digits + signs ≤ length cs =
    omega (arith, sign_fits cs, run_fits is_digit (drop signs cs), length-drop signs cs) in
    either (IsWithin (length cs)) (eqb (fraction_len (drop (signs + digits) cs)) 0) _ _
    (λ _. record { positive = omega arith; fits = omega arith })
    (λ _. record {
      positive = omega arith;
      fits = omega (arith, fraction_fits (drop (signs + digits) cs), length-drop (signs + digits) cs);
    })

lexeme_fits : (n : ℕ) (kind : List ℕ → TokenKind) (r : Option (List ℕ × ℕ)) → TextFits n r
    → IsWithin (suc n) (quoted_lexeme kind r)
lexeme_fits n kind None h = bad_within (suc n) (omega arith)
lexeme_fits n kind (Some text) h = record { positive = omega arith; fits = omega arith }

atom_within : (c : ℕ) (cs : List ℕ) → IsWithin (length (c ∷ cs)) (atom_at (c ∷ cs))
unfolding atom_at
atom_within c cs = lexeme_fits (length cs) Atom (quoted_text 39 cs 0) (quoted_fits 39 cs 0)

string_within : (c : ℕ) (cs : List ℕ) → IsWithin (length (c ∷ cs)) (string_at (c ∷ cs))
unfolding string_at
string_within c cs = lexeme_fits (length cs) Letters (quoted_text 34 cs 0) (quoted_fits 34 cs 0)

character_fits : (n : ℕ) (r : Option (ℕ × ℕ)) → CharFits n r → IsWithin (suc n) (character_lexeme r)
character_fits n None h = bad_within (suc n) (omega arith)
character_fits n (Some c) h = record { positive = omega arith; fits = omega arith }

character_within : (c : ℕ) (cs : List ℕ) → IsWithin (length (c ∷ cs)) (character_at (c ∷ cs))
unfolding character_at
character_within c cs = character_fits (length cs) (quoted_char cs) (char_fits cs)

-- ---- any lexeme

pub lexeme_within : (cs : List ℕ) → 0 < length cs → IsWithin (length cs) (lexeme_at cs)
unfolding lexeme_at
lexeme_within [] h = absurd (omega arith)
lexeme_within (c ∷ cs) h =
    let P : Lexeme → Type 0 = IsWithin (length (c ∷ cs)) in
    either P (is_blank c) _ _ (λ _. record { positive = omega arith; fits = h })
    (λ _. either P (eqb c 37) _ _ (λ _. comment_within (c ∷ cs) h)
    (λ _. either P (is_lower c) _ _ (λ _. word_within (c ∷ cs) h)
    (λ _. either P (is_capital c) _ _ (λ _. variable_within (c ∷ cs) h)
    (λ _. either P (begins_number (c ∷ cs)) _ _ (λ e. number_within (c ∷ cs) e)
    (λ _. either P (eqb c 39) _ _ (λ _. atom_within c cs)
    (λ _. either P (eqb c 34) _ _ (λ _. string_within c cs)
    (λ _. either P (eqb c 36) _ _ (λ _. character_within c cs)
    (λ _. symbol_within (c ∷ cs) h))))))))
