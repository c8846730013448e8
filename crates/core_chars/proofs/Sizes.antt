-- How many characters write an escape or a quoted text: no more than there are.
use Rattle.std.proofs.Common.{◌≡◌, ℕ, zero, suc, ◌+◌, ◌<◌, ◌≤◌, Bool, true, false, cond, ◌&&◌, nat_le, eqb, Option, Some, None, option_map, List, [], ◌∷◌, length, take, drop, take_while, refl, ap, arith, length-take, length-drop}
use Rattle.std.proofs.lemmas.Bool.Decides.{nat_tests}
use Rattle.std.specs.List.{prefix_len}
use Rattle.std.specs.Int.{is_in_range}
use lib.Utf8.{scalar}
use Rattle.core_chars.specs.Characters.{is_octal, is_hex, first_is, value_from}
use Rattle.core_chars.specs.Escapes.{letter_escape, code_escape, octal_escape, short_hex_escape, long_hex_escape, hex_escape, control_escape, escape_at, quoted_char}
use Rattle.core_chars.specs.Quoted.{with_char, one_longer, more_of, quoted_text}

-- what both choices have, the choice has
pub either : {A : Type 0} (P : A → Type 0) (b : Bool) (x y : A) → (b ≡ true → P x) → (b ≡ false → P y) → P (cond b x y)
either P true x y f g = f refl
either P false x y f g = g refl

pub run_fits : (p : ℕ → Bool) (xs : List ℕ) → length (take_while p xs) ≤ length xs
run_fits p xs = omega (arith, length-take (prefix_len p xs) xs)

pub not_empty : (p : ℕ → Bool) (xs : List ℕ) → first_is p xs ≡ true → 0 < length xs
not_empty p [] e = absurd cc
not_empty p (x ∷ xs) e = omega arith

pub run_begins : (p : ℕ → Bool) (xs : List ℕ) → first_is p xs ≡ true → 0 < length (take_while p xs)
run_begins p [] e = absurd cc
run_begins p (x ∷ xs) e =
    let counted : prefix_len p (x ∷ xs) ≡ 1 + prefix_len p xs = ap (λ b. cond b (1 + prefix_len p xs) 0) e in
    omega (arith, length-take (prefix_len p (x ∷ xs)) (x ∷ xs))

pub second_true : (a b : Bool) → a && b ≡ true → b ≡ true
second_true true b e = e
second_true false b e = absurd cc

-- ---- escapes

abbrev pub CharFits : ℕ → Option (ℕ × ℕ) → Type 0
CharFits n None = Unit {0}
CharFits n (Some c) = c.1 ≤ n

code_fits : (n code size : ℕ) → size ≤ n → CharFits n (code_escape code size)
code_fits n code size h = either (CharFits n) (scalar code) (Some (code, size)) None (λ _. h) (λ _. tt)

octal_fits : (cs : List ℕ) → CharFits (1 + length cs) (octal_escape cs)
octal_fits cs = code_fits (1 + length cs) (value_from 8 0 (take_while is_octal (take 3 cs)))
    (1 + length (take_while is_octal (take 3 cs))) (omega (arith, run_fits is_octal (take 3 cs), length-take 3 cs))

short_fits : (cs : List ℕ) → CharFits (2 + length cs) (short_hex_escape cs)
short_fits cs = either (CharFits (2 + length cs)) (eqb (length (take_while is_hex (take 2 cs))) 2) _ None
    (λ e. let two : length (take_while is_hex (take 2 cs)) ≡ 2 = grind (arith, nat_tests) in
    code_fits (2 + length cs) (value_from 16 0 (take_while is_hex (take 2 cs))) 4
    (omega (arith, run_fits is_hex (take 2 cs), length-take 2 cs)))
    (λ _. tt)

long_fits : (cs : List ℕ) → CharFits (3 + length cs) (long_hex_escape cs)
long_fits cs =
    let digits : ℕ = length (take_while is_hex cs) in
    either (CharFits (3 + length cs)) (nat_le 1 digits && first_is (λ c. eqb c 125) (drop digits cs)) _ None
    (λ e. code_fits (3 + length cs) (value_from 16 0 (take_while is_hex cs)) (4 + digits)
    (omega (
      arith,
      run_fits is_hex cs,
      not_empty (λ c. eqb c 125) (drop digits cs)
          (second_true (nat_le 1 digits) (first_is (λ c. eqb c 125) (drop digits cs)) e),
      length-drop digits cs,
    )))
    (λ _. tt)

more_fits : (m n : ℕ) (r : Option (ℕ × ℕ)) → m ≤ n → CharFits m r → CharFits n r
more_fits m n None h f = tt
more_fits m n (Some c) h f = omega arith

hex_fits : (cs : List ℕ) → CharFits (2 + length cs) (hex_escape cs)
hex_fits cs = either (CharFits (2 + length cs)) (first_is (λ c. eqb c 123) cs) _ _
    (λ e. more_fits _ (2 + length cs) _ (omega (arith, not_empty (λ c. eqb c 123) cs e, length-drop 1 cs))
    (long_fits (drop 1 cs)))
    (λ _. short_fits cs)

control_fits : (cs : List ℕ) → CharFits (2 + length cs) (control_escape cs)
control_fits [] = tt
control_fits (c ∷ cs) = either (CharFits (2 + length (c ∷ cs))) (is_in_range 64 95 c) _ None
    (λ _. omega arith) (λ _. tt)

letter_fits : (n : ℕ) (r : Option ℕ) → 2 ≤ n → CharFits n (option_map (λ m. (m, 2)) r)
letter_fits n None h = tt
letter_fits n (Some m) h = h

escape_fits : (cs : List ℕ) → CharFits (1 + length cs) (escape_at cs)
escape_fits [] = tt
escape_fits (c ∷ cs) = either (CharFits (1 + length (c ∷ cs))) (is_octal c) _ _
    (λ _. octal_fits (c ∷ cs))
    (λ _. either (CharFits (1 + length (c ∷ cs))) (eqb c 120) _ _
    (λ _. more_fits (2 + length cs) (1 + length (c ∷ cs)) _ (omega arith) (hex_fits cs))
    (λ _. either (CharFits (1 + length (c ∷ cs))) (eqb c 94) _ _
    (λ _. more_fits (2 + length cs) (1 + length (c ∷ cs)) _ (omega arith) (control_fits cs))
    (λ _. letter_fits (1 + length (c ∷ cs)) (letter_escape c) (omega arith))))

pub char_fits : (cs : List ℕ) → CharFits (length cs) (quoted_char cs)
char_fits [] = tt
char_fits (c ∷ cs) = either (CharFits (length (c ∷ cs))) (eqb c 92) _ _
    (λ _. more_fits (1 + length cs) (length (c ∷ cs)) _ (omega arith) (escape_fits cs)) (λ _. omega arith)

-- ---- quoted texts

abbrev pub TextFits : ℕ → Option (List ℕ × ℕ) → Type 0
TextFits n None = Unit {0}
TextFits n (Some text) = text.1 ≤ n

longer_fits : (n : ℕ) (r : Option (List ℕ × ℕ)) → TextFits n r → TextFits (suc n) (one_longer r)
longer_fits n None h = tt
longer_fits n (Some text) h = omega arith

with_fits : (n : ℕ) (c : Option (ℕ × ℕ)) (r : Option (List ℕ × ℕ)) → TextFits n r → TextFits (suc n) (with_char c r)
with_fits n None r h = tt
with_fits n (Some c) None h = tt
with_fits n (Some c) (Some text) h = omega arith

pub quoted_fits : (quote : ℕ) (cs : List ℕ) (skip : ℕ) → TextFits (length cs) (quoted_text quote cs skip)
quoted_fits quote [] skip = tt
quoted_fits quote (c ∷ cs) (suc skip) = longer_fits (length cs) (quoted_text quote cs skip) (quoted_fits quote cs skip)
quoted_fits quote (c ∷ cs) zero = either (TextFits (suc (length cs))) (eqb c quote) _ _
    (λ _. omega arith)
    (λ _. with_fits (length cs) (quoted_char (c ∷ cs)) _ (quoted_fits quote cs (more_of (quoted_char (c ∷ cs)))))
