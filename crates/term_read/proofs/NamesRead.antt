-- Atoms as they are printed are read again.
use Rattle.std.proofs.Common.{◌≡◌, ℕ, zero, suc, ◌+◌, ◌-◌, ◌/◌, ◌%◌, ◌≤◌, ◌<◌, refl, sym, ap, ◌∙◌, subst, List, [], ◌∷◌, ◌++◌, length, drop, codes, Option, Some, None, Bool, true, false, not, ◌&&◌, ◌||◌, if◌then◌else◌, eqb, leb, IsTrue, arith, cond, append_assoc, length-append, inl, inr, ◌==◌}
use Rattle.std.proofs.lemmas.Bool.{cases_lt, le-leb}
use Rattle.std.specs.List.{list_all, list_any}
use Rattle.std.specs.Fmt.{digits}
use Rattle.std.proofs.lemmas.Bool.Decides.{nat_tests}
use borrow.Author.Tests.{eqb-true}
use Rattle.erl_base.specs.Names.{Name, same_name}
use Rattle.erl_term.proofs.Forms.{left_true, right_true, both_true}
use Rattle.core_chars.specs.Characters.{first_is, is_lower, is_upper, is_digit}
use Rattle.core_chars.specs.Escapes.{quoted_char}
use Rattle.core_chars.specs.Quoted.{quoted_text}
use Rattle.core_chars.proofs.Quoting.{behind, passed_over}
use Rattle.term_text.specs.Atoms.{is_name_character, is_kept, is_plain_name, kept_words, quoted_character, quoted_characters, atom_text}
use Rattle.term_read.specs.Lexemes.{is_space, behind_blanks, blanks_skipped, run_of, word_front, unquoted, quoted_rest, no_fun, name_front}
use Rattle.term_read.specs.Printed.{Ends}
use Rattle.std.proofs.lemmas.Fmt.{hex_one_digit, hex_two_digits}
use Rattle.std.specs.Fmt.{digit_glyph}
use Rattle.std.specs.Char.{digit_value}
use lib.Utf8.{scalar}
use Rattle.core_chars.specs.Characters.{is_hex, value_from}
use Rattle.core_chars.specs.Escapes.{code_escape, escape_at}
use Rattle.core_chars.specs.Quoted.{with_char, more_of}
use Rattle.term_read.proofs.NumbersRead.{run_is, run_all}

-- Words.

no_name : (r : List ℕ) → Ends r → first_is is_name_character r ≡ false
no_name [] h = refl
no_name (c ∷ r) h = h

-- a word that is not kept is not `fun`
later_words : (t : Name → Bool) (w : Name) (ws : List Name) → list_any t (w ∷ ws) ≡ false → list_any t ws ≡ false
later_words t w ws h = by (t w) h
  where
    by : (b : Bool) → (b || list_any t ws) ≡ false → list_any t ws ≡ false
    by true e = absurd cc
    by false e = e

first_word : (t : Name → Bool) (w : Name) (ws : List Name) → list_any t (w ∷ ws) ≡ false → t w ≡ false
first_word t w ws h = by (t w) h
  where
    by : (b : Bool) → (b || list_any t ws) ≡ false → b ≡ false
    by true e = absurd cc
    by false e = refl

later_none : (n : ℕ) (t : Name → Bool) (ws : List Name) → list_any t ws ≡ false → list_any t (drop n ws) ≡ false
later_none zero t ws h = h
later_none (suc n) t [] h = refl
later_none (suc n) t (w ∷ ws) h = later_none n t ws (later_words t w ws h)

pub not_fun : (a : Name) → is_kept a ≡ false → same_name (codes "fun") a ≡ false
not_fun a h = first_word (λ w. same_name w a) (codes "fun") (drop 17 kept_words)
    (later_none 16 (λ w. same_name w a) kept_words h)

small_name : (c : ℕ) → is_lower c ≡ true → is_name_character c ≡ true
small_name c h = ap (λ b. b || is_upper c || is_digit c || eqb c 95 || eqb c 64) h

not_true : (b : Bool) → not b ≡ true → b ≡ false
not_true true h = absurd cc
not_true false h = refl

plain_read : (a r : List ℕ) → Ends r → is_plain_name a ≡ true → (behind_blanks (a ++ r) ≡ a ++ r)
    × (name_front (a ++ r) ≡ Some (a, r))
unfolding behind_blanks
plain_read [] r h e = absurd cc
plain_read (c ∷ cs) r h e =
    let word : IsTrue (is_lower c && list_all is_name_character cs) =
    left_true (is_lower c && list_all is_name_character cs) (not (is_kept (c ∷ cs))) e in
    let small : is_lower c ≡ true = left_true (is_lower c) (list_all is_name_character cs) word in
    let names : IsTrue (list_all is_name_character (c ∷ cs)) = both_true (is_name_character c)
    (list_all is_name_character cs) (small_name c small)
    (right_true (is_lower c) (list_all is_name_character cs) word) in
    let kept : is_kept (c ∷ cs)
    ≡ false = not_true (is_kept (c ∷ cs))
    (right_true (is_lower c && list_all is_name_character cs) (not (is_kept (c ∷ cs))) e) in
    let no_blank : is_space c ≡ false = grind (arith, nat_tests, small) in
    let no_comment : eqb c 37 ≡ false = grind (arith, nat_tests, small) in
    let no_quote : eqb c 39 ≡ false = grind (arith, nat_tests, small) in (
      ap (λ b. if b then blanks_skipped false (cs ++ r) else if eqb c 37 then blanks_skipped true (cs ++ r)
          else c ∷ (cs ++ r)) no_blank
          ∙ ap (λ b. if b then blanks_skipped true (cs ++ r) else c ∷ (cs ++ r)) no_comment,
      ap (λ b. if b then quoted_rest 39 (cs ++ r) else no_fun (word_front (c ∷ (cs ++ r)))) no_quote
          ∙ ap (λ b. no_fun (if b then Some (run_of is_name_character (c ∷ (cs ++ r))) else None)) small
          ∙ ap (λ x. no_fun (Some x)) (run_is is_name_character (c ∷ cs) r names (no_name r h))
          ∙ ap (λ b. if b then None else Some (given (c ∷ cs) r)) (not_fun (c ∷ cs) kept),
    )
  where
    given : List ℕ → List ℕ → List ℕ × List ℕ
    given a r = (a, r)

-- Quoted characters.

abbrev pair_of : List ℕ → ℕ → List ℕ × ℕ
pair_of xs n = (xs, n)

one_more : (c k m : ℕ) (a : List ℕ) → 0 < k → with_char (Some (c, k)) (behind [] (k - 1) (Some (a, m)))
    ≡ Some (c ∷ a, k + m)
one_more c k m a h = ap (λ n. Some (pair_of (c ∷ a) n)) (let e : k - 1 + m + 1 ≡ k + m = omega (arith, h) in e)

-- the text at a character that is no closing quote
at_char : (quote c n k : ℕ) (cs : List ℕ) → eqb c quote ≡ false → quoted_char (c ∷ cs) ≡ Some (n, k)
    → k ≤ length (c ∷ cs)
    → quoted_text quote (c ∷ cs) 0 ≡ with_char (Some (n, k)) (behind [] (k - 1) (quoted_text quote (drop (k - 1) cs) 0))
at_char quote c n k cs e f h =
    ap (λ b. cond b (Some ([], 1))
    (with_char (quoted_char (c ∷ cs)) (quoted_text quote cs (more_of (quoted_char (c ∷ cs)))))) e
    ∙ ap (λ r. with_char r (quoted_text quote cs (more_of r))) f
    ∙ ap (with_char (Some (n, k))) (passed_over quote (k - 1) cs (omega (arith, h)))

-- how the quoted character c is read, with what follows it
abbrev OneRead : ℕ → List ℕ → List ℕ → Type 0
OneRead c text rest = quoted_text 39 (text ++ rest) 0
    ≡ with_char (Some (c, length text)) (behind [] (length text - 1) (quoted_text 39 rest 0))

glyph_hex : (n : ℕ) → n < 16 → is_hex (digit_glyph false n) ≡ true
glyph_hex n h = grind (arith, nat_tests)

glyph_value : (n : ℕ) → n < 16 → digit_value (digit_glyph false n) ≡ n
glyph_value n h = grind (arith, nat_tests)

low_scalar : (c : ℕ) → c < 256 → scalar c ≡ true
low_scalar c h = grind (arith, nat_tests)

abbrev self_of : ℕ → ℕ × ℕ
self_of c = (c, 1)

drop_front : (a r : List ℕ) → drop (length a) (a ++ r) ≡ r
drop_front [] r = refl
drop_front (c ∷ a) r = drop_front a r

drop_brace : (a r : List ℕ) → drop (length a + 1) (a ++ (125 ∷ r)) ≡ r
drop_brace [] r = refl
drop_brace (c ∷ a) r = ap (λ k. drop k (c ∷ (a ++ (125 ∷ r))))
    (let e : suc (length a) + 1 ≡ suc (length a + 1) = omega arith in e) ∙ drop_brace a r

-- behind a text and the quote that closes it
drop_quote : (a r : List ℕ) → drop (length a + 1) (a ++ (39 ∷ r)) ≡ r
drop_quote [] r = refl
drop_quote (c ∷ a) r = ap (λ k. drop k (c ∷ (a ++ (39 ∷ r))))
    (let e : suc (length a) + 1 ≡ suc (length a + 1) = omega arith in e) ∙ drop_quote a r

-- what is read behind `\x{`, by its digits
hex_read : (ds rest : List ℕ) (c : ℕ) → IsTrue (list_all is_hex ds) → 0 < length ds → value_from 16 0 ds ≡ c → c < 256
    → quoted_char (92 ∷ 120 ∷ 123 ∷ (ds ++ (125 ∷ rest))) ≡ Some (c, 4 + length ds)
hex_read ds rest c h n v l =
    ap behind_hex (run_all is_hex ds (125 ∷ rest) h refl)
    ∙ ap (λ b. if b && first_is (λ c. c == 125) (drop (length ds) (ds ++ (125 ∷ rest))) then code_escape
    (value_from 16 0 ds) (4 + length ds) else None) (le-leb 1 (length ds) (omega (arith, n)))
    ∙ ap (λ cs. if first_is (λ c. c == 125) cs then code_escape (value_from 16 0 ds) (4 + length ds) else None)
    (drop_front ds (125 ∷ rest))
    ∙ ap (λ v. code_escape v (4 + length ds)) v ∙ ap (λ b. if b then Some given else None) (low_scalar c l)
  where
    given : ℕ × ℕ
    given = (c, 4 + length ds)

    behind_hex : List ℕ → Option (ℕ × ℕ)
    behind_hex xs = if leb 1 (length xs)
        && first_is (λ c. c == 125) (drop (length xs) (ds ++ (125 ∷ rest))) then code_escape (value_from 16 0 xs)
        (4 + length xs) else None

-- a control character: its code in hexadecimal
control_read : (ds rest : List ℕ) (c : ℕ) → IsTrue (list_all is_hex ds) → 0 < length ds → value_from 16 0 ds ≡ c
    → c < 256 → OneRead c (codes "\\x{" ++ ds ++ codes "}") rest
control_read ds rest c h n v l =
    let size : length (codes "\\x{" ++ ds ++ codes "}") ≡ 4 + length ds =
    length-append (codes "\\x{" ++ ds) (codes "}") ∙ omega arith in
    ap (λ cs. quoted_text 39 (codes "\\x{" ++ cs) 0) (append_assoc ds (codes "}") rest)
    ∙ at_char 39 92 c (4 + length ds) (120 ∷ 123 ∷ (ds ++ (125 ∷ rest))) refl (hex_read ds rest c h n v l)
    (omega (arith, length-append ds (125 ∷ rest)))
    ∙ ap (λ cs. with_char (Some (c, 4 + length ds)) (behind [] (4 + length ds - 1) (quoted_text 39 cs 0)))
    (behind_all ds rest)
    ∙ ap (λ k. with_char (Some (c, k)) (behind [] (k - 1) (quoted_text 39 rest 0))) (sym size)
  where
    behind_all : (ds rest : List ℕ) → drop (4 + length ds - 1) (120 ∷ 123 ∷ (ds ++ (125 ∷ rest))) ≡ rest
    behind_all ds rest = ap (λ k. drop k (120 ∷ 123 ∷ (ds ++ (125 ∷ rest))))
        (let e : 4 + length ds - 1 ≡ suc (suc (length ds + 1)) = omega arith in e) ∙ drop_brace ds rest

one_read : (c : ℕ) (rest : List ℕ) → OneRead c (quoted_character c) rest
one_read c rest = by (eqb c 92) (eqb c 39) (leb c 31 || eqb c 127) refl refl refl
  where
    low : (leb c 31 || eqb c 127) ≡ true → c < 256
    low h = grind (arith, nat_tests, h)

    control : c < 256 → OneRead c (codes "\\x{" ++ digits 16 false c ++ codes "}") rest
    control l = elim (cases_lt c 16) [
      | inl lt ↦ subst (λ ds. OneRead c (codes "\\x{" ++ ds ++ codes "}") rest) (sym (hex_one_digit false c lt))
          (control_read (digit_glyph false c ∷ []) rest c
          (both_true (is_hex (digit_glyph false c)) true (glyph_hex c lt) refl) (omega arith)
          (omega (arith, glyph_value c lt)) l)
      | inr le ↦ subst (λ ds. OneRead c (codes "\\x{" ++ ds ++ codes "}") rest) (sym (hex_two_digits false c le l))
          (control_read (digit_glyph false (c / 16) ∷ digit_glyph false (c % 16) ∷ []) rest c
          (both_true (is_hex (digit_glyph false (c / 16))) (is_hex (digit_glyph false (c % 16)) && true)
          (glyph_hex (c / 16) (omega arith))
          (both_true (is_hex (digit_glyph false (c % 16))) true (glyph_hex (c % 16) (omega arith)) refl))
          (omega arith) (omega (arith, glyph_value (c / 16) (omega arith), glyph_value (c % 16) (omega arith))) l)
    ]

    by : (p q s : Bool) → eqb c 92 ≡ p → eqb c 39 ≡ q → (leb c 31 || eqb c 127) ≡ s
        → OneRead c (if p then codes "\\\\" else if q then codes "\\'"
        else if s then codes "\\x{" ++ digits 16 false c ++ codes "}" else c ∷ []) rest
    by true q s e f g = subst (λ x. OneRead x (codes "\\\\") rest) (sym (eqb-true c 92 e))
        (at_char 39 92 92 2 (92 ∷ rest) refl refl (omega arith))
    by false true s e f g = subst (λ x. OneRead x (codes "\\'") rest) (sym (eqb-true c 39 f))
        (at_char 39 92 39 2 (39 ∷ rest) refl refl (omega arith))
    by false false true e f g = control (low g)
    by false false false e f g =
        at_char 39 c c 1 rest f (ap (λ b. if b then escape_at rest else Some (self_of c)) e) (omega arith)

some_long : (c : ℕ) → 0 < length (quoted_character c)
some_long c = by (eqb c 92) (eqb c 39) (leb c 31 || eqb c 127)
  where
    by : (p q s : Bool) → 0 < length (if p then codes "\\\\" else if q then codes "\\'"
        else if s then codes "\\x{" ++ digits 16 false c ++ codes "}" else c ∷ [])
    by true q s = omega arith
    by false true s = omega arith
    by false false true = omega arith
    by false false false = omega arith

text_is : (a r : List ℕ)
    → quoted_text 39 (quoted_characters a ++ (39 ∷ r)) 0 ≡ Some (a, length (quoted_characters a) + 1)
text_is [] r = refl
text_is (c ∷ a) r =
    ap (λ cs. quoted_text 39 cs 0) (append_assoc (quoted_character c) (quoted_characters a) (39 ∷ r))
    ∙ one_read c (quoted_characters a ++ (39 ∷ r))
    ∙ ap (λ x. with_char (Some (c, length (quoted_character c))) (behind [] (length (quoted_character c) - 1) x))
    (text_is a r)
    ∙ one_more c (length (quoted_character c)) (length (quoted_characters a) + 1) a (some_long c)
    ∙ ap (λ n. Some (pair_of (c ∷ a) n))
    (let e : length (quoted_character c) + (length (quoted_characters a) + 1) ≡ length (quoted_character c
    ++ quoted_characters a) + 1 = omega (arith, length-append (quoted_character c) (quoted_characters a)) in e)

pub quoted_read : (a r : List ℕ) → quoted_rest 39 (quoted_characters a ++ (39 ∷ r)) ≡ Some (a, r)
unfolding quoted_rest
quoted_read a r = ap (λ x. unquoted x (quoted_characters a ++ (39 ∷ r))) (text_is a r)
    ∙ ap (λ xs. Some (names_of a xs)) (drop_quote (quoted_characters a) r)
  where
    names_of : List ℕ → List ℕ → List ℕ × List ℕ
    names_of a xs = (a, xs)

pub name_read : (a r : List ℕ) → Ends r → (behind_blanks (atom_text a ++ r) ≡ atom_text a ++ r)
    × (name_front (atom_text a ++ r) ≡ Some (a, r))
unfolding behind_blanks
name_read a r h = by (is_plain_name a) refl
  where
    by : (b : Bool) → is_plain_name a ≡ b
        → (behind_blanks ((if b then a else codes "'" ++ quoted_characters a ++ codes "'") ++ r)
        ≡ (if b then a else codes "'" ++ quoted_characters a ++ codes "'") ++ r)
        × (name_front ((if b then a else codes "'" ++ quoted_characters a ++ codes "'") ++ r) ≡ Some (a, r))
    by true e = plain_read a r h e
    by false e = (refl, ap (quoted_rest 39) (append_assoc (quoted_characters a) (codes "'") r) ∙ quoted_read a r)
