-- Walks over the characters of a text.
use Rattle.std.proofs.Common.{◌≡◌, ◌≢◌, ℕ, ◌+◌, ◌/◌, ◌%◌, ◌<◌, ◌≤◌, List, [], ◌∷◌, ◌++◌, length, get_or, drop, chars, IsUtf8, encode_utf8, refl, sym, ap, ap₂, ◌∙◌, append_assoc, append-nil, arith, Bool, true, false, not, ◌&&◌, eqb, if◌then◌else◌}
use Rattle.std.proofs.lemmas.List.{drop_more, drop_all}
use Rattle.std.proofs.lemmas.Str.{chars_past_char, chars-nil}
use borrow.Author.Tests.{eq-eqb, ne_eqb}
use Rattle.std.proofs.lemmas.Bool.Decides.{nat_tests}
use Rattle.std.specs.List.{list_all}
use Rattle.std.specs.Fmt.{digit_glyph, digits, digits_onto}
use Rattle.erl_base.specs.Names.{same_name}
use Rattle.core_chars.specs.Characters.{is_lower}
use Rattle.term_text.specs.Atoms.{is_name_character, is_kept, is_plain_name, quoted_character, quoted_characters}

empty : (l : List ℕ) → length l ≡ 0 → l ≡ []
empty [] e = refl
empty (x ∷ xs) e = absurd (omega (arith, e))

nothing_left : (rest : List ℕ) → length rest ≡ 0 → chars rest ≡ []
nothing_left rest e = ap chars (empty rest e) ∙ chars-nil

-- What is written for each character, before what is left.

pub char_added : (out new whole rest rest' : List ℕ) (c : ℕ) → IsUtf8 rest → rest ≡ encode_utf8 c ++ rest'
    → new ≡ out ++ (c ∷ []) → out ++ chars rest ≡ whole → new ++ chars rest' ≡ whole
char_added out new whole rest rest' c u e n h =
    ap (λ x. x ++ chars rest') n ∙ append_assoc out (c ∷ []) (chars rest')
    ∙ sym (ap (λ x. out ++ x) (chars_past_char rest rest' c u e)) ∙ h

pub quoted_added : (out new whole rest rest' : List ℕ) (c : ℕ) → IsUtf8 rest → rest ≡ encode_utf8 c ++ rest'
    → new ≡ out ++ quoted_character c → out ++ quoted_characters (chars rest) ≡ whole
    → new ++ quoted_characters (chars rest') ≡ whole
quoted_added out new whole rest rest' c u e n h =
    ap (λ x. x ++ quoted_characters (chars rest')) n
    ∙ append_assoc out (quoted_character c) (quoted_characters (chars rest'))
    ∙ sym (ap (λ x. out ++ quoted_characters x) (chars_past_char rest rest' c u e)) ∙ h

pub chars_ended : (out whole rest : List ℕ) → length rest ≡ 0 → out ++ chars rest ≡ whole
    → out ≡ whole
chars_ended out whole rest e h = sym (append-nil out) ∙ sym (ap (λ x. out ++ x) (nothing_left rest e)) ∙ h

pub quoted_ended : (out whole rest : List ℕ) → length rest ≡ 0 → out ++ quoted_characters (chars rest) ≡ whole
    → out ≡ whole
quoted_ended out whole rest e h =
    sym (append-nil out) ∙ sym (ap (λ x. out ++ quoted_characters x) (nothing_left rest e)) ∙ h

two_added : (out mid new : List ℕ) (a b : ℕ) → mid ≡ out ++ a ∷ [] → new ≡ mid ++ b ∷ [] → new ≡ out ++ a ∷ b ∷ []
two_added out mid new a b e f = f ∙ ap (λ x. x ++ b ∷ []) e ∙ append_assoc out (a ∷ []) (b ∷ [])

-- Whether characters are those of a plain name, by what has begun.

abbrev pub fits : Bool → ℕ → Bool
fits begun c = if begun then is_name_character c else is_lower c

abbrev pub goes_on : Bool → List ℕ → Bool
goes_on true cs = list_all is_name_character cs
goes_on false [] = false
goes_on false (c ∷ cs) = is_lower c && list_all is_name_character cs

one_more : (b : Bool) (c : ℕ) (cs : List ℕ) → goes_on b (c ∷ cs) ≡ (fits b c && goes_on true cs)
one_more true c cs = refl
one_more false c cs = refl

stops : (b : Bool) → goes_on b [] ≡ b
stops true = refl
stops false = refl

pub name_more : (b : Bool) (rest next : List ℕ) (c : ℕ) (n : Bool) → IsUtf8 rest → rest ≡ encode_utf8 c ++ next
    → fits b c ≡ true → goes_on b (chars rest) ≡ n → goes_on true (chars next) ≡ n
name_more b rest next c n u e g h =
    sym (ap (λ x. x && goes_on true (chars next)) g) ∙ sym (one_more b c (chars next))
    ∙ sym (ap (goes_on b) (chars_past_char rest next c u e)) ∙ h

plain_parts : (a : List ℕ) → is_plain_name a ≡ (goes_on false a && not (is_kept a))
plain_parts [] = refl
plain_parts (c ∷ cs) = refl

pub name_stops : (b : Bool) (rest next : List ℕ) (c : ℕ) (a : List ℕ) → IsUtf8 rest → rest ≡ encode_utf8 c ++ next
    → fits b c ≡ false → goes_on b (chars rest) ≡ goes_on false a → false ≡ is_plain_name a
name_stops b rest next c a u e g h =
    let no : false ≡ goes_on false a =
    sym (ap (λ x. x && goes_on true (chars next)) g) ∙ sym (one_more b c (chars next))
    ∙ sym (ap (goes_on b) (chars_past_char rest next c u e)) ∙ h in
    ap (λ x. x && not (is_kept a)) no ∙ sym (plain_parts a)

ended : (b : Bool) (rest a : List ℕ) → length rest ≡ 0 → goes_on b (chars rest) ≡ goes_on false a → b ≡ goes_on false a
ended b rest a e h = sym (ap (goes_on b) (nothing_left rest e) ∙ stops b) ∙ h

pub name_ends : (b k : Bool) (rest a : List ℕ) → length rest ≡ 0 → goes_on b (chars rest) ≡ goes_on false a
    → b ≡ true → k ≡ is_kept a → not k ≡ is_plain_name a
name_ends b k rest a e h g f =
    ap₂ (λ x y. x && not y) (sym g ∙ ended b rest a e h) f ∙ sym (plain_parts a)

pub no_name : (b : Bool) (rest a : List ℕ) → length rest ≡ 0 → goes_on b (chars rest) ≡ goes_on false a
    → b ≡ false → false ≡ is_plain_name a
no_name b rest a e h g = ap (λ x. x && not (is_kept a)) (sym g ∙ ended b rest a e h) ∙ sym (plain_parts a)

-- Whether characters are those of a word.

pub word_more : (w rest next : List ℕ) (i c : ℕ) (n : Bool) → IsUtf8 rest → rest ≡ encode_utf8 c ++ next
    → i < length w → get_or w i 0 ≡ c → same_name (drop i w) (chars rest) ≡ n
    → same_name (drop (i + 1) w) (chars next) ≡ n
word_more w rest next i c n u e l g h =
    sym (ap₂ same_name (drop_more w i 0 l) (chars_past_char rest next c u e)
    ∙ ap (λ x. x && same_name (drop (i + 1) w) (chars next)) (eq-eqb (get_or w i 0) c g)) ∙ h

pub word_differs : (w rest next : List ℕ) (i c : ℕ) (n : Bool) → IsUtf8 rest → rest ≡ encode_utf8 c ++ next
    → i < length w → get_or w i 0 ≢ c → same_name (drop i w) (chars rest) ≡ n → false ≡ n
word_differs w rest next i c n u e l g h =
    sym (ap₂ same_name (drop_more w i 0 l) (chars_past_char rest next c u e)
    ∙ ap (λ x. x && same_name (drop (i + 1) w) (chars next)) (ne_eqb (get_or w i 0) c g)) ∙ h

pub word_ended : (w rest next : List ℕ) (i c : ℕ) (n : Bool) → IsUtf8 rest → rest ≡ encode_utf8 c ++ next
    → length w ≤ i → same_name (drop i w) (chars rest) ≡ n → false ≡ n
word_ended w rest next i c n u e l h = sym (ap₂ same_name (drop_all i w l) (chars_past_char rest next c u e)) ∙ h

at_end : (w : List ℕ) (i : ℕ) → i ≤ length w → same_name (drop i w) [] ≡ eqb i (length w)
at_end w i h = by (eqb i (length w)) refl
  where
    by : (b : Bool) → eqb i (length w) ≡ b → same_name (drop i w) [] ≡ b
    by true e =
        let reached : length w ≤ i = grind (arith, nat_tests) in ap (λ x. same_name x []) (drop_all i w reached)
    by false e = let left : i < length w = grind (arith, nat_tests) in ap (λ x. same_name x []) (drop_more w i 0 left)

pub word_ends : (w rest : List ℕ) (i : ℕ) (n : Bool) → length rest ≡ 0 → i ≤ length w
    → same_name (drop i w) (chars rest) ≡ n → eqb i (length w) ≡ n
word_ends w rest i n e l h = sym (at_end w i l) ∙ sym (ap (same_name (drop i w)) (nothing_left rest e)) ∙ h

-- Hexadecimal digits of a byte.

pub one_digit : (n : ℕ) → n < 16 → digits 16 false n ≡ digit_glyph false n ∷ []
unfolding digits
one_digit n h =
    ap (λ b. if b then digit_glyph false (n % 16) ∷ []
    else digits_onto 63 16 false (n / 16) (digit_glyph false (n % 16) ∷ []))
    (eq-eqb (n / 16) 0 (omega (arith, h)))
    ∙ ap (λ d. digit_glyph false d ∷ []) (let e : n % 16 ≡ n = omega (arith, h) in e)

two_digits : (n : ℕ) → 16 ≤ n → n < 256
    → digits 16 false n ≡ digit_glyph false (n / 16) ∷ digit_glyph false (n % 16) ∷ []
unfolding digits
two_digits n g h =
    ap (λ b. if b then digit_glyph false (n % 16) ∷ []
    else digits_onto 63 16 false (n / 16) (digit_glyph false (n % 16) ∷ []))
    (ne_eqb (n / 16) 0 (λ e. absurd (omega (arith, g, e))))
    ∙ ap (λ b. if b then digit_glyph false (n / 16 % 16) ∷ digit_glyph false (n % 16) ∷ []
    else digits_onto 62 16 false (n / 16 / 16) (digit_glyph false (n / 16 % 16) ∷ digit_glyph false (n % 16) ∷ []))
    (eq-eqb (n / 16 / 16) 0 (omega (arith, h)))
    ∙ ap (λ d. digit_glyph false d ∷ digit_glyph false (n % 16) ∷ [])
    (let e : n / 16 % 16 ≡ n / 16 = omega (arith, h) in e)

pub two_written : (out mid new : List ℕ) (n a b : ℕ) → 16 ≤ n → n < 256 → a ≡ digit_glyph false (n / 16)
    → b ≡ digit_glyph false (n % 16) → mid ≡ out ++ a ∷ [] → new ≡ mid ++ b ∷ [] → new ≡ out ++ digits 16 false n
two_written out mid new n a b g h c d e f =
    two_added out mid new a b e f ∙ ap₂ (λ x y. out ++ x ∷ y ∷ []) c d ∙ sym (ap (λ x. out ++ x) (two_digits n g h))
