-- The characters of a variable, one by one.
use Rattle.std.proofs.Common.{arith, ◌≡◌, refl, sym, ap, ◌∙◌, ℕ, List, [], ◌∷◌, ◌++◌, Bool, true, false, ◌&&◌, length, chars, IsUtf8, encode_utf8}
use Rattle.std.proofs.lemmas.Str.{chars_past_char, chars-nil}
use Rattle.core_syntax.specs.TokenKinds.{goes_on, is_name_rest}

one_more : (b : Bool) (c : ℕ) (cs : List ℕ) → is_name_rest b (c ∷ cs) ≡ (goes_on b c && is_name_rest true cs)
one_more true c cs = refl
one_more false c cs = refl

-- one that goes on
pub name_more : (b : Bool) (rest next : List ℕ) (c : ℕ) (n : Bool) → IsUtf8 rest → rest ≡ encode_utf8 c ++ next
    → goes_on b c ≡ true → is_name_rest b (chars rest) ≡ n → is_name_rest true (chars next) ≡ n
name_more b rest next c n u e g h =
    sym (ap (λ x. x && is_name_rest true (chars next)) g) ∙ sym (one_more b c (chars next))
    ∙ sym (ap (is_name_rest b) (chars_past_char rest next c u e)) ∙ h

-- one that does not
pub name_stops : (b : Bool) (rest next : List ℕ) (c : ℕ) (n : Bool) → IsUtf8 rest → rest ≡ encode_utf8 c ++ next
    → goes_on b c ≡ false → is_name_rest b (chars rest) ≡ n → false ≡ n
name_stops b rest next c n u e g h =
    sym (ap (λ x. x && is_name_rest true (chars next)) g) ∙ sym (one_more b c (chars next))
    ∙ sym (ap (is_name_rest b) (chars_past_char rest next c u e)) ∙ h

empty : (l : List ℕ) → length l ≡ 0 → l ≡ []
empty [] e = refl
empty (x ∷ xs) e = absurd (omega (arith, e))

nothing_left : (b : Bool) → is_name_rest b [] ≡ b
nothing_left true = refl
nothing_left false = refl

-- no more
pub name_ends : (b : Bool) (rest : List ℕ) (n : Bool) → length rest ≡ 0 → is_name_rest b (chars rest) ≡ n → b ≡ n
name_ends b rest n e h =
    sym (ap (is_name_rest b) (ap chars (empty rest e) ∙ chars-nil) ∙ nothing_left b) ∙ h
