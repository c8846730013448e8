-- The value of digits, kept under a ceiling.
use Rattle.std.proofs.Common.{◌≡◌, ℕ, ◌+◌, ◌*◌, ◌≤◌, ◌<◌, min, List, [], ◌∷◌, cond, Bool, false, refl, arith, ap, sym, ◌∙◌, inl, inr, Option, None, length, get_or, drop, take, take_while, ap₂, eqb, length-take}
use Rattle.std.proofs.lemmas.Bool.{cases_lt}
use Rattle.std.proofs.lemmas.Bool.Decides.{nat_tests}
use Rattle.std.specs.List.{prefix_len}
use Rattle.std.specs.Char.{digit_value}
use Rattle.std.proofs.lemmas.Nat.{mul-le}
use lib.Utf8.{scalar}
use Rattle.std.proofs.lemmas.List.{drop_more, take_min, take_all}
use Rattle.core_chars.specs.Characters.{value_from, is_octal, is_hex}
use Rattle.core_chars.specs.Escapes.{code_escape, octal_escape, short_hex_escape}

-- what is past the ceiling stays there
past_top : (n b d top : ℕ) → 1 ≤ b → top ≤ n → top ≤ n * b + d
past_top n b d top h le = let more : top * 1 ≤ n * b = mul-le top 1 n b le h in omega arith

same_product : (m n b d top : ℕ) → m ≡ n → min (m * b + d) top ≡ min (n * b + d) top
same_product m n b d top e = ap (λ x. min (x * b + d) top) e

-- a step from what is kept under the ceiling, kept there
cap_step : (n b d top : ℕ) → 1 ≤ b → min (min n top * b + d) top ≡ min (n * b + d) top
cap_step n b d top h = elim (cases_lt n top) [
  | inl lt ↦ same_product (min n top) n b d top (omega arith)
  | inr le ↦
      let left : top ≤ min n top * b + d = past_top (min n top) b d top h (omega arith) in
      let right : top ≤ n * b + d = past_top n b d top h le in
      omega arith
]

pub capped : (b top : ℕ) → 1 ≤ b → (ds : List ℕ) (n : ℕ)
    → min (value_from b (min n top) ds) top ≡ min (value_from b n ds) top
capped b top h [] n = omega arith
capped b top h (d ∷ ds) n =
    sym (capped b top h ds (min n top * b + digit_value d))
    ∙ ap (λ m. min (value_from b m ds) top) (cap_step n b (digit_value d) top h)
    ∙ capped b top h ds (n * b + digit_value d)

-- one digit more
pub capped_more : (b top n m total d : ℕ) (ds rest : List ℕ) → 1 ≤ b → ds ≡ d ∷ rest
    → m ≡ min (n * b + digit_value d) top
    → min (value_from b n ds) top ≡ total → min (value_from b m rest) top ≡ total
capped_more b top n m total d ds rest h e f g =
    ap (λ x. min (value_from b x rest) top) f ∙ capped b top h rest (n * b + digit_value d)
    ∙ sym (ap (λ xs. min (value_from b n xs) top) e) ∙ g

-- past the code points there is no scalar value
no_scalar : (n : ℕ) → 1114112 ≤ n → scalar n ≡ false
no_scalar n h = grind (arith, nat_tests)

pub code_escape_capped : (n m size : ℕ) → m ≡ min n 1114112 → code_escape m size ≡ code_escape n size
code_escape_capped n m size e = elim (cases_lt n 1114112) [
  | inl lt ↦ let same : m ≡ n = omega arith in ap (λ x. code_escape x size) same
  | inr le ↦ let high : 1114112 ≤ m = omega arith in rw (no_scalar m high, no_scalar n le) refl
]

-- the element that a loop reads, before what is left
pub drop_item : (xs : List ℕ) (i x : ℕ) → i < length xs → x ≡ get_or xs i x → drop i xs ≡ x ∷ drop (i + 1) xs
drop_item xs i x h e = drop_more xs i x h ∙ ap (λ y. y ∷ drop (i + 1) xs) (sym e)

run_taken : (p : ℕ → Bool) (xs : List ℕ) → take (length (take_while p xs)) xs ≡ take_while p xs
run_taken p xs = ap (λ n. take n xs) (length-take (prefix_len p xs) xs) ∙ take_min (prefix_len p xs) xs

pub octal_read : (front rest : List ℕ) (size code : ℕ) (r : Option (ℕ × ℕ)) → front ≡ take 3 rest
    → size ≡ length (take_while is_octal front)
    → code ≡ min (value_from 8 0 (take size front)) 1114112 → r ≡ code_escape code (1 + size) → r ≡ octal_escape rest
octal_read front rest size code r e f g h =
    h ∙ code_escape_capped (value_from 8 0 (take size front)) code (1 + size) g
    ∙ ap₂ (λ n k. code_escape (value_from 8 0 n) (1 + k)) (ap (λ k. take k front) f ∙ run_taken is_octal front) f
    ∙ ap (λ xs. code_escape (value_from 8 0 (take_while is_octal xs)) (1 + length (take_while is_octal xs))) e

all_taken : (p : ℕ → Bool) (xs : List ℕ) → length xs ≤ length (take_while p xs) → take_while p xs ≡ xs
all_taken p xs h = sym (run_taken p xs) ∙ take_all (length (take_while p xs)) xs h

pub short_hex_read : (front rest : List ℕ) (size code : ℕ) (r : Option (ℕ × ℕ)) → front ≡ take 2 rest
    → size ≡ length (take_while is_hex front) → size ≡ 2
    → code ≡ min (value_from 16 0 front) 1114112 → r ≡ code_escape code 4 → r ≡ short_hex_escape rest
short_hex_read front rest size code r e f two g h =
    let long : length front ≤ 2 = omega (arith, ap length e, length-take 2 rest) in
    let run : take_while is_hex front ≡ front = all_taken is_hex front (omega arith) in
    let taken : take_while is_hex (take 2 rest) ≡ front = ap (take_while is_hex) (sym e) ∙ run in
    let count : length (take_while is_hex (take 2 rest)) ≡ 2 =
    ap (λ xs. length (take_while is_hex xs)) (sym e) ∙ sym f ∙ two in
    h ∙ code_escape_capped (value_from 16 0 front) code 4 g
    ∙ ap (λ xs. code_escape (value_from 16 0 xs) 4) (sym taken)
    ∙ sym (ap (λ n. cond (eqb n 2) (code_escape (value_from 16 0 (take_while is_hex (take 2 rest))) 4) None) count)
