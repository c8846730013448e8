-- The digits of a number have its value.
use Rattle.std.proofs.Common.{◌≡◌, ℕ, ◌+◌, ◌*◌, ◌/◌, ◌%◌, ◌^◌, ◌<◌, ◌≤◌, List, [], ◌∷◌, ◌++◌, refl, ◌∙◌, arith, decimal}
use Rattle.std.proofs.lemmas.Bool.Decides.{nat_tests}
use Rattle.std.proofs.lemmas.Fmt.{decimal_by_steps_wide}
use Rattle.std.specs.Char.{digit_value}
use Rattle.core_chars.specs.Characters.{value_from}

value_append : (b n : ℕ) (ds : List ℕ) (d : ℕ) → value_from b n (ds ++ d ∷ []) ≡ value_from b n ds * b + digit_value d
value_append b n [] d = refl
value_append b n (e ∷ ds) d = value_append b (n * b + digit_value e) ds d

low_digit : (n : ℕ) → n < 10 → digit_value (48 + n) ≡ n
low_digit n h = grind (arith, nat_tests)

one_digit : (n : ℕ) → n < 10 → value_from 10 0 ((48 + n) ∷ []) ≡ n
one_digit n h = let v = low_digit n h in omega (arith, v)

more_digits : (n : ℕ) (ds : List ℕ) → 10 ≤ n → value_from 10 0 ds ≡ n / 10
    → value_from 10 0 (ds ++ ((48 + n % 10) ∷ [])) ≡ n
more_digits n ds h e =
    let v = low_digit (n % 10) (omega arith) in
    value_append 10 0 ds (48 + n % 10)
    ∙ (let s : value_from 10 0 ds * 10 + digit_value (48 + n % 10) ≡ n = omega (arith, v, e) in s)

pub value_of_decimal : (n : ℕ) → n < 10 ^ 64 → value_from 10 0 (decimal n) ≡ n
value_of_decimal n h = decimal_by_steps_wide (λ m ds. value_from 10 0 ds ≡ m) one_digit more_digits n h
