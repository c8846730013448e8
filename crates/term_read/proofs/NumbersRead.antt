-- Numbers as they are printed are read again, whatever follows them.
use Rattle.std.proofs.Common.{◌≡◌, ℕ, zero, suc, ℤ, pos, negsuc, ◌+◌, ◌*◌, ◌-◌, ◌/◌, ◌%◌, ◌^◌, ◌≤◌, ◌<◌, refl, sym, ap, ◌∙◌, List, [], ◌∷◌, ◌++◌, length, drop, take, take_while, Some, None, Bool, true, false, if◌then◌else◌, eqb, leb, ltb, IsTrue, arith, cond}
use Rattle.std.specs.List.{list_all, prefix_len}
use Rattle.std.specs.Char.{digit_value}
use Rattle.std.proofs.lemmas.Bool.{lt-ltb, ltb-true, ltb-false}
use Rattle.std.proofs.lemmas.Bool.Decides.{nat_tests}
use Rattle.erl_term.proofs.Forms.{left_true, right_true, both_true}
use Rattle.core_chars.specs.Characters.{is_digit, is_sign, first_is, value_from}
use Rattle.term_text.specs.Decimal.{digits_on, decimal_on, integer_on}
use Rattle.term_read.specs.Lexemes.{◌>>=◌, is_space, behind_blanks, blanks_skipped, run_of, integer_of, with_rest, digits_front, integer_front, integer_at, below, number_at}
use Rattle.term_read.specs.Printed.{Ends}
use Rattle.erl_term.specs.Ranges.{is_within_128}

-- Runs.

run_here : (test : ℕ → Bool) (r : List ℕ) → first_is test r ≡ false → take_while test r ≡ []
run_here test [] h = refl
run_here test (c ∷ r) h = ap (λ b. take (cond b (1 + prefix_len test r) 0) (c ∷ r)) h

run_more : (test : ℕ → Bool) (c : ℕ) (cs : List ℕ) → test c ≡ true → take_while test (c ∷ cs) ≡ c ∷ take_while test cs
run_more test c cs h = ap (λ b. take (cond b (1 + prefix_len test cs) 0) (c ∷ cs)) h
    ∙ ap (λ k. take k (c ∷ cs)) (one_first (prefix_len test cs))
  where
    one_first : (n : ℕ) → 1 + n ≡ suc n
    one_first n = omega arith

pub run_all : (test : ℕ → Bool) (a r : List ℕ) → IsTrue (list_all test a) → first_is test r ≡ false
    → take_while test (a ++ r) ≡ a
run_all test [] r h e = run_here test r e
run_all test (c ∷ a) r h e =
    run_more test c (a ++ r) (left_true (test c) (list_all test a) h)
    ∙ ap (λ xs. c ∷ xs) (run_all test a r (right_true (test c) (list_all test a) h) e)

drop_front : (a r : List ℕ) → drop (length a) (a ++ r) ≡ r
drop_front [] r = refl
drop_front (c ∷ a) r = drop_front a r

pub run_is : (test : ℕ → Bool) (a r : List ℕ) → IsTrue (list_all test a) → first_is test r ≡ false
    → run_of test (a ++ r) ≡ (a, r)
unfolding run_of
run_is test a r h e =
    let t : take_while test (a ++ r) ≡ a = run_all test a r h e in
    let d : drop (length (take_while test (a ++ r))) (a ++ r) ≡ r =
    ap (λ (xs : List ℕ). drop (length xs) (a ++ r)) t ∙ drop_front a r in
    λ i. (t i, d i)

-- Digits.

digits_on-append : (k n : ℕ) (xs r : List ℕ) → digits_on k n (xs ++ r) ≡ digits_on k n xs ++ r
digits_on-append zero n xs r = refl
digits_on-append (suc k) n xs r = by (ltb n 10) (digits_on-append k (n / 10) ((48 + n % 10) ∷ xs) r)
  where
    by : (b : Bool) → digits_on k (n / 10) ((48 + n % 10) ∷ (xs ++ r)) ≡ digits_on k (n / 10) ((48 + n % 10) ∷ xs) ++ r
        → (elim b [ true ↦ (48 + n) ∷ (xs ++ r) | false ↦ digits_on k (n / 10) ((48 + n % 10) ∷ (xs ++ r)) ])
        ≡ (elim b [ true ↦ (48 + n) ∷ xs | false ↦ digits_on k (n / 10) ((48 + n % 10) ∷ xs) ]) ++ r
    by true h = refl
    by false h = h

digit_there : (n : ℕ) → n < 10 → is_digit (48 + n) ≡ true
digit_there n h = grind (arith, nat_tests)

digits_all : (k n : ℕ) (xs : List ℕ) → IsTrue (list_all is_digit xs) → IsTrue (list_all is_digit (digits_on k n xs))
digits_all zero n xs h = h
digits_all (suc k) n xs h =
    by (ltb n 10) refl (digits_all k (n / 10) ((48 + n % 10) ∷ xs)
    (both_true (is_digit (48 + n % 10)) (list_all is_digit xs) (digit_there (n % 10) (omega arith)) h))
  where
    by : (b : Bool) → ltb n 10 ≡ b → IsTrue (list_all is_digit (digits_on k (n / 10) ((48 + n % 10) ∷ xs)))
        → IsTrue (list_all is_digit
        (elim b [ true ↦ (48 + n) ∷ xs | false ↦ digits_on k (n / 10) ((48 + n % 10) ∷ xs) ]))
    by true e g = both_true (is_digit (48 + n)) (list_all is_digit xs) (digit_there n (ltb-true n 10 e)) h
    by false e g = g

value_there : (n : ℕ) → n < 10 → digit_value (48 + n) ≡ n
value_there n h = grind (arith, nat_tests)

digits_value : (k n : ℕ) (xs : List ℕ) → n < k → value_from 10 0 (digits_on k n xs) ≡ value_from 10 n xs
digits_value zero n xs h = absurd (omega (arith, h))
digits_value (suc k) n xs h = by (ltb n 10) refl (λ l. digits_value k (n / 10) ((48 + n % 10) ∷ xs) l)
  where
    one : (m : ℕ) → m < 10 → value_from 10 0 ((48 + m) ∷ xs) ≡ value_from 10 m xs
    one m l = ap (λ v. value_from 10 v xs) (omega (arith, value_there m l))

    more : (m : ℕ) → m < 10 → value_from 10 (n / 10) ((48 + m) ∷ xs) ≡ value_from 10 (n / 10 * 10 + m) xs
    more m l = ap (λ v. value_from 10 (n / 10 * 10 + v) xs) (value_there m l)

    whole : n / 10 * 10 + n % 10 ≡ n
    whole = omega arith

    rest : 10 ≤ n → value_from 10 0 (digits_on k (n / 10) ((48 + n % 10) ∷ xs))
        ≡ value_from 10 (n / 10) ((48 + n % 10) ∷ xs) → value_from 10 0 (digits_on k (n / 10) ((48 + n % 10) ∷ xs))
        ≡ value_from 10 n xs
    rest l g = g ∙ more (n % 10) (omega arith) ∙ ap (λ v. value_from 10 v xs) whole

    by : (b : Bool) → ltb n 10 ≡ b
        → (n / 10 < k → value_from 10 0 (digits_on k (n / 10) ((48 + n % 10) ∷ xs))
        ≡ value_from 10 (n / 10) ((48 + n % 10) ∷ xs))
        → value_from 10 0 (elim b [ true ↦ (48 + n) ∷ xs | false ↦ digits_on k (n / 10) ((48 + n % 10) ∷ xs) ])
        ≡ value_from 10 n xs
    by true e g = one n (ltb-true n 10 e)
    by false e g = let l : 10 ≤ n = ltb-false n 10 e in rest l (g (omega arith))

abbrev pub digits : ℕ → List ℕ
digits n = digits_on (suc n) n []

pub decimal_is : (n : ℕ) (r : List ℕ) → decimal_on n r ≡ digits n ++ r
unfolding decimal_on
decimal_is n r = digits_on-append (suc n) n [] r

first_digit : (k n : ℕ) (xs : List ℕ) → 0 < k → n < k → first_is is_digit (digits_on k n xs) ≡ true
first_digit zero n xs h l = absurd (omega (arith, h))
first_digit (suc k) n xs h l = by (ltb n 10) refl (λ p q. first_digit k (n / 10) ((48 + n % 10) ∷ xs) p q)
  where
    by : (b : Bool) → ltb n 10 ≡ b
        → (0 < k → n / 10 < k → first_is is_digit (digits_on k (n / 10) ((48 + n % 10) ∷ xs)) ≡ true)
        → first_is is_digit (elim b [ true ↦ (48 + n) ∷ xs | false ↦ digits_on k (n / 10) ((48 + n % 10) ∷ xs) ]) ≡ true
    by true e g = digit_there n (ltb-true n 10 e)
    by false e g = let m : 10 ≤ n = ltb-false n 10 e in g (omega (arith, m, l)) (omega (arith, m, l))

-- A number is read.

no_digit : (r : List ℕ) → Ends r → first_is is_digit r ≡ false
no_digit [] h = refl
no_digit (c ∷ r) h = grind (arith, nat_tests, h)

pub digits_read : (minus : Bool) (n : ℕ) (r : List ℕ) → Ends r
    → digits_front minus (decimal_on n r) ≡ with_rest (integer_of minus n) r
unfolding digits_front
digits_read minus n r h =
    let run : run_of is_digit (digits n ++ r) ≡ (digits n, r) =
    run_is is_digit (digits n) r (digits_all (suc n) n [] refl) (no_digit r h) in
    let value : value_from 10 0 (digits n) ≡ n = digits_value (suc n) n [] (omega arith) in
    let there : first_is is_digit (digits n ++ r)
    ≡ true = ap (first_is is_digit) (sym (digits_on-append (suc n) n [] r))
    ∙ first_digit (suc n) n r (omega arith) (omega arith) in
    ap (λ cs. if first_is is_digit cs then with_rest (integer_of minus (value_from 10 0 (run_of is_digit cs).0))
    (run_of is_digit cs).1 else None) (decimal_is n r)
    ∙ ap (λ b. if b then with_rest (integer_of minus (value_from 10 0 (run_of is_digit (digits n ++ r)).0))
    (run_of is_digit (digits n ++ r)).1 else None) there
    ∙ ap (λ (x : List ℕ × List ℕ). with_rest (integer_of minus (value_from 10 0 x.0)) x.1) run
    ∙ ap (λ m. with_rest (integer_of minus m) r) value

-- digits are no blank, no comment and no sign
digits_solid : (cs : List ℕ) → first_is is_digit cs ≡ true → (behind_blanks cs ≡ cs)
    × (integer_front cs ≡ digits_front false cs)
unfolding behind_blanks
digits_solid [] h = absurd cc
digits_solid (c ∷ cs) h =
    let no_blank : is_space c ≡ false = grind (arith, nat_tests, h) in
    let no_comment : eqb c 37 ≡ false = grind (arith, nat_tests, h) in
    let no_sign : is_sign c ≡ false = grind (arith, nat_tests, h) in (
      ap (λ b. if b then blanks_skipped false cs else if eqb c 37 then blanks_skipped true cs else c ∷ cs) no_blank
          ∙ ap (λ b. if b then blanks_skipped true cs else c ∷ cs) no_comment,
      ap (λ b. if b then digits_front (eqb c 45) cs else digits_front false (c ∷ cs)) no_sign,
    )

decimal_digit : (n : ℕ) (r : List ℕ) → first_is is_digit (decimal_on n r) ≡ true
unfolding decimal_on
decimal_digit n r = first_digit (suc n) n r (omega arith) (omega arith)

pub number_read : (limit n : ℕ) (r : List ℕ) → Ends r → n < limit → limit ≤ 2 ^ 127
    → number_at limit (decimal_on n r) ≡ Some (n, r)
unfolding number_at integer_at
number_read limit n r h l m =
    let solid = digits_solid (decimal_on n r) (decimal_digit n r) in
    let small : leb n (2 ^ 127 - 1) ≡ true = grind (arith, nat_tests) in
    let there : ltb n limit ≡ true = lt-ltb n limit l in
    ap (λ cs. integer_front cs >>= below limit) solid.0
    ∙ ap (λ x. x >>= below limit) (solid.1 ∙ digits_read false n r h)
    ∙ ap (λ b. with_rest (if b then Some (pos n) else None) r >>= below limit) small
    ∙ ap (λ b. if b then Some given else None) there
  where
    given : ℕ × List ℕ
    given = (n, r)

pub integer_read : (z : ℤ) (r : List ℕ) → Ends r → IsTrue (is_within_128 z)
    → (behind_blanks (integer_on z r) ≡ integer_on z r) × (integer_front (integer_on z r) ≡ Some (z, r))
unfolding behind_blanks
integer_read (pos n) r h w =
    let solid = digits_solid (decimal_on n r) (decimal_digit n r) in
    let small : leb n (2 ^ 127 - 1) ≡ true = grind (arith, nat_tests, w) in
    (solid.0, solid.1 ∙ digits_read false n r h ∙ ap (λ b. with_rest (if b then Some (pos n) else None) r) small)
integer_read (negsuc n) r h w =
    let small : leb (suc n) (2 ^ 127) ≡ true = grind (arith, nat_tests, w) in
    (refl, digits_read true (suc n) r h ∙ ap (λ b. with_rest (if b then Some (negsuc n) else None) r) small)
