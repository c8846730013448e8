-- The bytes of one character, by their ranges.
use Rattle.std.proofs.Common.{◌≡◌, ℕ, ◌+◌, ◌-◌, ◌*◌, ◌/◌, ◌<◌, ◌≤◌, ◌⊎◌, inl, inr, Bool, true, false, cond, List, [], ◌∷◌, sym, ap, ◌∙◌, subst, refl, arith, IsUtf8, ltb}
use Rattle.std.proofs.lemmas.Bool.Decides.{nat_tests}
use Rattle.std.proofs.lemmas.Bool.{cases_lt}
use Rattle.std.proofs.lemmas.Str.{IsUtf8-encode}
use Rattle.std.specs.Int.{is_in_range}
use Rattle.std.specs.Str.Lossy.{second_byte_min, second_byte_max}
use lib.Utf8.{encode, next, scalar, scalar_cases, low_scalar}

taken : (b : Bool) (x y : List ℕ) → b ≡ true → cond b x y ≡ x
taken b x y e = ap (λ v. cond v x y) e

passed : (b : Bool) (x y : List ℕ) → b ≡ false → cond b x y ≡ y
passed b x y e = ap (λ v. cond v x y) e

below : (m n : ℕ) → m < n → ltb m n ≡ true
below m n h = grind (arith, nat_tests)

not_below : (m n : ℕ) → n ≤ m → ltb m n ≡ false
not_below m n h = grind (arith, nat_tests)

one : (c : ℕ) → c < 128 → encode c ≡ c ∷ []
unfolding encode
one c h = taken (ltb c 128) _ _ (below c 128 h)

two : (c : ℕ) → 128 ≤ c → c < 2048 → encode c ≡ (192 + c / 64) ∷ next c ∷ []
unfolding encode
two c l h = passed (ltb c 128) _ _ (not_below c 128 l) ∙ taken (ltb c 2048) _ _ (below c 2048 h)

three : (c : ℕ) → 2048 ≤ c → c < 65536 → encode c ≡ (224 + c / 4096) ∷ next (c / 64) ∷ next c ∷ []
unfolding encode
three c l h = passed (ltb c 128) _ _ (not_below c 128 (omega arith)) ∙ passed (ltb c 2048) _ _ (not_below c 2048 l)
    ∙ taken (ltb c 65536) _ _ (below c 65536 h)

four : (c : ℕ) → 65536 ≤ c → encode c ≡ (240 + c / 262144) ∷ next (c / 4096) ∷ next (c / 64) ∷ next c ∷ []
unfolding encode
four c l = passed (ltb c 128) _ _ (not_below c 128 (omega arith))
    ∙ passed (ltb c 2048) _ _ (not_below c 2048 (omega arith)) ∙ passed (ltb c 65536) _ _ (not_below c 65536 l)

-- y goes on a character
abbrev pub Follows : ℕ → Type 0
Follows y = (128 ≤ y) × (y < 192)

-- y may stand second behind x (Unicode, table 3-7)
pub record Second (x y : ℕ) : Type 0 where
  pub follows : Follows y
  pub long : x ≡ 224 → 160 ≤ y
  pub low : x ≡ 237 → y < 160
  pub high : x ≡ 240 → 144 ≤ y
  pub last : x ≡ 244 → y < 144

-- the bytes of a character
pub data Shape (c : ℕ) : Type 0 where
  of1 : encode c ≡ c ∷ [] → Shape c
  of2 : (x y : ℕ) → 194 ≤ x → x < 224 → Follows y → encode c ≡ x ∷ y ∷ [] → Shape c
  of3 : (x y z : ℕ) → 224 ≤ x → x < 240 → Second x y → Follows z → encode c ≡ x ∷ y ∷ z ∷ [] → Shape c
  of4 : (x y z w : ℕ) → 240 ≤ x → x ≤ 244 → Second x y → Follows z → Follows w → encode c ≡ x ∷ y ∷ z ∷ w ∷ [] → Shape c

follows : (x : ℕ) → Follows (next x)
follows x = (omega arith, omega arith)

shape_three : (c : ℕ) → (c < 55296) ⊎ ((57344 ≤ c) × (c < 1114112)) → 2048 ≤ c → c < 65536 → Shape c
shape_three c s l h = of3 (224 + c / 4096) (next (c / 64)) (next c) (omega arith) (omega arith)
    (record {
      follows = follows (c / 64);
      long = λ e. omega arith;
      low = λ e. elim s [ inl a ↦ omega arith | inr a ↦ absurd (omega arith) ];
      high = λ e. absurd (omega arith);
      last = λ e. absurd (omega arith);
    }) (follows c) (three c l h)

shape_four : (c : ℕ) → c < 1114112 → 65536 ≤ c → Shape c
shape_four c s l = of4 (240 + c / 262144) (next (c / 4096)) (next (c / 64)) (next c) (omega arith) (omega arith)
    (record {
      follows = follows (c / 4096);
      long = λ e. absurd (omega arith);
      low = λ e. absurd (omega arith);
      high = λ e. omega arith;
      last = λ e. omega arith;
    }) (follows (c / 64)) (follows c) (four c l)

top : (c : ℕ) → (c < 55296) ⊎ ((57344 ≤ c) × (c < 1114112)) → c < 1114112
top c (inl h) = omega arith
top c (inr h) = h.1

pub shape : (c : ℕ) → scalar c ≡ true → Shape c
shape c s = by (cases_lt c 128) (cases_lt c 2048) (cases_lt c 65536)
  where
    by : (c < 128) ⊎ (128 ≤ c) → (c < 2048) ⊎ (2048 ≤ c) → (c < 65536) ⊎ (65536 ≤ c) → Shape c
    by (inl h) _ _ = of1 (one c h)
    by (inr l) (inl h) _ = of2 (192 + c / 64) (next c) (omega arith) (omega arith) (follows c) (two c l h)
    by (inr _) (inr l) (inl h) = shape_three c (scalar_cases c s) l h
    by (inr _) (inr _) (inr l) = shape_four c (top c (scalar_cases c s)) l

-- bytes in these ranges are a character
pub text_of_two : (x y : ℕ) → 194 ≤ x → x < 224 → Follows y → IsUtf8 (x ∷ y ∷ [])
text_of_two x y l h f =
    let c : ℕ = (x - 192) * 64 + (y - 128) in
    let p : 192 + c / 64 ≡ x = omega arith in
    let q : next c ≡ y = omega arith in
    subst IsUtf8 (two c (omega arith) (omega arith) ∙ ap (λ a. a ∷ next c ∷ []) p ∙ ap (λ b. x ∷ b ∷ []) q)
    (IsUtf8-encode c (low_scalar c (omega arith)))

high_scalar : (c : ℕ) → 57344 ≤ c → c < 1114112 → scalar c ≡ true
high_scalar c l h = grind (arith, nat_tests)

-- what the first byte says where it is n, below n and above n
split : (x n : ℕ) (A : Type 0) → (x < n → A) → (x ≡ n → A) → (n < x → A) → A
split x n A f g h = elim (cases_lt x n) as (λ _. A) [
  | inl a ↦ f a
  | inr b ↦ elim (cases_lt n x) as (λ _. A) [ inl c ↦ h c | inr d ↦ g (omega arith) ]
]

gap_three : (x y z c : ℕ) → 224 ≤ x → x < 240 → Follows y → (x ≡ 237 → y < 160) → Follows z
    → c ≡ (x - 224) * 4096 + (y - 128) * 64 + (z - 128) → 55296 ≤ c → 57344 ≤ c
gap_three x y z c l h u low f e a =
    split x 237 (57344 ≤ c) (λ b. absurd (omega arith)) (λ b. absurd (omega (arith, low b))) (λ b. omega arith)

scalar_three : (x y z c : ℕ) → 224 ≤ x → x < 240 → Second x y → Follows z
    → c ≡ (x - 224) * 4096 + (y - 128) * 64 + (z - 128) → scalar c ≡ true
scalar_three x y z c l h s f e =
    let u : Follows y = s.follows in
    elim (cases_lt c 55296) [
      | inl a ↦ low_scalar c a
      | inr a ↦ high_scalar c (gap_three x y z c l h s.follows s.low f e a) (omega arith)
    ]

least_three : (x y z c : ℕ) → 224 ≤ x → (x ≡ 224 → 160 ≤ y)
    → c ≡ (x - 224) * 4096 + (y - 128) * 64 + (z - 128) → 2048 ≤ c
least_three x y z c l long e =
    split x 224 (2048 ≤ c) (λ b. absurd (omega arith)) (λ b. omega (arith, long b)) (λ b. omega arith)

least_four : (x y z w c : ℕ) → 240 ≤ x → (x ≡ 240 → 144 ≤ y)
    → c ≡ (x - 240) * 262144 + (y - 128) * 4096 + (z - 128) * 64 + (w - 128) → 65536 ≤ c
least_four x y z w c l high e =
    split x 240 (65536 ≤ c) (λ b. absurd (omega arith)) (λ b. omega (arith, high b)) (λ b. omega arith)

most_four : (x y z w c : ℕ) → x ≤ 244 → Follows y → Follows z → Follows w → (x ≡ 244 → y < 144)
    → c ≡ (x - 240) * 262144 + (y - 128) * 4096 + (z - 128) * 64 + (w - 128) → c < 1114112
most_four x y z w c h u f g last e =
    split x 244 (c < 1114112) (λ b. omega arith) (λ b. omega (arith, last b)) (λ b. absurd (omega arith))

pub text_of_three : (x y z : ℕ) → 224 ≤ x → x < 240 → Second x y → Follows z → IsUtf8 (x ∷ y ∷ z ∷ [])
text_of_three x y z l h s f =
    let u : Follows y = s.follows in
    let c : ℕ = (x - 224) * 4096 + (y - 128) * 64 + (z - 128) in
    let p : 224 + c / 4096 ≡ x = omega arith in
    let q : next (c / 64) ≡ y = omega arith in
    let r : next c ≡ z = omega arith in
    subst IsUtf8 (three c (least_three x y z c l s.long refl) (omega arith)
    ∙ ap (λ a. a ∷ next (c / 64) ∷ next c ∷ []) p ∙ ap (λ b. x ∷ b ∷ next c ∷ []) q ∙ ap (λ d. x ∷ y ∷ d ∷ []) r)
    (IsUtf8-encode c (scalar_three x y z c l h s f refl))

pub text_of_four : (x y z w : ℕ) → 240 ≤ x → x ≤ 244 → Second x y → Follows z → Follows w → IsUtf8 (x ∷ y ∷ z ∷ w ∷ [])
text_of_four x y z w l h s f g =
    let u : Follows y = s.follows in
    let c : ℕ = (x - 240) * 262144 + (y - 128) * 4096 + (z - 128) * 64 + (w - 128) in
    let least : 65536 ≤ c = least_four x y z w c l s.high refl in
    let p : 240 + c / 262144 ≡ x = omega arith in
    let q : next (c / 4096) ≡ y = omega arith in
    let e : c / 64 ≡ (x - 240) * 4096 + (y - 128) * 64 + (z - 128) = omega arith in
    let r : next (c / 64) ≡ z = subst (λ (m : ℕ). next m ≡ z) (sym e) (omega arith) in
    let t : next c ≡ w = omega arith in
    subst IsUtf8 (four c least ∙ ap (λ a. a ∷ next (c / 4096) ∷ next (c / 64) ∷ next c ∷ []) p
    ∙ ap (λ b. x ∷ b ∷ next (c / 64) ∷ next c ∷ []) q
    ∙ ap (λ d. x ∷ y ∷ d ∷ next c ∷ []) r ∙ ap (λ d. x ∷ y ∷ z ∷ d ∷ []) t)
    (IsUtf8-encode c (high_scalar c (omega arith) (most_four x y z w c h u f g s.last refl)))

-- std's test of the second byte says the same
in_range : (lo hi y : ℕ) → lo ≤ y → y ≤ hi → is_in_range lo hi y ≡ true
in_range lo hi y l h = grind (arith, nat_tests)

pub range_fact : (lo hi y : ℕ) → is_in_range lo hi y ≡ true → (lo ≤ y) × (y ≤ hi)
range_fact lo hi y e = (grind (arith, nat_tests), grind (arith, nat_tests))

pub first_in : (x : ℕ) → 194 ≤ x → x ≤ 244 → is_in_range 0xC2 0xF4 x ≡ true
first_in x l h = in_range 0xC2 0xF4 x l h

pub follows_in : (z : ℕ) → Follows z → is_in_range 0x80 0xBF z ≡ true
follows_in z f = in_range 0x80 0xBF z f.0 (omega (arith, f))

least_second : (x y : ℕ) → Second x y → second_byte_min x ≤ y
least_second x y s = grind (arith, nat_tests, s.follows, s.long, s.high)

most_second : (x y : ℕ) → Second x y → y ≤ second_byte_max x
most_second x y s = grind (arith, nat_tests, s.follows, s.low, s.last)

pub second_in : (x y : ℕ) → Second x y → is_in_range (second_byte_min x) (second_byte_max x) y ≡ true
second_in x y s = in_range (second_byte_min x) (second_byte_max x) y (least_second x y s) (most_second x y s)

least_fact : (x : ℕ) → (128 ≤ second_byte_min x) × (x ≡ 224 → second_byte_min x ≡ 160)
    × (x ≡ 240 → second_byte_min x ≡ 144)
least_fact x = (grind (arith, nat_tests), λ e. grind (arith, nat_tests), λ e. grind (arith, nat_tests))

most_fact : (x : ℕ) → (second_byte_max x < 192) × (x ≡ 237 → second_byte_max x ≡ 159)
    × (x ≡ 244 → second_byte_max x ≡ 143)
most_fact x = (grind (arith, nat_tests), λ e. grind (arith, nat_tests), λ e. grind (arith, nat_tests))

pub second_fact : (x y : ℕ) → is_in_range (second_byte_min x) (second_byte_max x) y ≡ true → Second x y
second_fact x y e =
    let r = range_fact (second_byte_min x) (second_byte_max x) y e in
    let least = least_fact x in
    let most = most_fact x in
    record {
      follows = (omega (arith, r, least), omega (arith, r, most));
      long = λ f. omega (arith, r, least.1 f);
      low = λ f. omega (arith, r, most.1 f);
      high = λ f. omega (arith, r, least.2 f);
      last = λ f. omega (arith, r, most.2 f);
    }

-- the least second byte may stand second
pub second_least : (x : ℕ) → Second x (second_byte_min x)
second_least x = second_fact x (second_byte_min x)
    (in_range (second_byte_min x) (second_byte_max x) (second_byte_min x) (omega arith) (grind (arith, nat_tests)))
