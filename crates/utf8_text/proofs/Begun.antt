-- Which bytes behind a text go on as text, and which never do.
use Rattle.std.proofs.Common.{◌≡◌, ℕ, ◌<◌, ◌≤◌, Bool, true, false, cond, Option, Some, None, List, [], ◌∷◌, ◌++◌, length, take, drop, refl, sym, ap, ◌∙◌, subst, arith, IsUtf8, inl, inr, eqb, ltb, ◌&&◌, encode_utf8_all, append_assoc}
use Rattle.std.proofs.lemmas.Bool.{cases_lt}
use Rattle.std.proofs.lemmas.Bool.Decides.{nat_tests}
use Rattle.std.proofs.lemmas.List.{take-append-drop}
use Rattle.std.proofs.lemmas.Str.{IsUtf8-nil, IsUtf8-encode}
use Rattle.std.specs.Str.Lossy.{utf8_error_len, second_byte_min}
use lib.Utf8.{encode, scalar, scalars}
use Rattle.utf8_text.specs.Utf8Text.{BeginsText}
use Rattle.utf8_text.proofs.Encoded.{Follows, Second, Shape, of1, of2, of3, of4, shape, text_of_two, text_of_three, text_of_four, first_in, follows_in, second_in, range_fact, second_fact, second_least}

-- no front of the bytes is text
pub record NoFront (rest : List ℕ) : Type 0 where
  pub none : (m : ℕ) → 0 < m → m ≤ length rest → IsUtf8 (take m rest) → ⊥

low : Follows 128
low = (omega arith, omega arith)

opens : (b : Bool) (x : Option ℕ) (n : ℕ) → cond b x (Some n) ≡ None → (b ≡ true) × (x ≡ None)
opens true x n e = (refl, e)
opens false x n e = absurd cc

after_one : (x : ℕ) → 194 ≤ x → x ≤ 244 → BeginsText (x ∷ [])
after_one x l h = elim (cases_lt x 224) as (λ _. BeginsText (x ∷ [])) [
  | inl a ↦ (128 ∷ [], text_of_two x 128 l a low)
  | inr a ↦ elim (cases_lt x 240) as (λ _. BeginsText (x ∷ [])) [
    | inl b ↦ (second_byte_min x ∷ 128 ∷ [], text_of_three x (second_byte_min x) 128 a b (second_least x) low)
    | inr b ↦ (
      second_byte_min x ∷ 128 ∷ 128 ∷ [],
      text_of_four x (second_byte_min x) 128 128 b h
          (second_least x) low low,
    )
  ]
]

after_two : (x y : ℕ) → 194 ≤ x → x ≤ 244 → Second x y → BeginsText (x ∷ y ∷ [])
after_two x y l h s = elim (cases_lt x 224) as (λ _. BeginsText (x ∷ y ∷ [])) [
  | inl a ↦ ([], text_of_two x y l a s.follows)
  | inr a ↦ elim (cases_lt x 240) as (λ _. BeginsText (x ∷ y ∷ [])) [
    | inl b ↦ (128 ∷ [], text_of_three x y 128 a b s low)
    | inr b ↦ (128 ∷ 128 ∷ [], text_of_four x y 128 128 b h s low low)
  ]
]

after_three : (x y z : ℕ) → NoFront (x ∷ y ∷ z ∷ []) → 194 ≤ x → x ≤ 244 → Second x y → Follows z
    → BeginsText (x ∷ y ∷ z ∷ [])
after_three x y z none l h s f = elim (cases_lt x 224) as (λ _. BeginsText (x ∷ y ∷ z ∷ [])) [
  | inl a ↦ absurd (none.none 2 (omega arith) (omega arith) (text_of_two x y l a s.follows))
  | inr a ↦ elim (cases_lt x 240) as (λ _. BeginsText (x ∷ y ∷ z ∷ [])) [
    | inl b ↦ ([], text_of_three x y z a b s f)
    | inr b ↦ (128 ∷ [], text_of_four x y z 128 b h s f low)
  ]
]

never : (b0 b2 b3 b4 p q r : Bool) → b0 ≡ false → b2 ≡ false → b3 ≡ false → b4 ≡ false
    → cond {A = Option ℕ} b0 None
    (cond p (cond b2 None (cond q (cond b3 None (cond r (cond b4 None (Some 3)) (Some 2))) (Some 1))) (Some 1)) ≡ None
    → ⊥
never true b2 b3 b4 p q r e0 e2 e3 e4 e = cc
never false true b3 b4 p q r e0 e2 e3 e4 e = cc
never false false true b4 p q r e0 e2 e3 e4 e = cc
never false false false true p q r e0 e2 e3 e4 e = cc
never false false false false false q r e0 e2 e3 e4 e = cc
never false false false false true false r e0 e2 e3 e4 e = cc
never false false false false true true false e0 e2 e3 e4 e = cc
never false false false false true true true e0 e2 e3 e4 e = cc

not_zero : (n : ℕ) → 4 ≤ n → eqb n 0 ≡ false
not_zero n h = grind (arith, nat_tests)

not_below : (m n : ℕ) → n ≤ m → ltb m n ≡ false
not_below m n h = grind (arith, nat_tests)

-- bytes behind a text with no fault begin a text
pub completes : (rest : List ℕ) → NoFront rest → utf8_error_len rest ≡ None → BeginsText rest
unfolding utf8_error_len
completes [] f e = ([], IsUtf8-nil)
completes (x ∷ []) f e =
    let o = opens _ _ _ e in
    let r = range_fact 0xC2 0xF4 x o.0 in after_one x r.0 r.1
completes (x ∷ y ∷ []) f e =
    let o = opens _ _ _ e in
    let r = range_fact 0xC2 0xF4 x o.0 in
    let p = opens _ _ _ o.1 in after_two x y r.0 r.1 (second_fact x y p.0)
completes (x ∷ y ∷ z ∷ []) f e =
    let o = opens _ _ _ e in
    let r = range_fact 0xC2 0xF4 x o.0 in
    let p = opens _ _ _ o.1 in
    let q = opens _ _ _ p.1 in
    let t = range_fact 0x80 0xBF z q.0 in
    after_three x y z f r.0 r.1 (second_fact x y p.0) (t.0, omega (arith, t))
completes (x ∷ y ∷ z ∷ w ∷ more) f e =
    let n : ℕ = length (x ∷ y ∷ z ∷ w ∷ more) in
    let h : 4 ≤ n = omega arith in
    absurd (never _ _ _ _ _ _ _ (not_zero n h) (not_below n 2 (omega arith)) (not_below n 3 (omega arith))
    (not_below n 4 h) e)

closed_one : (p : Bool) (k : ℕ) → p ≡ true → cond p None (Some 1) ≡ Some k → ⊥
closed_one true k e h = cc
closed_one false k e h = cc

closed_two : (p q : Bool) (k : ℕ) → p ≡ true → q ≡ true → cond p (cond q None (Some 1)) (Some 1) ≡ Some k → ⊥
closed_two true true k e f h = cc
closed_two true false k e f h = cc
closed_two false q k e f h = cc

closed_three : (p q r : Bool) (k : ℕ) → p ≡ true → q ≡ true → r ≡ true
    → cond p (cond q (cond r None (Some 2)) (Some 1)) (Some 1) ≡ Some k → ⊥
closed_three true true true k e f g h = cc
closed_three true true false k e f g h = cc
closed_three true false r k e f g h = cc
closed_three false q r k e f g h = cc

-- bytes behind a text with a fault begin with no character: a front would be text, or nothing would be at fault
whole_one : (rest more t : List ℕ) (k x : ℕ) → NoFront rest → utf8_error_len rest ≡ Some k → IsUtf8 (x ∷ [])
    → rest ++ more ≡ x ∷ t → ⊥
unfolding utf8_error_len
whole_one [] more t k x f e u same = cc
whole_one (a ∷ rest) more t k x f e u same =
    let p : x ≡ a = cc in
    f.none 1 (omega arith) (omega arith) (subst (λ b. IsUtf8 (b ∷ [])) p u)

whole_two : (rest more t : List ℕ) (k x y : ℕ) → NoFront rest → utf8_error_len rest ≡ Some k → 194 ≤ x → x < 224
    → Follows y → rest ++ more ≡ x ∷ y ∷ t → ⊥
unfolding utf8_error_len
whole_two [] more t k x y f e l h u same = cc
whole_two (a ∷ []) more t k x y f e l h u same =
    let p : x ≡ a = cc in closed_one _ k (first_in a (omega arith) (omega arith)) e
whole_two (a ∷ b ∷ rest) more t k x y f e l h u same =
    let p : x ≡ a = cc in let q : y ≡ b = cc in
    f.none 2 (omega arith) (omega arith) (text_of_two a b (omega arith) (omega arith) (subst Follows q u))

whole_three : (rest more t : List ℕ) (k x y z : ℕ) → NoFront rest → utf8_error_len rest ≡ Some k → 224 ≤ x → x < 240
    → Second x y → Follows z → rest ++ more ≡ x ∷ y ∷ z ∷ t → ⊥
unfolding utf8_error_len
whole_three [] more t k x y z f e l h s u same = cc
whole_three (a ∷ []) more t k x y z f e l h s u same =
    let p : x ≡ a = cc in closed_one _ k (first_in a (omega arith) (omega arith)) e
whole_three (a ∷ b ∷ []) more t k x y z f e l h s u same =
    let p : x ≡ a = cc in let q : y ≡ b = cc in
    closed_two _ _ k (first_in a (omega arith) (omega arith))
    (second_in a b (subst (λ m. Second m b) p (subst (Second x) q s))) e
whole_three (a ∷ b ∷ d ∷ rest) more t k x y z f e l h s u same =
    let p : x ≡ a = cc in let q : y ≡ b = cc in let r : z ≡ d = cc in
    f.none 3 (omega arith) (omega arith)
    (text_of_three a b d (omega arith) (omega arith) (subst (λ m. Second m b) p (subst (Second x) q s))
    (subst Follows r u))

whole_four : (rest more t : List ℕ) (k x y z w : ℕ) → NoFront rest → utf8_error_len rest ≡ Some k → 240 ≤ x → x ≤ 244
    → Second x y → Follows z → Follows w → rest ++ more ≡ x ∷ y ∷ z ∷ w ∷ t → ⊥
unfolding utf8_error_len
whole_four [] more t k x y z w f e l h s u v same = cc
whole_four (a ∷ []) more t k x y z w f e l h s u v same =
    let p : x ≡ a = cc in closed_one _ k (first_in a (omega arith) (omega arith)) e
whole_four (a ∷ b ∷ []) more t k x y z w f e l h s u v same =
    let p : x ≡ a = cc in let q : y ≡ b = cc in
    closed_two _ _ k (first_in a (omega arith) (omega arith))
    (second_in a b (subst (λ m. Second m b) p (subst (Second x) q s))) e
whole_four (a ∷ b ∷ d ∷ []) more t k x y z w f e l h s u v same =
    let p : x ≡ a = cc in let q : y ≡ b = cc in let r : z ≡ d = cc in
    closed_three _ _ _ k (first_in a (omega arith) (omega arith))
    (second_in a b (subst (λ m. Second m b) p (subst (Second x) q s))) (follows_in d (subst Follows r u)) e
whole_four (a ∷ b ∷ d ∷ g ∷ rest) more t k x y z w f e l h s u v same =
    let p : x ≡ a = cc in let q : y ≡ b = cc in let r : z ≡ d = cc in let o : w ≡ g = cc in
    f.none 4 (omega arith) (omega arith)
    (text_of_four a b d g (omega arith) (omega arith) (subst (λ m. Second m b) p (subst (Second x) q s))
    (subst Follows r u) (subst Follows o v))

begins_with : (rest more t : List ℕ) (k c : ℕ) → NoFront rest → utf8_error_len rest ≡ Some k → IsUtf8 (encode c)
    → Shape c → rest ++ more ≡ encode c ++ t → ⊥
begins_with rest more t k c f e u (of1 s) same =
    whole_one rest more t k c f e (subst IsUtf8 s u) (same ∙ ap (λ b. b ++ t) s)
begins_with rest more t k c f e u (of2 x y l h g s) same =
    whole_two rest more t k x y f e l h g (same ∙ ap (λ b. b ++ t) s)
begins_with rest more t k c f e u (of3 x y z l h g v s) same =
    whole_three rest more t k x y z f e l h g v (same ∙ ap (λ b. b ++ t) s)
begins_with rest more t k c f e u (of4 x y z w l h g v o s) same =
    whole_four rest more t k x y z w f e l h g v o (same ∙ ap (λ b. b ++ t) s)

left_and : (a b : Bool) → a && b ≡ true → a ≡ true
left_and true b e = refl
left_and false b e = cc

-- whatever follows them, no front of them is text
no_text : (rest more cs : List ℕ) (k m : ℕ) → NoFront rest → utf8_error_len rest ≡ Some k
    → 0 < length (take m (rest ++ more)) → scalars cs ≡ true → encode_utf8_all cs ≡ take m (rest ++ more) → ⊥
no_text rest more [] k m f e h s same = let z : 0 ≡ length (take m (rest ++ more)) = ap length same in omega arith
no_text rest more (c ∷ cs) k m f e h s same =
    let one : scalar c ≡ true = left_and (scalar c) (scalars cs) s in
    begins_with rest more (encode_utf8_all cs ++ drop m (rest ++ more)) k c f e (IsUtf8-encode c one) (shape c one)
    (sym (take-append-drop m (rest ++ more)) ∙ ap (λ b. b ++ drop m (rest ++ more)) (sym same)
    ∙ append_assoc (encode c) (encode_utf8_all cs) (drop m (rest ++ more)))

pub no_front : (rest more : List ℕ) (k m : ℕ) → NoFront rest → utf8_error_len rest ≡ Some k
    → 0 < length (take m (rest ++ more)) → IsUtf8 (take m (rest ++ more)) → ⊥
no_front rest more k m f e h (cs, (s, same)) = no_text rest more cs k m f e h s same
