-- The longest front that is text.
use Rattle.std.proofs.Common.{◌≡◌, ℕ, zero, suc, ◌+◌, ◌-◌, ◌<◌, ◌≤◌, List, [], ◌++◌, length, take, drop, Bool, true, false, refl, sym, ap, ◌∙◌, subst, is_some, arith, IsUtf8, if◌then◌else◌, inl, inr, length-append}
use Rattle.std.proofs.lemmas.List.{drop_all, take_all, take_at, drop_at}
use Rattle.std.proofs.Math.Seq.{take-append-add}
use Rattle.std.proofs.lemmas.Bool.{cases_lt}
use Rattle.std.proofs.lemmas.Str.{IsUtf8-nil, IsUtf8-append, IsUtf8-drop, IsUtf8-from_is_utf8, is_utf8-from_IsUtf8, IsCharBoundary-from_take, utf8_valid_len-IsValidUpTo, utf8_valid_len-IsUtf8, utf8_valid_len_le}
use Rattle.std.specs.Str.{is_utf8}
use Rattle.std.specs.Str.Lossy.{utf8_valid_len, valid_len_up_to, utf8_error_len}

none_of_nil : is_some (utf8_error_len []) ≡ false
unfolding utf8_error_len
none_of_nil = refl

-- nothing is at fault behind the whole
pub no_error : (bs : List ℕ) → false ≡ is_some (utf8_error_len (drop (length bs) bs))
no_error bs = sym (ap (λ x. is_some (utf8_error_len x)) (drop_all (length bs) bs (omega arith)) ∙ none_of_nil)

-- behind a text only a text makes a text
pub text_behind : (a b : List ℕ) → IsUtf8 a → IsUtf8 (a ++ b) → IsUtf8 b
text_behind a b u v =
    subst IsUtf8 (drop_at a b (length a) refl)
    (IsUtf8-drop (a ++ b) (length a) v
    (IsCharBoundary-from_take (a ++ b) (length a) v (omega (arith, length-append a b))
    (subst IsUtf8 (sym (take_at a b (length a) refl)) u)))

chosen_front : (bs : List ℕ) (n : ℕ) (b : Bool) → is_utf8 (take (suc n) bs) ≡ b
    → IsUtf8 (take (valid_len_up_to bs n) bs) → IsUtf8 (take (if b then suc n else valid_len_up_to bs n) bs)
chosen_front bs n true e u = IsUtf8-from_is_utf8 (take (suc n) bs) e
chosen_front bs n false e u = u

front_up_to : (bs : List ℕ) (n : ℕ) → IsUtf8 (take (valid_len_up_to bs n) bs)
front_up_to bs zero = IsUtf8-nil
front_up_to bs (suc n) = chosen_front bs n (is_utf8 (take (suc n) bs)) refl (front_up_to bs n)

pub front : (bs : List ℕ) → IsUtf8 (take (utf8_valid_len bs) bs)
unfolding utf8_valid_len
front bs = front_up_to bs (length bs)

chosen_longest : (bs : List ℕ) (n m : ℕ) (b : Bool) → is_utf8 (take (suc n) bs) ≡ b
    → (if b then suc n else valid_len_up_to bs n) < m → m ≤ suc n → IsUtf8 (take m bs)
    → (valid_len_up_to bs n < m → m ≤ n → IsUtf8 (take m bs) → ⊥) → ⊥
chosen_longest bs n m true e l h u before = omega arith
chosen_longest bs n m false e l h u before = elim (cases_lt n m) as (λ _. ⊥) [
  | inl a ↦ let whole : m ≡ suc n = omega arith in
      let yes : is_utf8 (take (suc n) bs) ≡ true =
      is_utf8-from_IsUtf8 (take (suc n) bs) (subst (λ k. IsUtf8 (take k bs)) whole u) in cc
  | inr b ↦ before l b u
]

longest_up_to : (bs : List ℕ) (n m : ℕ) → valid_len_up_to bs n < m → m ≤ n → IsUtf8 (take m bs) → ⊥
longest_up_to bs zero m l h u = omega arith
longest_up_to bs (suc n) m l h u = chosen_longest bs n m (is_utf8 (take (suc n) bs)) refl l h u (longest_up_to bs n m)

within : (bs : List ℕ) (m : ℕ) → utf8_valid_len bs < m → m ≤ length bs → IsUtf8 (take m bs) → ⊥
unfolding utf8_valid_len
within bs m l h u = longest_up_to bs (length bs) m l h u

pub longest : (bs : List ℕ) (m : ℕ) → utf8_valid_len bs < length bs → utf8_valid_len bs < m → IsUtf8 (take m bs) → ⊥
longest bs m s l u = elim (cases_lt (length bs) m) as (λ _. ⊥) [
  | inl a ↦ within bs (length bs) s (omega arith)
      (subst IsUtf8 (take_all m bs (omega arith) ∙ sym (take_all (length bs) bs (omega arith))) u)
  | inr b ↦ within bs m l b u
]

take_past : (a b : List ℕ) (m : ℕ) → length a ≤ m → take m (a ++ b) ≡ a ++ take (m - length a) b
take_past a b m h = ap (λ n. take n (a ++ b)) (let e : m ≡ length a + (m - length a) = omega arith in e)
    ∙ take-append-add a b (m - length a)

-- behind a text the longest front goes on with that of the rest
pub after_text : (a b : List ℕ) → IsUtf8 a → utf8_valid_len (a ++ b) ≡ length a + utf8_valid_len b
after_text a b u = elim (cases_lt (utf8_valid_len b) (length b)) as (λ _. utf8_valid_len (a ++ b)
    ≡ length a + utf8_valid_len b) [
      | inl s ↦ utf8_valid_len-IsValidUpTo (a ++ b) (length a + utf8_valid_len b) (record {
        short = omega (arith, length-append a b);
        front = subst IsUtf8 (sym (take-append-add a b (utf8_valid_len b)))
            (IsUtf8-append a (take (utf8_valid_len b) b) u (front b));
        longest = λ m l v. longest b (m - length a) s (omega arith)
            (text_behind a (take (m - length a) b) u (subst IsUtf8 (take_past a b m (omega arith)) v));
      })
      | inr s ↦
          let all : take (utf8_valid_len b) b ≡ b = take_all (utf8_valid_len b) b s in
          utf8_valid_len-IsUtf8 (a ++ b) (IsUtf8-append a b u (subst IsUtf8 all (front b))) ∙ length-append a b
          ∙ ap (λ n. length a + n) (let e : length b ≡ utf8_valid_len b = omega (arith, utf8_valid_len_le b) in e)
    ]
