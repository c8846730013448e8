-- Names of one length are the same where each character is.
use Rattle.std.proofs.Common.{◌≡◌, ◌≢◌, ℕ, zero, suc, ◌+◌, ◌≤◌, ◌<◌, refl, sym, ap, ap₂, ◌∙◌, List, [], ◌∷◌, length, get_or, drop, arith, Bool, true, false, ◌&&◌, eqb}
use Rattle.std.proofs.lemmas.List.{drop_more}
use borrow.Author.Tests.{eq-eqb, ne_eqb}
use Rattle.erl_base.specs.Names.{same_name}

pub lengths_differ : (x y : List ℕ) → length x ≢ length y → false ≡ same_name x y
lengths_differ [] [] n = absurd (n refl)
lengths_differ [] (b ∷ y) n = refl
lengths_differ (a ∷ x) [] n = refl
lengths_differ (a ∷ x) (b ∷ y) n = and_false (eqb a b) (same_name x y) (lengths_differ x y (λ e. n (ap suc e)))
  where
    and_false : (b c : Bool) → false ≡ c → false ≡ (b && c)
    and_false true c e = e
    and_false false c e = refl

opened : (x y : List ℕ) (i : ℕ) → i < length x → i < length y
    → same_name (drop i x) (drop i y)
    ≡ (eqb (get_or x i 0) (get_or y i 0) && same_name (drop (i + 1) x) (drop (i + 1) y))
opened x y i h g = ap₂ same_name (drop_more x i 0 h) (drop_more y i 0 g)

pub one_same : (x y : List ℕ) (i : ℕ) → i < length x → i < length y → get_or x i 0 ≡ get_or y i 0
    → same_name (drop (i + 1) x) (drop (i + 1) y) ≡ same_name (drop i x) (drop i y)
one_same x y i h g e =
    sym (opened x y i h g ∙ ap (λ b. b && same_name (drop (i + 1) x) (drop (i + 1) y))
    (eq-eqb (get_or x i 0) (get_or y i 0) e))

pub one_differs : (x y : List ℕ) (i : ℕ) → i < length x → i < length y → get_or x i 0 ≢ get_or y i 0
    → false ≡ same_name (drop i x) (drop i y)
one_differs x y i h g n =
    sym (opened x y i h g ∙ ap (λ b. b && same_name (drop (i + 1) x) (drop (i + 1) y))
    (ne_eqb (get_or x i 0) (get_or y i 0) n))

pub all_same : (x y : List ℕ) (i : ℕ) → length x ≡ length y → length x ≤ i → true ≡ same_name (drop i x) (drop i y)
all_same [] [] zero e h = refl
all_same [] (b ∷ y) i e h = absurd (omega (arith, e))
all_same (a ∷ x) y zero e h = absurd (omega (arith, h))
all_same [] [] (suc i) e h = refl
all_same (a ∷ x) [] (suc i) e h = absurd (omega (arith, e))
all_same (a ∷ x) (b ∷ y) (suc i) e h = all_same x y i (omega (arith, e)) (omega (arith, h))

pub ruleset names = (lengths_differ, one_same, one_differs, all_same)
