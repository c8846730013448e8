-- Faults that weigh the same, whatever each of them weighs, have the same first one, in whatever order they are met.
use Rattle.std.proofs.Common.{◌≡◌, inl, inr, ℕ, ◌+◌, ◌≤◌, List, [], ◌∷◌, ◌++◌, get_or, Bool, true, false, ◌||◌, Option, if◌then◌else◌, refl, sym, ap, ◌∙◌, subst, arith}
use Rattle.std.specs.List.{Contains}
use Rattle.std.proofs.lemmas.Bool.{cases_Bool, cases_lt, or_parts}
use Rattle.std.proofs.lemmas.List.Elements.{All-nil, All-cons, All-contains, Contains-get_or, Contains-append_right, Contains-append_cases}
use Rattle.erl_base.specs.declared.refusal.Refusal.{Refusal}
use Rattle.first_fault.specs.FirstFault.{rank, comes_before, IsFirst, first_with}
use Rattle.first_fault.proofs.First.{below_itself, unique, first_with_both}

-- what faults weigh
abbrev pub weight : (Refusal → ℕ) → List Refusal → ℕ
weight h [] = 0
weight h (x ∷ xs) = h x + weight h xs

pub weight_both : (h : Refusal → ℕ) (xs ys : List Refusal) → weight h (xs ++ ys) ≡ weight h xs + weight h ys
weight_both h [] ys = omega arith
weight_both h (x ∷ xs) ys = let e = weight_both h xs ys in omega (arith, e)

-- the same under every weight
pub record Even (xs ys : List Refusal) : Type 0 where
  pub at : (h : Refusal → ℕ) → weight h xs ≡ weight h ys

none_stands : (f : Refusal) → Contains [] f → ⊥
none_stands f h = let k = h.1 in omega (arith, k)

lone : (x f : Refusal) → Contains (x ∷ []) f → f ≡ x
lone x f h = All-contains (λ y. y ≡ x) (x ∷ []) f (All-cons (λ y. y ≡ x) x [] refl (All-nil (λ y. y ≡ x))) h

stands_here : (x : Refusal) (xs : List Refusal) → Contains (x ∷ xs) x
stands_here x xs = Contains-get_or (x ∷ xs) 0 x (omega arith)

weighs : (h : Refusal → ℕ) (xs : List Refusal) (f : Refusal) → Contains xs f → 1 ≤ h f → 1 ≤ weight h xs
weighs h [] f c k = absurd (none_stands f c)
weighs h (x ∷ xs) f c k = elim (Contains-append_cases (x ∷ []) xs f c) [
  | inl l ↦ let e = ap h (lone x f l) in omega (arith, e)
  | inr l ↦ let e = weighs h xs f l k in omega (arith, e)
]

-- one that weighs something
pub record Heavy (h : Refusal → ℕ) (xs : List Refusal) : Type 0 where
  pub fault : Refusal
  pub stands : Contains xs fault
  pub weighs : 1 ≤ h fault

heavy : (h : Refusal → ℕ) (xs : List Refusal) → 1 ≤ weight h xs → Heavy h xs
heavy h [] k = absurd (omega (arith, k))
heavy h (x ∷ xs) k = elim (cases_lt 0 (h x)) [
  | inl l ↦ record { fault = x; stands = stands_here x xs; weighs = omega (arith, l) }
  | inr l ↦
      let w = heavy h xs (omega (arith, k, l)) in
      record { fault = w.fault; stands = Contains-append_right (x ∷ []) xs w.fault w.stands; weighs = w.weighs }
]

-- one for what passes a test
abbrev one_if : Bool → ℕ
one_if true = 1
one_if false = 0

passes : (b : Bool) → 1 ≤ one_if b → b ≡ true
passes true k = refl
passes false k = absurd (omega (arith, k))

one_at : (b : Bool) → b ≡ true → 1 ≤ one_if b
one_at true e = omega arith
one_at false e = absurd cc

one_not : (b : Bool) → 1 ≤ one_if (if b then false else true) → b ≡ false
one_not true k = absurd (omega (arith, k))
one_not false k = refl

at_none : (b : Bool) → b ≡ false → 1 ≤ one_if (if b then false else true)
at_none true e = absurd cc
at_none false e = omega arith

two_first : (f g : Refusal) → comes_before g f ≡ false → IsFirst (f ∷ g ∷ []) f
two_first f g e = record {
  stands = stands_here f (g ∷ []);
  least = All-cons (λ other. comes_before other f ≡ false) f (g ∷ []) (below_itself (rank f))
      (All-cons (λ other. comes_before other f ≡ false) g [] e (All-nil (λ other. comes_before other f ≡ false)));
}

second_first : (f g : Refusal) → comes_before f g ≡ false → IsFirst (f ∷ g ∷ []) g
second_first f g e = record {
  stands = Contains-append_right (f ∷ []) (g ∷ []) g (stands_here g []);
  least = All-cons (λ other. comes_before other g ≡ false) f (g ∷ []) e
      (All-cons (λ other. comes_before other g ≡ false) g [] (below_itself (rank g))
      (All-nil (λ other. comes_before other g ≡ false)));
}

one_place : (f g : Refusal) → comes_before g f ≡ false → comes_before f g ≡ false → f ≡ g
one_place f g e k = unique (f ∷ g ∷ []) f g (two_first f g e) (second_first f g k)

-- beside f in the order of faults
abbrev beside : Refusal → Refusal → Bool
beside f g = comes_before g f || comes_before f g

not_before : (xs ys : List Refusal) (f other : Refusal) → Even xs ys → IsFirst xs f → Contains ys other
    → comes_before other f ≡ false
not_before xs ys f other v w c = elim (cases_Bool (comes_before other f)) [
  | inl e ↦
      let k = weighs (λ g. one_if (comes_before g f)) ys other c (one_at (comes_before other f) e) in
      let s = v.at (λ g. one_if (comes_before g f)) in
      let x = heavy (λ g. one_if (comes_before g f)) xs (omega (arith, k, s)) in
      let l = All-contains (λ g. comes_before g f ≡ false) xs x.fault w.least x.stands in
      let p = passes (comes_before x.fault f) x.weighs in
      absurd cc
  | inr e ↦ e
]

stands_too : (xs ys : List Refusal) (f : Refusal) → Even xs ys → IsFirst xs f → Contains ys f
stands_too xs ys f v w =
    let itself : beside f f ≡ false = (λ i. below_itself (rank f) i || below_itself (rank f) i) in
    let k = weighs (λ g. one_if (if beside f g then false else true)) xs f w.stands (at_none (beside f f) itself) in
    let s = v.at (λ g. one_if (if beside f g then false else true)) in
    let x = heavy (λ g. one_if (if beside f g then false else true)) ys (omega (arith, k, s)) in
    let n = or_parts (comes_before x.fault f) (comes_before f x.fault) (one_not (beside f x.fault) x.weighs) in
    subst (λ g. Contains ys g) (sym (one_place f x.fault n.0 n.1)) x.stands

pub first_of_even : (xs ys : List Refusal) (f : Refusal) → Even xs ys → IsFirst xs f → IsFirst ys f
first_of_even xs ys f v w = record {
  stands = stands_too xs ys f v w;
  least = λ k d l. not_before xs ys f (get_or ys k d) v w (Contains-get_or ys k d l);
}

pub none_of_even : (xs ys : List Refusal) → Even xs ys → xs ≡ [] → ys ≡ []
none_of_even xs [] v e = refl
none_of_even xs (y ∷ ys) v e =
    let k = v.at (λ g. 1) in let l = ap (weight (λ g. 1)) e in absurd (omega (arith, k, l))

-- What a stretch of the way does: from o, these faults lead to t.
pub record Meets (o t : Option Refusal) (faults : List Refusal) : Type 0 where
  pub met : List Refusal
  pub first : t ≡ first_with o met
  pub even : (h : Refusal → ℕ) → weight h met ≡ weight h faults

pub told : (o : Option Refusal) (xs : List Refusal) → Meets o (first_with o xs) xs
told o xs = record { met = xs; first = refl; even = λ h. refl }

pub onward : {o t u : Option Refusal} {xs ys : List Refusal} → Meets o t xs → Meets t u ys → Meets o u (xs ++ ys)
onward {o} {t} {u} {xs} {ys} v w = record {
  met = v.met ++ w.met;
  first = w.first ∙ ap (λ r. first_with r w.met) v.first ∙ sym (first_with_both o v.met w.met);
  even = λ h.
      let a = v.even h in let b = w.even h in
      let c = weight_both h v.met w.met in let d = weight_both h xs ys in omega (arith, a, b, c, d);
}

-- in another order
pub turned : {o t : Option Refusal} {xs ys : List Refusal} → Meets o t xs → Even xs ys → Meets o t ys
turned {o} {t} {xs} {ys} v e = record { met = v.met; first = v.first; even = λ h. v.even h ∙ e.at h }

-- to a result that is the same
pub ends : {o t u : Option Refusal} {xs : List Refusal} → Meets o t xs → u ≡ t → Meets o u xs
ends {o} {t} {u} {xs} v e = record { met = v.met; first = e ∙ v.first; even = v.even }
