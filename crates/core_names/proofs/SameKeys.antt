-- Names and keys that are the same.
use Rattle.std.proofs.Common.{◌≡◌, inl, inr, ℕ, [], ◌∷◌, true, ◌&&◌, eqb, refl, sym, ap₂, ◌∙◌, eq-eqb, ne_eqb, eqb-true}
use Rattle.std.proofs.lemmas.Bool.{cases_eq, and_parts}
use Rattle.erl_base.specs.Names.{Name, same_name, same_key}
use Rattle.erl_base.specs.declared.ids.FunKey.{FunKey}

eqb_turned : (a b : ℕ) → eqb a b ≡ eqb b a
eqb_turned a b = elim (cases_eq a b) [
  | inl e ↦ eq-eqb a b e ∙ sym (eq-eqb b a (sym e))
  | inr n ↦ ne_eqb a b n ∙ sym (ne_eqb b a (λ e. n (sym e)))
]

pub name_turned : (x y : Name) → same_name x y ≡ same_name y x
name_turned [] [] = refl
name_turned [] (y ∷ ys) = refl
name_turned (x ∷ xs) [] = refl
name_turned (x ∷ xs) (y ∷ ys) = ap₂ (λ a b. a && b) (eqb_turned x y) (name_turned xs ys)

pub name_itself : (x : Name) → same_name x x ≡ true
name_itself [] = refl
name_itself (x ∷ xs) = ap₂ (λ a b. a && b) (eq-eqb x x refl) (name_itself xs)

pub one_name : (x y : Name) → same_name x y ≡ true → x ≡ y
one_name [] [] e = refl
one_name [] (y ∷ ys) e = absurd cc
one_name (x ∷ xs) [] e = absurd cc
one_name (x ∷ xs) (y ∷ ys) e =
    let w = and_parts (eqb x y) (same_name xs ys) e in
    ap₂ (λ z zs. z ∷ zs) (eqb-true x y w.0) (one_name xs ys w.1)

pub key_turned : (f g : FunKey) → same_key f g ≡ same_key g f
key_turned f g = ap₂ (λ a b. a && b) (name_turned f.name g.name) (eqb_turned f.arity g.arity)

pub key_itself : (f : FunKey) → same_key f f ≡ true
key_itself f = ap₂ (λ a b. a && b) (name_itself f.name) (eq-eqb f.arity f.arity refl)

pub one_key : (f g : FunKey) → same_key f g ≡ true → f ≡ g
one_key f g e =
    let w = and_parts (same_name f.name g.name) (eqb f.arity g.arity) e in
    ap₂ (λ n k. let h : FunKey = record { name = n; arity = k } in h) (one_name f.name g.name w.0)
    (eqb-true f.arity g.arity w.1)
