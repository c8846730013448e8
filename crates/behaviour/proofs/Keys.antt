-- Names and keys that test the same are the same.
use Rattle.std.proofs.Common.{◌≡◌, ◌≢◌, ◌&&◌, ◌||◌, [], ◌∷◌, Bool, true, false, Option, Some, None, refl, sym, ap, ap₂, ◌∙◌, subst, eqb}
use Rattle.std.proofs.lemmas.Bool.{eq-eqb, eqb-true}
use Rattle.erl_base.specs.Names.{Name, same_name, same_key}
use Rattle.erl_base.specs.declared.ids.FunKey.{FunKey}

pub and_true : (a b : Bool) → (a && b) ≡ true → (a ≡ true) × (b ≡ true)
and_true true true e = (refl, refl)
and_true true false e = absurd cc
and_true false b e = absurd cc

pub or_false : (a b : Bool) → (a || b) ≡ false → (a ≡ false) × (b ≡ false)
or_false true b e = absurd cc
or_false false b e = (refl, e)

pub same_name_is : (x y : Name) → same_name x y ≡ true → x ≡ y
same_name_is [] [] e = refl
same_name_is [] (b ∷ y) e = absurd cc
same_name_is (a ∷ x) [] e = absurd cc
same_name_is (a ∷ x) (b ∷ y) e =
    let w = and_true (eqb a b) (same_name x y) e in ap₂ (λ c z. c ∷ z) (eqb-true a b w.0) (same_name_is x y w.1)

pub same_name_itself : (x : Name) → same_name x x ≡ true
same_name_itself [] = refl
same_name_itself (a ∷ x) = ap (λ b. b && same_name x x) (eq-eqb a a refl) ∙ same_name_itself x

pub same_key_is : (f g : FunKey) → same_key f g ≡ true → f ≡ g
same_key_is f g e =
    let w = and_true (same_name f.name g.name) (eqb f.arity g.arity) e in
    ap₂ (λ n k. let h : FunKey = record { name = n; arity = k } in h) (same_name_is f.name g.name w.0)
    (eqb-true f.arity g.arity w.1)

pub same_key_itself : (f : FunKey) → same_key f f ≡ true
same_key_itself f = ap (λ b. b && eqb f.arity f.arity) (same_name_itself f.name) ∙ eq-eqb f.arity f.arity refl

not_both : (b : Bool) → b ≡ true → b ≡ false → ⊥
not_both b t f = let d : true ≡ false = sym t ∙ f in cc

pub other_key : (f g : FunKey) → f ≢ g → same_key f g ≡ false
other_key f g n = go (same_key f g) refl
  where
    go : (b : Bool) → same_key f g ≡ b → same_key f g ≡ false
    go true e = absurd (n (same_key_is f g e))
    go false e = e

pub keys_differ : (f g : FunKey) → same_key f g ≡ false → f ≢ g
keys_differ f g e q = not_both (same_key f g) (subst (λ h. same_key f h ≡ true) q (same_key_itself f)) e

pub some_is : {A : Type 0} (a b : A) → Some a ≡ Some b → a ≡ b
some_is {A} a b e = ap (λ o. get o) e
  where
    get : Option A → A
    get None = a
    get (Some c) = c
