-- Points that are listed, and what is tested of each of them.
use Rattle.std.proofs.Common.{◌≡◌, ◌⊎◌, inl, inr, ⊎_elim, ℕ, zero, suc, List, [], ◌∷◌, ◌++◌, Bool, true, false, not, ◌&&◌, ◌||◌, eqb, Contains, refl, sym, ap, ◌∙◌, subst, arith}
use Rattle.std.proofs.lemmas.Bool.{eqb-true}
use Rattle.erl_base.specs.Lists.{among}
use Rattle.ssa_form.specs.SetFacts.{all_among}
use Rattle.ssa_form.specs.Flow.{Point}

pub both : (a b : Bool) → (a && b) ≡ true → (a ≡ true) × (b ≡ true)
both true b e = (refl, e)
both false b e = absurd cc

pub one_of : (a b : Bool) → (a || b) ≡ true → (a ≡ true) ⊎ (b ≡ true)
one_of true b e = inl refl
one_of false b e = inr e

pub other : (a b : Bool) → (a || b) ≡ true → a ≡ false → b ≡ true
other true b e f = absurd cc
other false b e f = e

pub implied : (a b : Bool) → (not a || b) ≡ true → a ≡ true → b ≡ true
implied true b e f = e
implied false b e f = absurd cc

pub is_false : (a : Bool) → not a ≡ true → a ≡ false
is_false true e = absurd cc
is_false false e = refl

pub contradicts : {A : Type 0} (a : Bool) → a ≡ true → a ≡ false → A
contradicts true e f = absurd cc
contradicts false e f = absurd cc

abbrev pub holds_all : {A : Type 0} → (A → Bool) → List A → Bool
holds_all f [] = true
holds_all f (x ∷ xs) = f x && holds_all f xs

pub at_each : {A : Type 0} (f : A → Bool) (xs : List A) (x : A) → holds_all f xs ≡ true → Contains xs x → f x ≡ true
at_each f [] x h (k, l, e) = absurd (omega (arith, l))
at_each f (y ∷ xs) x h (zero, l, e) = subst (λ z. f z ≡ true) e (both _ _ h).0
at_each f (y ∷ xs) x h (suc k, l, e) = at_each f xs x (both _ _ h).1 (k, omega (arith, l), e)

abbrev pub same_point : Point → Point → Bool
same_point p q = eqb p.block q.block && eqb p.done q.done

abbrev pub is_place : Point → List Point → Bool
is_place p [] = false
is_place p (q ∷ qs) = same_point p q || is_place p qs

pub point_is : (p q : Point) → same_point p q ≡ true → p ≡ q
point_is p q e =
    let w : (eqb p.block q.block ≡ true) × (eqb p.done q.done ≡ true) = both _ _ e in
    λ i. record { block = eqb-true p.block q.block w.0 i; done = eqb-true p.done q.done w.1 i }

-- what holds of all places holds of each
pub at_place : (f : Point → Bool) (ps : List Point) (p : Point) → holds_all f ps ≡ true → is_place p ps ≡ true → f p
    ≡ true
at_place f [] p h e = absurd cc
at_place f (q ∷ qs) p h e = ⊎_elim
    (λ s. subst (λ z. f z ≡ true) (sym (point_is p q s)) (both _ _ h).0)
    (λ s. at_place f qs p (both _ _ h).1 s) (one_of _ _ e)

pub among_in : (v : ℕ) (zs vs : List ℕ) → among v zs ≡ true → all_among zs vs ≡ true → among v vs ≡ true
among_in v [] vs e a = absurd cc
among_in v (z ∷ zs) vs e a = ⊎_elim
    (λ s. subst (λ u. among u vs ≡ true) (sym (eqb-true v z s)) (both _ _ a).0)
    (λ s. among_in v zs vs s (both _ _ a).1) (one_of _ _ e)

pub or_right : (a b : Bool) → b ≡ true → (a || b) ≡ true
or_right true b e = refl
or_right false b e = e

pub or_left : (a b : Bool) → a ≡ true → (a || b) ≡ true
or_left true b e = refl
or_left false b e = absurd cc

pub among_through : (v : ℕ) (ys zs vs : List ℕ) → among v (ys ++ zs) ≡ true → all_among zs vs ≡ true
    → among v (ys ++ vs) ≡ true
among_through v [] zs vs e a = among_in v zs vs e a
among_through v (y ∷ ys) zs vs e a = ⊎_elim (λ s. or_left (eqb v y) (among v (ys ++ vs)) s)
    (λ s. or_right (eqb v y) (among v (ys ++ vs)) (among_through v ys zs vs s a)) (one_of _ _ e)

pub all_through : (xs ys zs vs : List ℕ) → all_among xs (ys ++ zs) ≡ true → all_among zs vs ≡ true
    → all_among xs (ys ++ vs) ≡ true
all_through [] ys zs vs e a = refl
all_through (x ∷ xs) ys zs vs e a =
    let p : among x (ys ++ vs) ≡ true = among_through x ys zs vs (both _ _ e).0 a in
    let q : all_among xs (ys ++ vs) ≡ true = all_through xs ys zs vs (both _ _ e).1 a in
    ap (λ c. c && all_among xs (ys ++ vs)) p ∙ q
