-- What holds of all parts of a list holds of the parts of each item.
use Rattle.std.proofs.Common.{◌≡◌, refl, subst, List, [], ◌∷◌, ◌++◌, map, flat_map, drop, ℕ, zero, suc, Bool, true, ◌&&◌, IsTrue}
use Rattle.std.specs.List.{list_all}
use Rattle.erl_term.proofs.Forms.{left_true, right_true, both_true}

front : {B : Type 0} (p : B → Bool) (xs ys : List B) → IsTrue (list_all p (xs ++ ys)) → IsTrue (list_all p xs)
front p [] ys h = refl
front p (x ∷ xs) ys h =
    both_true (p x) (list_all p xs) (left_true (p x) (list_all p (xs ++ ys)) h)
    (front p xs ys (right_true (p x) (list_all p (xs ++ ys)) h))

back : {B : Type 0} (p : B → Bool) (xs ys : List B) → IsTrue (list_all p (xs ++ ys)) → IsTrue (list_all p ys)
back p [] ys h = h
back p (x ∷ xs) ys h = back p xs ys (right_true (p x) (list_all p (xs ++ ys)) h)

same_first : {A : Type 0} (x y : A) (xs ys : List A) → x ∷ xs ≡ y ∷ ys → x ≡ y
same_first x y xs ys e = cc

-- several parts an item
pub parts_kept : {A B : Type 0} (p : B → Bool) (g : A → List B) (xs : List A) (i : ℕ) (x : A) (others : List A)
    → drop i xs ≡ x ∷ others → IsTrue (list_all p (flat_map g xs)) → IsTrue (list_all p (g x))
parts_kept p g [] zero x others e h = absurd cc
parts_kept p g [] (suc i) x others e h = absurd cc
parts_kept p g (y ∷ ys) zero x others e h =
    subst (λ z. IsTrue (list_all p (g z))) (same_first y x ys others e) (front p (g y) (flat_map g ys) h)
parts_kept p g (y ∷ ys) (suc i) x others e h = parts_kept p g ys i x others e (back p (g y) (flat_map g ys) h)

-- one part an item
pub part_kept : {A B : Type 0} (p : B → Bool) (g : A → B) (xs : List A) (i : ℕ) (x : A) (others : List A)
    → drop i xs ≡ x ∷ others → IsTrue (list_all p (map g xs)) → IsTrue (p (g x) && true)
part_kept p g [] zero x others e h = absurd cc
part_kept p g [] (suc i) x others e h = absurd cc
part_kept p g (y ∷ ys) zero x others e h =
    subst (λ z. IsTrue (p (g z) && true)) (same_first y x ys others e)
    (both_true (p (g y)) true (left_true (p (g y)) (list_all p (map g ys)) h) refl)
part_kept p g (y ∷ ys) (suc i) x others e h =
    part_kept p g ys i x others e (right_true (p (g y)) (list_all p (map g ys)) h)
