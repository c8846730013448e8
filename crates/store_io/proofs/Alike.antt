-- Laws of `Alike`, and of the bytes that a loop of appends has written.
use Rattle.std.proofs.Common.{◌≡◌, ℕ, ◌+◌, ◌-◌, ◌≤◌, List, [], ◌∷◌, ◌++◌, length, take, drop, Option, None, Some, Result, Ok, Err, refl, sym, ap, ◌∙◌, inl, inr, zero, suc, arith, length-take, length-drop}
use Rattle.std.proofs.lemmas.List.{take-take}
use Rattle.std.proofs.Math.Seq.{take-add}
use Rattle.store_io.specs.Files.{Files, Alike, OthersStay, content, Appends, Stores}

-- two steps in a row
pub alike_then : {A : Type 0} (x y z : Option A) {P Q : A → A → Type 0} (R : A → A → Type 0)
    → ((a b c : A) → P a b → Q b c → R a c) → Alike x y P → Alike y z Q → Alike x z R
alike_then None None None R f p q = tt
alike_then None None (Some c) R f p q = q
alike_then None (Some b) z R f p q = absurd p
alike_then (Some a) None z R f p q = absurd p
alike_then (Some a) (Some b) None R f p q = q
alike_then (Some a) (Some b) (Some c) R f p q = f a b c p q

pub others_then : {A : Type 0} (name : List ℕ) (a b c : List ℕ → Option A) → OthersStay name a b → OthersStay name b c
    → OthersStay name a c
others_then name a b c p q n other = q n other ∙ p n other

-- after an append of n bytes of what is left
wrote_part : (old new : Option (List ℕ)) (bytes piece : List ℕ) (done n m : ℕ) → old ≡ Some (take done bytes)
    → take n piece ≡ take m (drop done bytes) → new ≡ Some (content old ++ take n piece)
    → new ≡ Some (take (done + m) bytes)
wrote_part old new bytes piece done n m was part now =
    now ∙ ap (λ x. Some (content x ++ take n piece)) was ∙ ap (λ p. Some (take done bytes ++ p)) part
    ∙ ap Some (sym (take-add done m bytes))

pub wrote : (old new : Option (List ℕ)) (bytes piece : List ℕ) (done n : ℕ) → old ≡ Some (take done bytes)
    → take n piece ≡ take n (drop done bytes) → new ≡ Some (content old ++ take n piece)
    → new ≡ Some (take (done + n) bytes)
wrote old new bytes piece done n was part now =
    now ∙ ap (λ x. Some (content x ++ take n piece)) was ∙ ap (λ p. Some (take done bytes ++ p)) part
    ∙ ap Some (sym (take-add done n bytes))

-- after an append that failed: a prefix was written
pub left : {E : Type 0} (r : Result (Unit {0}) E) (e : E) → r ≡ Err e
    → (first old new : Option (List ℕ)) (bytes piece : List ℕ) (done : ℕ)
    → ((n : ℕ) → (m : ℕ) × (take n piece ≡ take m (drop done bytes)))
    → old ≡ Some (take done bytes) → Appends {E = E} piece (Err e) old new → Stores bytes r first new
left r e is first old new bytes piece done part was now = rw is
    (elim now [
      | inl same ↦ inr (inr (done, same ∙ was))
      | inr some ↦ inr (inr (
        done + (part some.0).0,
        wrote_part old new bytes piece done some.0 (part some.0).0 was
            (part some.0).1 some.1,
      ))
    ])

-- the file holds the first bytes
abbrev pub HoldsFirst : List ℕ → List ℕ → ℕ → Files → Files → Type 0
HoldsFirst name bytes done old new = OthersStay name old new × (new name ≡ Some (take done bytes))

pub appended : (E : Type 0) (name bytes piece : List ℕ) (done n : ℕ) (x y z : Option Files)
    → take n piece ≡ take n (drop done bytes)
    → Alike x y (λ old new. OthersStay name old new × (new name ≡ Some (take done bytes)))
    → Alike y z (λ old new. OthersStay name old new × Appends {E = E} piece (Ok n) (old name) (new name))
    → Alike x z (λ old new. OthersStay name old new × (new name ≡ Some (take (done + n) bytes)))
appended E name bytes piece done n x y z part =
    alike_then x y z (HoldsFirst name bytes (done + n))
    (λ a b d p q. (others_then name a b d p.0 q.0, wrote (b name) (d name) bytes piece done n p.1 part q.1))

pub refused : {E : Type 0} (r : Result (Unit {0}) E) (e : E) → r ≡ Err e
    → (name bytes piece : List ℕ) (done : ℕ) (x y z : Option Files)
    → ((n : ℕ) → (m : ℕ) × (take n piece ≡ take m (drop done bytes)))
    → Alike x y (λ old new. OthersStay name old new × (new name ≡ Some (take done bytes)))
    → Alike y z (λ old new. OthersStay name old new × Appends {E = E} piece (Err e) (old name) (new name))
    → Alike x z (λ old new. OthersStay name old new × Stores bytes r (old name) (new name))
refused r e is name bytes piece done x y z part =
    alike_then x y z (λ old new. OthersStay name old new × Stores bytes r (old name) (new name))
    (λ a b d p q. (
      others_then name a b d p.0 q.0,
      left r e is (a name) (b name)
          (d name) bytes piece done part p.1 q.1,
    ))

-- any first bytes of a slice are first bytes of what it was cut from
pub part_of_slice : (k : ℕ) (l : List ℕ) (n : ℕ) → (m : ℕ) × (take n (take k l) ≡ take m l)
part_of_slice zero l zero = (0, refl)
part_of_slice zero l (suc n) = (0, refl)
part_of_slice (suc k) l zero = (0, refl)
part_of_slice (suc k) [] (suc n) = (0, refl)
part_of_slice (suc k) (x ∷ l) (suc n) = let r = part_of_slice k l n in (suc r.0, ap (λ s. x ∷ s) r.1)

-- the first n bytes of the next piece, where it has as many, are the first n of what is left
pub part_of_piece : (rest piece : List ℕ) (k n : ℕ) → piece ≡ take k rest → n ≤ length piece
    → take n piece ≡ take n rest
part_of_piece rest piece k n is within =
    let short : n ≤ k = omega (arith, ap length is, length-take k rest) in
    ap (take n) is ∙ take-take n k rest short

-- a piece is no longer than what is left
pub piece_within : (bytes piece : List ℕ) (k done : ℕ) → piece ≡ take k (drop done bytes)
    → length piece ≤ length bytes - done
piece_within bytes piece k done is =
    omega (arith, ap length is, length-take k (drop done bytes), length-drop done bytes)

-- any first bytes of the next piece are first bytes of what is left
pub part_of_first : (rest piece : List ℕ) (k : ℕ) → piece ≡ take k rest → (n : ℕ)
    → (m : ℕ) × (take n piece ≡ take m rest)
part_of_first rest piece k is n = let r = part_of_slice k rest n in (r.0, ap (take n) is ∙ r.1)
