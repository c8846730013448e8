-- Puts in a row, and what they note.
use Rattle.std.proofs.Common.{◌≡◌, ℕ, ◌+◌, List, ◌++◌, take, length, Option, None, Some, Result, Ok, Err, refl, sym, ap, ◌∙◌, append_assoc, zero, suc, [], ◌∷◌, inl, inr, OnErr, map, drop, get_or, add-one, ◌<◌, subst}
use Rattle.std.proofs.Math.Seq.{take-append-add, take-suc}
use Rattle.std.proofs.lemmas.List.{take-append-drop, append-nil, map-append}
use Rattle.std.proofs.lemmas.List.Folds.{concat-append}
use Rattle.std.specs.List.{concat}
use Rattle.store_io.specs.Causes.{Rose}
use Rattle.store_io.specs.Files.{Alike, PutsAll}
use Rattle.erlc_cli.specs.Notes.{HasLine}

first_part : (a b : List ℕ) (n : ℕ) → (m : ℕ) × (take n a ≡ take m (a ++ b))
first_part a b zero = (0, refl)
first_part [] b (suc n) = (0, refl)
first_part (x ∷ a) b (suc n) = let r = first_part a b n in (suc r.0, ap (λ s. x ∷ s) r.1)

second_part : (a b : List ℕ) (n : ℕ) → (m : ℕ) × (a ++ take n b ≡ take m (a ++ b))
second_part a b n = (length a + n, sym (take-append-add a b n))

pub puts_first : {E : Type 0} (r : Result (Unit {0}) E) (e f : E) → r ≡ Err e → (a b : List ℕ) (x y : Option (List ℕ))
    → Alike x y (PutsAll {E = E} a (Err f)) → Alike x y (PutsAll (a ++ b) r)
puts_first r e f is a b None None p = tt
puts_first r e f is a b None (Some y) p = p
puts_first r e f is a b (Some x) None p = p
puts_first r e f is a b (Some x) (Some y) p = rw is (let m = first_part a b p.0 in (m.0, p.1 ∙ ap (λ t. x ++ t) m.1))

pub puts_both : (E : Type 0) (r : Result (Unit {0}) E) (a b : List ℕ) (x y z : Option (List ℕ))
    → Alike x y (PutsAll {E = E} a (Ok tt)) → Alike y z (PutsAll {E = E} b r) → Alike x z (PutsAll (a ++ b) r)
puts_both E r a b None None None p q = tt
puts_both E r a b None None (Some z) p q = q
puts_both E r a b None (Some y) z p q = absurd p
puts_both E r a b (Some x) None z p q = absurd p
puts_both E r a b (Some x) (Some y) None p q = q
puts_both E (Ok u) a b (Some x) (Some y) (Some z) p q = q ∙ ap (λ t. t ++ b) p ∙ append_assoc x a b
puts_both E (Err e) a b (Some x) (Some y) (Some z) p q =
    let m = second_part a b q.0 in
    (m.0, q.1 ∙ ap (λ t. t ++ take q.0 b) p ∙ append_assoc x a (take q.0 b) ∙ ap (λ t. x ++ t) m.1)

-- what a call that ended so has noted
pub noted : (E : Type 0) (r : Result (Unit {0}) E) (line : List ℕ) (f g : ℕ) (x y : Option (List ℕ))
    → Alike x y (PutsAll line r) → OnErr r (Rose f g) → Alike x y (HasLine line f g)
noted E r line f g None None p rose = tt
noted E r line f g None (Some y) p rose = p
noted E r line f g (Some x) None p rose = p
noted E (Ok u) line f g (Some x) (Some y) p rose = inl p
noted E (Err e) line f g (Some x) (Some y) p rose = inr ((p.0, p.1), rose)

-- the pieces up to one, and that piece
pub pieces_more : {A : Type 0} (f : A → List ℕ) (ps : List A) (i : ℕ) (d : A) → i < length ps
    → concat (map f (take (i + 1) ps)) ≡ concat (map f (take i ps)) ++ f (get_or ps i d)
pieces_more f ps i d h =
    ap (λ n. concat (map f (take n ps))) (add-one i) ∙ ap (λ qs. concat (map f qs)) (take-suc ps i d h)
    ∙ ap concat (map-append f (take i ps) (get_or ps i d ∷ []))
    ∙ concat-append (map f (take i ps)) (f (get_or ps i d) ∷ [])
    ∙ ap (λ t. concat (map f (take i ps)) ++ t) (append-nil (f (get_or ps i d)))

-- pieces before one, that piece, and those behind it
pub pieces_at : {A : Type 0} (f : A → List ℕ) (ps : List A) (i : ℕ) (d : A) → i < length ps
    → (concat (map f (take i ps)) ++ f (get_or ps i d)) ++ concat (map f (drop (i + 1) ps)) ≡ concat (map f ps)
pieces_at f ps i d h =
    ap (λ t. t ++ concat (map f (drop (i + 1) ps))) (sym (pieces_more f ps i d h))
    ∙ sym (concat-append (map f (take (i + 1) ps)) (map f (drop (i + 1) ps)))
    ∙ ap concat (sym (map-append f (take (i + 1) ps) (drop (i + 1) ps)))
    ∙ ap (λ qs. concat (map f qs)) (take-append-drop (i + 1) ps)

-- the same of an equal line
pub puts_moved : {E : Type 0} (r : Result (Unit {0}) E) (a b : List ℕ) (x y : Option (List ℕ)) → a ≡ b
    → Alike x y (PutsAll a r) → Alike x y (PutsAll b r)
puts_moved r a b x y e p = subst (λ (t : List ℕ). Alike x y (PutsAll t r)) e p
