-- What a loop of puts has put.
use Rattle.std.proofs.Common.{◌≡◌, ℕ, ◌+◌, List, ◌++◌, take, drop, Option, Result, Ok, Err, sym, ap, ◌∙◌, append_assoc, ◌-◌, length, arith, length-drop}
use Rattle.std.proofs.lemmas.List.{take_all}
use Rattle.std.proofs.Math.Seq.{take-add}
use Rattle.store_io.specs.Files.{Alike, Puts, PutsAll}
use Rattle.store_io.proofs.Alike.{alike_then}

more : (old mid new bytes piece : List ℕ) (done n m : ℕ) → mid ≡ old ++ take done bytes
    → take n piece ≡ take m (drop done bytes)
    → new ≡ mid ++ take n piece → new ≡ old ++ take (done + m) bytes
more old mid new bytes piece done n m was part now =
    now ∙ ap (λ x. x ++ take n piece) was ∙ append_assoc old (take done bytes) (take n piece)
    ∙ ap (λ p. old ++ (take done bytes ++ p)) part ∙ ap (λ p. old ++ p) (sym (take-add done m bytes))

pub put_more : (E : Type 0) (bytes piece : List ℕ) (done n : ℕ) (x y z : Option (List ℕ)) → piece ≡ drop done bytes
    → Alike x y (λ old new. new ≡ old ++ take done bytes) → Alike y z (Puts {E = E} piece (Ok n))
    → Alike x z (λ old new. new ≡ old ++ take (done + n) bytes)
put_more E bytes piece done n x y z is =
    alike_then x y z (λ old new. new ≡ old ++ take (done + n) bytes)
    (λ a b d p q. more a b d bytes piece done n n p (ap (take n) is) q)

pub put_part : {E : Type 0} (r : Result (Unit {0}) E) (e : E) → r ≡ Err e
    → (bytes piece : List ℕ) (done : ℕ) (x y z : Option (List ℕ))
    → piece ≡ drop done bytes → Alike x y (λ old new. new ≡ old ++ take done bytes)
    → Alike y z (Puts {E = E} piece (Err e)) → Alike x z (PutsAll bytes r)
put_part r e is bytes piece done x y z cut =
    alike_then x y z (PutsAll bytes r)
    (λ a b d p q. rw is (done + q.0, more a b d bytes piece done q.0 q.0 p (ap (take q.0) cut) q.1))

-- `&bytes[done..]`
pub rest_is : (done : ℕ) (bytes : List ℕ) → take (length bytes - done) (drop done bytes) ≡ drop done bytes
rest_is done bytes = take_all (length bytes - done) (drop done bytes) (omega (arith, length-drop done bytes))
