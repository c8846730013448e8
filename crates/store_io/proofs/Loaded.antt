-- What a loop of loads has read.
use Rattle.std.proofs.Common.{◌≡◌, ℕ, ◌+◌, ◌-◌, ◌<◌, ◌≤◌, List, ◌++◌, length, take, drop, Option, None, Some, IfSome, Result, Ok, refl, sym, ap, ◌∙◌, arith, length-append, length-take, length-drop}
use Rattle.std.proofs.Math.Seq.{take-add}
use Rattle.std.proofs.lemmas.List.{take_all}
use Rattle.store_io.proofs.Alike.{alike_then}
use Rattle.store_io.specs.Files.{Files, Alike, Same, Loads, content}

-- the bytes so far are the first of the file
abbrev pub HasRead : List ℕ → Option (List ℕ) → Type 0
HasRead bytes file = bytes ≡ take (length bytes) (content file)

whole_file : (E : Type 0) (before file : Option (List ℕ)) (bytes piece : List ℕ) → file ≡ before → HasRead bytes before
    → Loads {E = E} file (length bytes) piece (Ok 0) → 0 < length piece → before ≡ Some bytes
whole_file E before None bytes piece same read loads some = absurd loads
whole_file E before (Some b) bytes piece same read loads some =
    let short : length b ≤ length bytes = ((loads.2) some).0 refl in
    let whole : bytes ≡ b = read ∙ ap (λ f. take (length bytes) (content f)) (sym same)
    ∙ take_all (length bytes) b short in
    sym same ∙ ap Some (sym whole)

pub loaded : (E : Type 0) (x y z : Option Files) (name bytes piece : List ℕ) → Alike x y Same
    → Alike y z (λ old new. Same old new × Loads {E = E} (old name) (length bytes) piece (Ok 0))
    → IfSome x (λ f. HasRead bytes (f name))
    → 0 < length piece → IfSome x (λ f. f name ≡ Some bytes)
loaded E None y z name bytes piece p q read some = tt
loaded E (Some f) None z name bytes piece p q read some = absurd p
loaded E (Some f) (Some g) None name bytes piece p q read some = absurd q
loaded E (Some f) (Some g) (Some h) name bytes piece p q read some =
    whole_file E (f name) (g name) bytes piece (p name) read q.1 some

pub same_then : (E : Type 0) (x y z : Option Files) (name bytes piece : List ℕ) (at : ℕ) (r : Result ℕ E)
    → Alike x y Same
    → Alike y z (λ old new. Same old new × Loads (old name) at piece r) → Alike x z Same
same_then E x y z name bytes piece at r = alike_then x y z Same (λ a b c p q n. q.0 n ∙ p n)

-- the part that was read lies within the file
part_within : (b piece : List ℕ) (at n : ℕ) → n ≤ length piece → take n piece ≡ take n (drop at b) → n ≤ length b - at
part_within b piece at n le part =
    let e : length (take n piece) ≡ length (take n (drop at b)) = ap length part in
    omega (arith, length-take n piece, length-take n (drop at b), length-drop at b, e)

more_file : (E : Type 0) (before file : Option (List ℕ)) (bytes piece : List ℕ) (n : ℕ) → file ≡ before
    → HasRead bytes before
    → Loads {E = E} file (length bytes) piece (Ok n) → n ≤ length piece → HasRead (bytes ++ take n piece) before
more_file E before None bytes piece n same read loads le = absurd loads
more_file E before (Some b) bytes piece n same read loads le =
    let c : content before ≡ b = ap content (sym same) in
    let len : length (bytes ++ take n piece) ≡ length bytes + n =
    omega (arith, length-append bytes (take n piece), length-take n piece) in
    ap (λ x. x ++ take n piece) (read ∙ ap (take (length bytes)) c) ∙ ap (λ x. take (length bytes) b ++ x) (loads.1)
    ∙ sym (take-add (length bytes) n b) ∙ ap (λ k. take k b) (sym len)
    ∙ ap (take (length (bytes ++ take n piece))) (sym c)

pub more_loaded : (E : Type 0) (x y z : Option Files) (name bytes piece : List ℕ) (n : ℕ) → Alike x y Same
    → Alike y z (λ old new. Same old new × Loads {E = E} (old name) (length bytes) piece (Ok n))
    → IfSome x (λ f. HasRead bytes (f name))
    → n ≤ length piece → IfSome x (λ f. HasRead (bytes ++ take n piece) (f name))
more_loaded E None y z name bytes piece n p q read le = tt
more_loaded E (Some f) None z name bytes piece n p q read le = absurd p
more_loaded E (Some f) (Some g) None name bytes piece n p q read le = absurd q
more_loaded E (Some f) (Some g) (Some h) name bytes piece n p q read le =
    more_file E (f name) (g name) bytes piece n (p name) read q.1 le

too_long : (E : Type 0) (before file : Option (List ℕ)) (bytes piece : List ℕ) (n : ℕ) → file ≡ before
    → Loads {E = E} file (length bytes) piece (Ok n) → n ≤ length piece → length bytes ≤ 16777216
    → 16777216 - length bytes < n
    → (b : List ℕ) × (before ≡ Some b) × (16777216 < length b)
too_long E before None bytes piece n same loads le size over = absurd loads
too_long E before (Some b) bytes piece n same loads le size over =
    (b, sym same, omega (arith, part_within b piece (length bytes) n le loads.1, over, size))

pub too_large : (E : Type 0) (x y z : Option Files) (name bytes piece : List ℕ) (n : ℕ) → Alike x y Same
    → Alike y z (λ old new. Same old new × Loads {E = E} (old name) (length bytes) piece (Ok n)) → n ≤ length piece
    → length bytes ≤ 16777216
    → 16777216 - length bytes < n → IfSome x (λ f. (b : List ℕ) × (f name ≡ Some b) × (16777216 < length b))
too_large E None y z name bytes piece n p q le size over = tt
too_large E (Some f) None z name bytes piece n p q le size over = absurd p
too_large E (Some f) (Some g) None name bytes piece n p q le size over = absurd q
too_large E (Some f) (Some g) (Some h) name bytes piece n p q le size over =
    too_long E (f name) (g name) bytes piece n (p name) q.1 le size over
