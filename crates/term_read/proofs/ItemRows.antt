-- Rows of items read one after another.
use Rattle.std.proofs.Common.{◌≡◌, ℕ, zero, suc, ◌<◌, ◌≤◌, refl, sym, ap, ◌∙◌, List, [], ◌∷◌, ◌++◌, length, codes, Option, Some, None, arith, append_assoc}
use Rattle.term_read.specs.Lexemes.{◌>>=◌, mark_at}
use Rattle.term_read.specs.Reading.{before, and_items, items_within, items_of}
use Rattle.term_read.proofs.Shorter.{mark_shorter}

-- what is read takes something of the characters
pub record Consumes {A : Type 0} (p : List ℕ → Option (A × List ℕ)) : Type 0 where
  pub shorter : (cs ds : List ℕ) (x : A) → p cs ≡ Some (x, ds) → length ds < length cs

-- what is read behind an item
abbrev pub onward : {A : Type 0} → (List ℕ → Option (List A × List ℕ)) → A × List ℕ → Option (List A × List ℕ)
onward next x = and_items x (mark_at (codes ",") x.1) next

starts : {A : Type 0} (p : List ℕ → Option (A × List ℕ)) (n : ℕ) (cs : List ℕ) (r : Option (A × List ℕ)) → p cs ≡ r
    → items_within p (suc n) cs ≡ (r >>= onward (items_within p n))
starts p n cs r e = ap (λ s. s >>= onward (items_within p n)) e

goes_on : {A : Type 0} (f : List ℕ → Option (List A × List ℕ)) (x : A × List ℕ) (r : Option (List ℕ))
    → mark_at (codes ",") x.1 ≡ r → onward f x ≡ and_items x r f
goes_on f x r e = ap (λ s. and_items x s f) e

-- more fuel than characters changes nothing
pub fuel : {A : Type 0} (p : List ℕ → Option (A × List ℕ)) → Consumes p → (n m : ℕ) (cs : List ℕ) → length cs ≤ n
    → length cs ≤ m
    → items_within p n cs ≡ items_within p m cs
fuel p h zero zero cs l k = refl
fuel {A} p h zero (suc m) cs l k = none (p cs) refl
  where
    none : (r : Option (A × List ℕ)) → p cs ≡ r → None ≡ items_within p (suc m) cs
    none None e = sym (starts p m cs None e)
    none (Some x) e = absurd (omega (arith, l, h.shorter cs x.1 x.0 e))
fuel {A} p h (suc n) zero cs l k = none (p cs) refl
  where
    none : (r : Option (A × List ℕ)) → p cs ≡ r → items_within p (suc n) cs ≡ None
    none None e = starts p n cs None e
    none (Some x) e = absurd (omega (arith, k, h.shorter cs x.1 x.0 e))
fuel {A} p h (suc n) (suc m) cs l k = by (p cs) refl (λ es s t. fuel p h n m es s t)
  where
    behind : (x : A × List ℕ) → length x.1 < length cs
        → ((es : List ℕ) → length es ≤ n → length es ≤ m → items_within p n es ≡ items_within p m es)
        → (r : Option (List ℕ)) → mark_at (codes ",") x.1 ≡ r
        → onward (items_within p n) x ≡ onward (items_within p m) x
    behind x s g None e = goes_on (items_within p n) x None e ∙ sym (goes_on (items_within p m) x None e)
    behind x s g (Some es) e =
        let t : length es ≤ length x.1 = mark_shorter (codes ",") x.1 es e in
        goes_on (items_within p n) x (Some es) e
        ∙ ap (λ r. r >>= λ xs. Some (x.0 ∷ xs.0, xs.1)) (g es (omega (arith, s, t, l)) (omega (arith, s, t, k)))
        ∙ sym (goes_on (items_within p m) x (Some es) e)

    by : (r : Option (A × List ℕ)) → p cs ≡ r
        → ((es : List ℕ) → length es ≤ n → length es ≤ m → items_within p n es ≡ items_within p m es)
        → items_within p (suc n) cs ≡ items_within p (suc m) cs
    by None e g = starts p n cs None e ∙ sym (starts p m cs None e)
    by (Some x) e g = starts p n cs (Some x) e ∙ behind x (h.shorter cs x.1 x.0 e) g (mark_at (codes ",") x.1) refl
        ∙ sym (starts p m cs (Some x) e)

-- reading on from an item
items_from : {A : Type 0} (p : List ℕ → Option (A × List ℕ)) → Consumes p → (cs : List ℕ) (x : A × List ℕ)
    → p cs ≡ Some x
    → items_of p cs ≡ onward (items_of p) x
unfolding items_of
items_from {A} p h cs x e = by (length cs) refl
  where
    behind : (n : ℕ) → length x.1 ≤ n → (r : Option (List ℕ)) → mark_at (codes ",") x.1 ≡ r
        → onward (items_within p n) x ≡ onward (items_of p) x
    behind n s None f = goes_on (items_within p n) x None f ∙ sym (goes_on (items_of p) x None f)
    behind n s (Some es) f =
        let t : length es ≤ length x.1 = mark_shorter (codes ",") x.1 es f in
        goes_on (items_within p n) x (Some es) f
        ∙ ap (λ r. r >>= λ xs. Some (x.0 ∷ xs.0, xs.1)) (fuel p h n (length es) es (omega (arith, s, t)) (omega arith))
        ∙ sym (goes_on (items_of p) x (Some es) f)

    by : (n : ℕ) → length cs ≡ n → items_within p n cs ≡ onward (items_of p) x
    by zero l = absurd (omega (arith, l, h.shorter cs x.1 x.0 e))
    by (suc n) l = starts p n cs (Some x) e
        ∙ behind n (let s : length x.1 < length cs = h.shorter cs x.1 x.0 e in omega (arith, l))
        (mark_at (codes ",") x.1) refl

none_then : {A : Type 0} (xs : List A) (r total : Option (List A × List ℕ)) → r ≡ None
    → before xs r ≡ total → total ≡ None
none_then xs r total e h = sym h ∙ ap (before xs) e

-- no item stands there
pub no_items : {A : Type 0} (p : List ℕ → Option (A × List ℕ)) (cs : List ℕ) → p cs ≡ None → items_of p cs ≡ None
unfolding items_of
no_items p cs e = by (length cs)
  where
    by : (n : ℕ) → items_within p n cs ≡ None
    by zero = refl
    by (suc n) = starts p n cs None e

-- an item and no comma behind it
pub last_of_items : {A : Type 0} (p : List ℕ → Option (A × List ℕ)) → Consumes p → (cs ds : List ℕ) (x : A)
    → p cs ≡ Some (x, ds) → mark_at (codes ",") ds ≡ None
    → items_of p cs ≡ Some (x ∷ [], ds)
last_of_items p h cs ds x e f = items_from p h cs (x, ds) e ∙ goes_on (items_of p) (x, ds) None f

-- an item and a comma behind it
pub more_of_items : {A : Type 0} (p : List ℕ → Option (A × List ℕ)) → Consumes p → (cs ds es : List ℕ) (x : A)
    → p cs ≡ Some (x, ds) → mark_at (codes ",") ds ≡ Some es
    → items_of p cs ≡ before (x ∷ []) (items_of p es)
more_of_items {A} p h cs ds es x e f =
    items_from p h cs (x, ds) e ∙ goes_on (items_of p) (x, ds) (Some es) f ∙ same (items_of p es)
  where
    same : (r : Option (List A × List ℕ)) → (r >>= λ xs. Some (x ∷ xs.0, xs.1)) ≡ before (x ∷ []) r
    same None = refl
    same (Some found) = refl

before_before : {A : Type 0} (xs ys : List A) (r : Option (List A × List ℕ))
    → before (xs ++ ys) r ≡ before xs (before ys r)
before_before xs ys None = refl
before_before xs ys (Some found) = ap (λ zs. Some (zs, found.1)) (append_assoc xs ys found.0)

-- Steps of a loop that reads items.

-- nothing stands where an item must
pub loop_refused : {A : Type 0} (p : List ℕ → Option (A × List ℕ)) (xs : List A) (cs : List ℕ)
    (total : Option (List A × List ℕ)) → p cs ≡ None
    → before xs (items_of p cs) ≡ total → total ≡ None
loop_refused p xs cs total e h = none_then xs (items_of p cs) total (no_items p cs e) h

pub loop_ended : {A : Type 0} (p : List ℕ → Option (A × List ℕ)) → Consumes p
    → (xs ys : List A) (x : A) (cs ds : List ℕ) (total : Option (List A × List ℕ))
    → p cs ≡ Some (x, ds) → mark_at (codes ",") ds ≡ None → ys ≡ xs ++ x ∷ [] → before xs (items_of p cs) ≡ total
    → total ≡ Some (ys, ds)
loop_ended p h xs ys x cs ds total e f g k =
    sym k ∙ ap (before xs) (last_of_items p h cs ds x e f) ∙ ap (λ zs. Some (zs, ds)) (sym g)

pub loop_goes_on : {A : Type 0} (p : List ℕ → Option (A × List ℕ)) → Consumes p
    → (xs ys : List A) (x : A) (cs ds es : List ℕ) (total : Option (List A × List ℕ))
    → p cs ≡ Some (x, ds) → mark_at (codes ",") ds ≡ Some es → ys ≡ xs ++ x ∷ [] → before xs (items_of p cs) ≡ total
    → before ys (items_of p es) ≡ total
loop_goes_on p h xs ys x cs ds es total e f g k =
    ap (λ zs. before zs (items_of p es)) g ∙ before_before xs (x ∷ []) (items_of p es)
    ∙ sym (ap (before xs) (more_of_items p h cs ds es x e f)) ∙ k

pub before_none : {A : Type 0} (r : Option (List A × List ℕ)) → before [] r ≡ r
before_none None = refl
before_none (Some found) = refl
