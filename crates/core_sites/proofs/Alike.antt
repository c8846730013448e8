-- Lists of uses of which the same first uses are taken, whatever was seen before.
use Rattle.std.proofs.Common.{◌≡◌, ℕ, ◌≤◌, ◌<◌, List, [], ◌∷◌, ◌++◌, Bool, true, false, not, ◌&&◌, ◌||◌, eqb, ltb, if◌then◌else◌, inl, inr, Option, Some, None, refl, sym, ap, ◌∙◌, subst, append_assoc, eq-eqb, eqb-true, lt-ltb, le-ltb, arith}
use Rattle.std.proofs.lemmas.Bool.{cases_lt}
use Rattle.erl_base.specs.Lists.{among}
use Rattle.erl_base.specs.declared.ids.Place.{Place}
use Rattle.core_form.specs.Scope.{Use}
use Rattle.core_form.specs.Captures.{once_below, placed}
use Rattle.core_sites.specs.Things.{instead, expanded, below}

-- the same first uses
pub record Alike (us vs : List Use) : Type 0 where
  pub first : (l : ℕ) (seen : List ℕ) → once_below l seen us ≡ once_below l seen vs

pub itself : (us : List Use) → Alike us us
itself us = record { first = λ l s. refl }

pub equal : (us vs : List Use) → us ≡ vs → Alike us vs
equal us vs e = record { first = λ l s. ap (λ ws. once_below l s ws) e }

pub through : {us vs ws : List Use} → Alike us vs → Alike vs ws → Alike us ws
through h k = record { first = λ l s. h.first l s ∙ k.first l s }

pub other_way : {us vs : List Use} → Alike us vs → Alike vs us
other_way h = record { first = λ l s. sym (h.first l s) }

-- what has been seen once these were taken
abbrev pub onto : List ℕ → List Use → List ℕ
onto s [] = s
onto s (u ∷ us) = onto (u.number ∷ s) us

-- Two stretches.

append_if : (b : Bool) (u : Use) (l : ℕ) (s t : List ℕ) (us ws vs : List Use)
    → once_below l t (us ++ vs) ≡ once_below l t us ++ once_below l (onto t (once_below l t us)) vs
    → once_below l s (us ++ vs) ≡ once_below l s us ++ once_below l (onto s (once_below l s us)) vs
    → t ≡ u.number ∷ s
    → (if b then u ∷ once_below l t (us ++ vs) else once_below l s (us ++ vs))
    ≡ (if b then u ∷ once_below l t us else once_below l s us)
    ++ once_below l (onto s (if b then u ∷ once_below l t us else once_below l s us)) vs
append_if true u l s t us ws vs h k e =
    ap (λ xs. u ∷ xs) h ∙ ap (λ r. u ∷ (once_below l t us ++ once_below l (onto r (once_below l t us)) vs)) e
append_if false u l s t us ws vs h k e = k

pub once_append : (l : ℕ) (s : List ℕ) (us vs : List Use)
    → once_below l s (us ++ vs) ≡ once_below l s us ++ once_below l (onto s (once_below l s us)) vs
once_append l s [] vs = refl
once_append l s (u ∷ us) vs =
    append_if (ltb u.number l && not (among u.number s)) u l s (u.number ∷ s) us us vs
    (once_append l (u.number ∷ s) us vs) (once_append l s us vs) refl

pub both : {us vs ws xs : List Use} → Alike us ws → Alike vs xs → Alike (us ++ vs) (ws ++ xs)
both {us} {vs} {ws} {xs} h k = record {
  first = λ l s. once_append l s us vs
      ∙ ap (λ ts. ts ++ once_below l (onto s ts) vs) (h.first l s)
      ∙ ap (λ ts. once_below l s ws ++ ts) (k.first l (onto s (once_below l s ws)))
      ∙ sym (once_append l s ws xs);
}

-- Other places.

pub placed_append : (p : Place) (us vs : List Use) → placed p (us ++ vs) ≡ placed p us ++ placed p vs
placed_append p [] vs = refl
placed_append p (u ∷ us) vs = ap (λ ws. record u { place = p } ∷ ws) (placed_append p us vs)

pub placed_twice : (p q : Place) (us : List Use) → placed p (placed q us) ≡ placed p us
placed_twice p q [] = refl
placed_twice p q (u ∷ us) = ap (λ ws. record u { place = p } ∷ ws) (placed_twice p q us)

placed_if : (b : Bool) (p : Place) (u : Use) (us vs ws xs : List Use) → us ≡ placed p ws → vs ≡ placed p xs
    → (if b then record u { place = p } ∷ us else vs) ≡ placed p (if b then u ∷ ws else xs)
placed_if true p u us vs ws xs h k = ap (λ ts. record u { place = p } ∷ ts) h
placed_if false p u us vs ws xs h k = k

once_placed : (l : ℕ) (s : List ℕ) (p : Place) (us : List Use)
    → once_below l s (placed p us) ≡ placed p (once_below l s us)
once_placed l s p [] = refl
once_placed l s p (u ∷ us) =
    placed_if (ltb u.number l && not (among u.number s)) p u (once_below l (u.number ∷ s) (placed p us))
    (once_below l s (placed p us)) (once_below l (u.number ∷ s) us) (once_below l s us)
    (once_placed l (u.number ∷ s) p us) (once_placed l s p us)

pub alike_placed : {us vs : List Use} (p : Place) → Alike us vs → Alike (placed p us) (placed p vs)
alike_placed {us} {vs} p h = record {
  first = λ l s. once_placed l s p us ∙ ap (λ ts. placed p ts) (h.first l s) ∙ sym (once_placed l s p vs);
}

-- What stands for uses.

pub expanded_append : (r : ℕ → Option (List Use)) (us vs : List Use)
    → expanded r (us ++ vs) ≡ expanded r us ++ expanded r vs
expanded_append r [] vs = refl
expanded_append r (u ∷ us) vs =
    ap (λ ws. instead (r u.number) u ++ ws) (expanded_append r us vs)
    ∙ sym (append_assoc (instead (r u.number) u) (expanded r us) (expanded r vs))

instead_placed : (o : Option (List Use)) (p : Place) (u : Use)
    → instead o (record u { place = p }) ≡ placed p (instead o u)
instead_placed None p u = refl
instead_placed (Some us) p u = sym (placed_twice p u.place us)

pub expanded_placed : (r : ℕ → Option (List Use)) (p : Place) (us : List Use)
    → expanded r (placed p us) ≡ placed p (expanded r us)
expanded_placed r p [] = refl
expanded_placed r p (u ∷ us) =
    ap (λ ws. instead (r u.number) (record u { place = p }) ++ ws) (expanded_placed r p us)
    ∙ ap (λ ws. ws ++ placed p (expanded r us)) (instead_placed (r u.number) p u)
    ∙ sym (placed_append p (instead (r u.number) u) (expanded r us))

pub expanded_none : (us : List Use) → expanded (λ n. None) us ≡ us
expanded_none [] = refl
expanded_none (u ∷ us) = ap (λ ws. u ∷ ws) (expanded_none us)

-- What is new.

-- whether a number is taken
abbrev pub taken : ℕ → List ℕ → ℕ → Bool
taken l s n = ltb n l && not (among n s)

-- none of these is taken
abbrev pub Known : ℕ → List ℕ → List Use → Type 0
Known l s [] = Unit {0}
Known l s (u ∷ us) = (taken l s u.number ≡ false) × Known l s us

pub once_known : (l : ℕ) (s : List ℕ) (us vs : List Use) → Known l s us
    → once_below l s (us ++ vs) ≡ once_below l s vs
once_known l s [] vs h = refl
once_known l s (u ∷ us) vs h =
    ap (λ b. if b then u ∷ once_below l (u.number ∷ s) (us ++ vs) else once_below l s (us ++ vs)) h.0
    ∙ once_known l s us vs h.1

more_seen : (x y z : Bool) → x && not y ≡ false → x && not (z || y) ≡ false
more_seen false y z h = refl
more_seen true true true h = refl
more_seen true true false h = refl
more_seen true false true h = refl
more_seen true false false h = h

taken_more : (l m : ℕ) (s : List ℕ) (n : ℕ) → taken l s n ≡ false → taken l (m ∷ s) n ≡ false
taken_more l m s n h = more_seen (ltb n l) (among n s) (eqb n m) h

taken_onto : (l : ℕ) (s : List ℕ) (us : List Use) (n : ℕ) → taken l s n ≡ false → taken l (onto s us) n ≡ false
taken_onto l s [] n h = h
taken_onto l s (u ∷ us) n h = taken_onto l (u.number ∷ s) us n (taken_more l u.number s n h)

pub known_onto : (l : ℕ) (s : List ℕ) (us vs : List Use) → Known l s vs → Known l (onto s us) vs
known_onto l s us [] h = tt
known_onto l s us (v ∷ vs) h = (taken_onto l s us v.number h.0, known_onto l s us vs h.1)

pub known_placed : (l : ℕ) (s : List ℕ) (p q : Place) (us : List Use) → Known l s (placed p us)
    → Known l s (placed q us)
known_placed l s p q [] h = tt
known_placed l s p q (u ∷ us) h = (h.0, known_placed l s p q us h.1)

seen_now : (x z : Bool) → z ≡ true → (y : Bool) → x && not (z || y) ≡ false
seen_now false z h y = refl
seen_now true true h y = refl
seen_now true false h y = absurd cc

taken_now : (l n : ℕ) (s : List ℕ) → taken l (n ∷ s) n ≡ false
taken_now l n s = seen_now (ltb n l) (eqb n n) (eq-eqb n n refl) (among n s)

known_if : (b : Bool) (l : ℕ) (s : List ℕ) (u : Use) (us : List Use) → taken l s u.number ≡ b
    → Known l (onto (u.number ∷ s) (once_below l (u.number ∷ s) us)) us
    → Known l (onto s (once_below l s us)) us
    → Known l (onto s (if b then u ∷ once_below l (u.number ∷ s) us else once_below l s us)) (u ∷ us)
known_if true l s u us e h k =
    (taken_onto l (u.number ∷ s) (once_below l (u.number ∷ s) us) u.number (taken_now l u.number s), h)
known_if false l s u us e h k = (taken_onto l s (once_below l s us) u.number e, k)

-- what was taken is known
pub known_once : (l : ℕ) (s : List ℕ) (us : List Use) → Known l (onto s (once_below l s us)) us
known_once l s [] = tt
known_once l s (u ∷ us) =
    known_if (taken l s u.number) l s u us refl (known_once l (u.number ∷ s) us) (known_once l s us)

-- Each use once, and what stands for it.

module _ (r : ℕ → Option (List Use)) (l n : ℕ) where
  -- what stands for these numbers is known
  abbrev Covered : List ℕ → List ℕ → Type 0
  Covered t s = (v : Use) → among v.number t ≡ true → Known l s (instead (r v.number) v)

  same_number : (o : Option (List Use)) (s : List ℕ) (u v : Use) → v.number ≡ u.number → Known l s (instead o u)
      → Known l s (instead o v)
  same_number None s u v e h = (ap (λ m. taken l s m) e ∙ h.0, tt)
  same_number (Some us) s u v e h = known_placed l s u.place v.place us h

  covered_if : (t s : List ℕ) (u v : Use) (b : Bool) → eqb v.number u.number ≡ b → b || among v.number t ≡ true
      → Covered t s → Known l (onto s (once_below l s (instead (r u.number) u))) (instead (r v.number) v)
  covered_if t s u v true e h c =
      let k = eqb-true v.number u.number e in
      subst (λ m. Known l (onto s (once_below l s (instead (r u.number) u))) (instead (r m) v)) (sym k)
      (same_number (r u.number) _ u v k (known_once l s (instead (r u.number) u)))
  covered_if t s u v false e h c =
      known_onto l s (once_below l s (instead (r u.number) u)) (instead (r v.number) v) (c v h)

  covered_more : (t s : List ℕ) (u : Use) → Covered t s
      → Covered (u.number ∷ t) (onto s (once_below l s (instead (r u.number) u)))
  covered_more t s u c v h = covered_if t s u v (eqb v.number u.number) refl h c

  -- the same with each use once
  abbrev Same : List ℕ → List ℕ → List Use → Type 0
  Same t s us = once_below l s (expanded r (once_below n t us)) ≡ once_below l s (expanded r (below n us))

  same_if : (x y : Bool) (t s : List ℕ) (u : Use) (us : List Use) → among u.number t ≡ y → Covered t s
      → ((t s : List ℕ) → Covered t s → Same t s us)
      → once_below l s (expanded r (if x && not y then u ∷ once_below n (u.number ∷ t) us else once_below n t us))
      ≡ once_below l s (expanded r (if x then u ∷ below n us else below n us))
  same_if false y t s u us e c h = h t s c
  same_if true true t s u us e c h =
      h t s c ∙ sym (once_known l s (instead (r u.number) u) (expanded r (below n us)) (c u e))
  same_if true false t s u us e c h =
      once_append l s (instead (r u.number) u) (expanded r (once_below n (u.number ∷ t) us))
      ∙ ap (λ ts. once_below l s (instead (r u.number) u) ++ ts)
      (h (u.number ∷ t) (onto s (once_below l s (instead (r u.number) u))) (covered_more t s u c))
      ∙ sym (once_append l s (instead (r u.number) u) (expanded r (below n us)))

  same : (t s : List ℕ) (us : List Use) → Covered t s → Same t s us
  same t s [] c = refl
  same t s (u ∷ us) c =
      same_if (ltb u.number n) (among u.number t) t s u us refl c (λ t s c. same t s us c)

pub alike_once : (r : ℕ → Option (List Use)) (n : ℕ) (us : List Use)
    → Alike (expanded r (once_below n [] us)) (expanded r (below n us))
alike_once r n us = record { first = λ l s. same r l n [] s us (λ v h. absurd cc) }

pub once_alike : (n : ℕ) (us : List Use) → Alike (once_below n [] us) (below n us)
once_alike n us =
    through (equal _ _ (sym (expanded_none (once_below n [] us))))
    (through (alike_once (λ n. None) n us) (equal _ _ (expanded_none (below n us))))

-- Bounds.

-- what is dropped below n is not taken below l
pub once_of_below : (l n : ℕ) (s : List ℕ) (us : List Use) → l ≤ n
    → once_below l s (below n us) ≡ once_below l s us
once_of_below l n s [] h = refl
once_of_below l n s (u ∷ us) h =
    let kept = once_of_below l n (u.number ∷ s) us h in
    let left = once_of_below l n s us h in
    elim (cases_lt u.number n) [
      | inl k ↦
          ap (λ b. once_below l s (if b then u ∷ below n us else below n us)) (lt-ltb u.number n k)
          ∙ (λ i. if taken l s u.number then u ∷ kept i else left i)
      | inr k ↦
          ap (λ b. once_below l s (if b then u ∷ below n us else below n us)) (le-ltb u.number n k) ∙ left
          ∙ sym (ap (λ b. if b && not (among u.number s) then u ∷ once_below l (u.number ∷ s) us else once_below l s us)
          (le-ltb u.number l (omega (arith, h, k))))
    ]

-- each once below n, then below l
pub once_twice : (l n : ℕ) (s : List ℕ) (us : List Use) → l ≤ n
    → once_below l s (once_below n [] us) ≡ once_below l s us
once_twice l n s us h = (once_alike n us).first l s ∙ once_of_below l n s us h

below_if : (b : Bool) (u : Use) (us vs ws xs : List Use) → us ≡ vs ++ ws
    → (if b then u ∷ us else us) ≡ (if b then u ∷ vs else vs) ++ ws
below_if true u us vs ws xs e = ap (λ ts. u ∷ ts) e
below_if false u us vs ws xs e = e

pub below_append : (l : ℕ) (us vs : List Use) → below l (us ++ vs) ≡ below l us ++ below l vs
below_append l [] vs = refl
below_append l (u ∷ us) vs =
    below_if (ltb u.number l) u (below l (us ++ vs)) (below l us) (below l vs) [] (below_append l us vs)

below_placed_if : (b : Bool) (p : Place) (u : Use) (us vs : List Use) → us ≡ placed p vs
    → (if b then record u { place = p } ∷ us else us) ≡ placed p (if b then u ∷ vs else vs)
below_placed_if true p u us vs e = ap (λ ts. record u { place = p } ∷ ts) e
below_placed_if false p u us vs e = e

pub below_placed : (l : ℕ) (p : Place) (us : List Use) → below l (placed p us) ≡ placed p (below l us)
below_placed l p [] = refl
below_placed l p (u ∷ us) =
    below_placed_if (ltb u.number l) p u (below l (placed p us)) (below l us) (below_placed l p us)

-- the lower bound counts
pub below_below : (l n : ℕ) (us : List Use) → n ≤ l → below l (below n us) ≡ below n us
below_below l n [] h = refl
below_below l n (u ∷ us) h =
    let rest = below_below l n us h in
    elim (cases_lt u.number n) [
      | inl k ↦
          ap (λ b. below l (if b then u ∷ below n us else below n us)) (lt-ltb u.number n k)
          ∙ ap (λ b. if b then u ∷ below l (below n us) else below l (below n us))
          (lt-ltb u.number l (omega (arith, h, k)))
          ∙ ap (λ ts. u ∷ ts) rest
          ∙ sym (ap (λ b. if b then u ∷ below n us else below n us) (lt-ltb u.number n k))
      | inr k ↦
          ap (λ b. below l (if b then u ∷ below n us else below n us)) (le-ltb u.number n k) ∙ rest
          ∙ sym (ap (λ b. if b then u ∷ below n us else below n us) (le-ltb u.number n k))
    ]

-- what is below n is below l
pub below_more : (l n : ℕ) (us : List Use) → n ≤ l → below n us ≡ us → below l us ≡ us
below_more l n us h e = ap (λ ts. below l ts) (sym e) ∙ below_below l n us h ∙ e

once_in_if : (b : Bool) (l : ℕ) (u : Use) (us vs : List Use) → (b ≡ true → ltb u.number l ≡ true)
    → below l us ≡ us → below l vs ≡ vs → below l (if b then u ∷ us else vs) ≡ (if b then u ∷ us else vs)
once_in_if true l u us vs h e k =
    ap (λ b. if b then u ∷ below l us else below l us) (h refl) ∙ ap (λ ts. u ∷ ts) e
once_in_if false l u us vs h e k = k

and_first : (x y : Bool) → x && y ≡ true → x ≡ true
and_first true y h = refl
and_first false y h = h

-- what is taken is below the bound
pub below_once : (l : ℕ) (s : List ℕ) (us : List Use) → below l (once_below l s us) ≡ once_below l s us
below_once l s [] = refl
below_once l s (u ∷ us) =
    once_in_if (taken l s u.number) l u (once_below l (u.number ∷ s) us) (once_below l s us)
    (λ h. and_first (ltb u.number l) (not (among u.number s)) h) (below_once l (u.number ∷ s) us) (below_once l s us)

-- Stands for numbers below b alone, by numbers below b.
pub record IsLow (b : ℕ) (r : ℕ → Option (List Use)) : Type 0 where
  pub outer : (n : ℕ) → b ≤ n → r n ≡ None
  pub inner : (n : ℕ) (us : List Use) → r n ≡ Some us → below b us ≡ us

instead_below : (b l : ℕ) (o : Option (List Use)) (u : Use) → b ≤ l → u.number < l
    → ((us : List Use) → o ≡ Some us → below b us ≡ us) → below l (instead o u) ≡ instead o u
instead_below b l None u h k e = ap (λ b. if b then u ∷ [] else []) (lt-ltb u.number l k)
instead_below b l (Some us) u h k e =
    below_placed l u.place us ∙ ap (λ ts. placed u.place ts) (below_more l b us h (e us refl))

pub below_expanded : (b l : ℕ) (r : ℕ → Option (List Use)) (us : List Use) → IsLow b r → b ≤ l
    → below l (expanded r us) ≡ expanded r (below l us)
below_expanded b l r [] low h = refl
below_expanded b l r (u ∷ us) low h =
    let rest = below_expanded b l r us low h in
    below_append l (instead (r u.number) u) (expanded r us)
    ∙ elim (cases_lt u.number l) [
      | inl k ↦
          ap (λ ts. ts ++ below l (expanded r us)) (instead_below b l (r u.number) u h k (low.inner u.number))
          ∙ ap (λ ts. instead (r u.number) u ++ ts) rest
          ∙ sym (ap (λ b. expanded r (if b then u ∷ below l us else below l us)) (lt-ltb u.number l k))
      | inr k ↦
          ap (λ o. below l (instead o u) ++ below l (expanded r us)) (low.outer u.number (omega (arith, h, k)))
          ∙ ap (λ b. (if b then u ∷ [] else []) ++ below l (expanded r us)) (le-ltb u.number l k)
          ∙ rest
          ∙ sym (ap (λ b. expanded r (if b then u ∷ below l us else below l us)) (le-ltb u.number l k))
    ]

-- each once, before or after the others stand for them
pub once_expanded : (b n : ℕ) (r : ℕ → Option (List Use)) (us : List Use) → IsLow b r → b ≤ n
    → Alike (once_below n [] (expanded r us)) (expanded r (once_below n [] us))
once_expanded b n r us low h =
    through (once_alike n (expanded r us))
    (through (equal _ _ (below_expanded b n r us low h)) (other_way (alike_once r n us)))

-- what is taken below l of expanded uses needs each of these but once
pub taken_expanded : (b l n : ℕ) (s : List ℕ) (r : ℕ → Option (List Use)) (us : List Use) → IsLow b r → b ≤ n → l ≤ n
    → once_below l s (expanded r (once_below n [] us)) ≡ once_below l s (expanded r us)
taken_expanded b l n s r us low h k =
    (alike_once r n us).first l s
    ∙ ap (λ ts. once_below l s ts) (sym (below_expanded b n r us low h))
    ∙ once_of_below l n s (expanded r us) k
