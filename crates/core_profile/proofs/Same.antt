-- Lists with the same members have the same first fault.
use Rattle.std.proofs.Common.{◌≡◌, inl, inr, List, [], ◌∷◌, ◌++◌, get_or, refl, subst, false, append_assoc, arith}
use Rattle.std.specs.List.{Contains}
use Rattle.std.proofs.lemmas.List.Elements.{All-contains, Contains-get_or, Contains-append_left, Contains-append_right, Contains-append_cases}
use Rattle.erl_base.specs.declared.refusal.Refusal.{Refusal}
use Rattle.first_fault.specs.FirstFault.{comes_before, IsFirst}

-- the same faults, in whatever order
pub record Same (xs ys : List Refusal) : Type 0 where
  pub into : (f : Refusal) → Contains xs f → Contains ys f
  pub back : (f : Refusal) → Contains ys f → Contains xs f

pub itself : (xs : List Refusal) → Same xs xs
itself xs = record { into = λ f h. h; back = λ f h. h }

pub through : {xs ys zs : List Refusal} → Same xs ys → Same ys zs → Same xs zs
through v w = record { into = λ f h. w.into f (v.into f h); back = λ f h. v.back f (w.back f h) }

pub other_way : {xs ys : List Refusal} → Same xs ys → Same ys xs
other_way v = record { into = v.back; back = v.into }

pub equal : (xs ys : List Refusal) → xs ≡ ys → Same xs ys
equal xs ys e = subst (λ l. Same xs l) e (itself xs)

pub both : {ps qs rs ts : List Refusal} → Same ps rs → Same qs ts → Same (ps ++ qs) (rs ++ ts)
both {ps} {qs} {rs} {ts} v w = record {
  into = λ f h. elim (Contains-append_cases ps qs f h) [
    | inl k ↦ Contains-append_left rs ts f (v.into f k)
    | inr k ↦ Contains-append_right rs ts f (w.into f k)
  ];
  back = λ f h. elim (Contains-append_cases rs ts f h) [
    | inl k ↦ Contains-append_left ps qs f (v.back f k)
    | inr k ↦ Contains-append_right ps qs f (w.back f k)
  ];
}

swap_into : (xs ys : List Refusal) (f : Refusal) → Contains (xs ++ ys) f → Contains (ys ++ xs) f
swap_into xs ys f h = elim (Contains-append_cases xs ys f h) [
  | inl k ↦ Contains-append_right ys xs f k
  | inr k ↦ Contains-append_left ys xs f k
]

pub swapped : (xs ys : List Refusal) → Same (xs ++ ys) (ys ++ xs)
swapped xs ys = record { into = swap_into xs ys; back = swap_into ys xs }

pub grouped : (xs ys zs : List Refusal) → Same ((xs ++ ys) ++ zs) (xs ++ (ys ++ zs))
grouped xs ys zs = equal ((xs ++ ys) ++ zs) (xs ++ (ys ++ zs)) (append_assoc xs ys zs)

-- the two in the middle change places
pub crossed : (ps qs rs ts : List Refusal) → Same ((ps ++ qs) ++ (rs ++ ts)) ((ps ++ rs) ++ (qs ++ ts))
crossed ps qs rs ts =
    through (grouped ps qs (rs ++ ts))
    (through (both (itself ps) (through (other_way (grouped qs rs ts))
    (through (both (swapped qs rs) (itself ts)) (grouped rs qs ts))))
    (other_way (grouped ps rs (qs ++ ts))))

pub first_of_same : {xs ys : List Refusal} (f : Refusal) → Same xs ys → IsFirst xs f → IsFirst ys f
first_of_same {xs} {ys} f v w = record {
  stands = v.into f w.stands;
  least = λ k d l. All-contains (λ other. comes_before other f ≡ false) xs (get_or ys k d) w.least
      (v.back (get_or ys k d) (Contains-get_or ys k d l));
}

pub none_of_same : (ys : List Refusal) → Same [] ys → ys ≡ []
none_of_same [] v = refl
none_of_same (y ∷ ys) v =
    let h = v.back (get_or (y ∷ ys) 0 y) (Contains-get_or (y ∷ ys) 0 y (omega arith)) in
    let k = h.1 in
    absurd (omega (arith, k))
