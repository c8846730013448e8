-- Where a key stands among pairs that rise by their keys, and what is found and put there.
use Rattle.std.proofs.Common.{◌≡◌, ◌≢◌, refl, sym, ap, ap₂, ◌∙◌, subst, ℕ, zero, suc, ◌+◌, ◌-◌, ◌<◌, ◌≤◌, List, []}
use Rattle.std.proofs.Common.{◌∷◌, ◌++◌, map, take, drop, length, get_or, IsTrue, Bool, true, false, ◌&&◌}
use Rattle.std.proofs.Common.{if◌then◌else◌, Some, None, arith, append_assoc}
use Rattle.std.proofs.lemmas.List.{map-append, take_all, length-drop}
use Rattle.std.specs.List.{All}
use Rattle.std.specs.declared.cmp.Ordering.{Ordering}
use Rattle.std.specs.declared.cmp.Ordering.TheVariants.{Less, Equal, Greater}
use Rattle.erl_term.proofs.Forms.{left_true, right_true, both_true}
use Rattle.erl_term.proofs.OrderLaws.{total, apart}
use Rattle.erl_term.proofs.MapLaws.{put_rises}
use Rattle.erl_term.specs.Term as P
use Rattle.erl_term.specs.Term.{Term}
use Rattle.erl_term.specs.TermOrder.{compare, same_term, is_equal}
use Rattle.erl_term.specs.Terms.{pairs, put, value_at}
use Rattle.erl_term.specs.WellFormed.{is_below, comes_first, maps_rise, pairs_rise}
use Rattle.shared_term.specs.Places.{stands, IsFound, IsMissing, IsRoom}
use Rattle.shared_term.specs.View.{view, pair_view, pair_row, IsWhole, IsPairWhole, AreMapPairs}
use Rattle.shared_term.specs.declared.value.ValuePair.{ValuePair}
use Rattle.shared_term.proofs.Pairs.{first_rises}

pub stands_beyond : (k : Term) (ps : List ValuePair) (i : ℕ) → length ps ≤ i → stands k ps i ≡ Less
stands_beyond k [] i h = refl
stands_beyond k (p ∷ ps) zero h = absurd (omega (arith, h))
stands_beyond k (p ∷ ps) (suc i) h = stands_beyond k ps i (omega (arith, h))

pub stands_at : (k : Term) (ps : List ValuePair) (i : ℕ) (d : ValuePair) → i < length ps
    → stands k ps i ≡ compare k (view (get_or ps i d).key)
stands_at k [] i d h = absurd (omega (arith, h))
stands_at k (p ∷ ps) zero d h = refl
stands_at k (p ∷ ps) (suc i) d h = stands_at k ps i d (omega (arith, h))

below_is : (o : Ordering) → IsTrue (is_below o) → o ≡ Less
below_is Less h = refl
below_is Equal h = absurd cc
below_is Greater h = absurd cc

-- the first key of rising pairs is below the second
next_above : (p q : ValuePair) (ps : List ValuePair) → IsTrue (pairs_rise (pair_row (p ∷ q ∷ ps)))
    → compare (view p.key) (view q.key) ≡ Less
unfolding maps_rise comes_first
next_above p q ps h =
    below_is _ (left_true (is_below (compare (view p.key) (view q.key))) (maps_rise (view p.key))
    (left_true _ (maps_rise (view p.value)) (left_true _ (pairs_rise (pair_row (q ∷ ps))) h)))

rest_rises : (p : ValuePair) (ps : List ValuePair) → IsTrue (pairs_rise (pair_row (p ∷ ps)))
    → IsTrue (pairs_rise (pair_row ps))
rest_rises p ps h = (first_rises (view p.key) (view p.value) (pair_row ps) h).2

-- a key that is not above the first is below all behind it
below_rest : (k : Term) (p : ValuePair) (ps : List ValuePair) → (compare k (view p.key) ≡ Greater → ⊥)
    → IsTrue (pairs_rise (pair_row (p ∷ ps)))
    → (i : ℕ) → stands k ps i ≡ Less
below_rest k p [] n h i = refl
below_rest k p (q ∷ ps) n h i =
    let l : compare k (view q.key) ≡ Less = by (compare k (view p.key)) refl in
    at i l (below_rest k q ps (λ g. let c : Less ≡ Greater = sym l ∙ g in cc) (rest_rises p (q ∷ ps) h))
  where
    by : (o : Ordering) → compare k (view p.key) ≡ o → compare k (view q.key) ≡ Less
    by Less e = total.trans k (view p.key) (view q.key) e (next_above p q ps h)
    by Equal e = total.congr k (view p.key) (view q.key) e ∙ next_above p q ps h
    by Greater e = absurd (n e)

    at : (i : ℕ) → compare k (view q.key) ≡ Less → ((j : ℕ) → stands k ps j ≡ Less) → stands k (q ∷ ps) i ≡ Less
    at zero l r = l
    at (suc i) l r = r i

pub less_after : (k : Term) (ps : List ValuePair) → IsTrue (pairs_rise (pair_row ps)) → (i j : ℕ)
    → stands k ps i ≡ Less → i ≤ j → stands k ps j ≡ Less
less_after k [] h i j e l = refl
less_after k (p ∷ ps) h zero zero e l = e
less_after k (p ∷ ps) h zero (suc j) e l = below_rest k p ps (λ g. let c : Less ≡ Greater = sym e ∙ g in cc) h j
less_after k (p ∷ ps) h (suc i) zero e l = absurd (omega (arith, l))
less_after k (p ∷ ps) h (suc i) (suc j) e l = less_after k ps (rest_rises p ps h) i j e (omega (arith, l))

pub greater_before : (k : Term) (ps : List ValuePair) → IsTrue (pairs_rise (pair_row ps)) → (i j : ℕ)
    → (stands k ps j ≡ Less → ⊥) → i < j → stands k ps i ≡ Greater
greater_before k [] h i j n l = absurd (n refl)
greater_before k (p ∷ ps) h i zero n l = absurd (omega (arith, l))
greater_before k (p ∷ ps) h zero (suc j) n l = by (compare k (view p.key)) refl
  where
    by : (o : Ordering) → compare k (view p.key) ≡ o → compare k (view p.key) ≡ Greater
    by Less e = absurd (n (below_rest k p ps (λ g. let c : Less ≡ Greater = sym e ∙ g in cc) h j))
    by Equal e = absurd (n (below_rest k p ps (λ g. let c : Equal ≡ Greater = sym e ∙ g in cc) h j))
    by Greater e = e
greater_before k (p ∷ ps) h (suc i) (suc j) n l = greater_before k ps (rest_rises p ps h) i j n (omega (arith, l))

-- what is found

at_first : (k l v : Term) (ps : P.Pairs) (o : Ordering) → compare k l ≡ o
    → value_at (P.pair l v ps) k ≡ (if is_equal o then Some v else value_at ps k)
unfolding same_term
at_first k l v ps o e = ap (λ x. if is_equal x then Some v else value_at ps k) e

pub value_found : (k : Term) (ps : List ValuePair) (i : ℕ) (d : ValuePair) → IsFound k ps i
    → value_at (pair_row ps) k ≡ Some (view (get_or ps i d).value)
value_found k [] i d h = absurd (omega (arith, h.within))
value_found k (p ∷ ps) zero d h = at_first k (view p.key) (view p.value) (pair_row ps) Equal h.here
value_found k (p ∷ ps) (suc i) d h =
    at_first k (view p.key) (view p.value) (pair_row ps) Greater (h.below 0 (omega arith))
    ∙ value_found k ps i d
    (record { within = omega (arith, h.within); below = λ j l. h.below (suc j) (omega (arith, l)); here = h.here })

pub value_missing : (k : Term) (ps : List ValuePair) (i : ℕ) → IsMissing k ps i → value_at (pair_row ps) k ≡ None
value_missing k [] i h = refl
value_missing k (p ∷ ps) zero h =
    at_first k (view p.key) (view p.value) (pair_row ps) Less (h.above 0 (omega arith))
    ∙ value_missing k ps zero
    (record {
      within = omega arith;
      below = λ j l. absurd (omega (arith, l));
      above = λ j l. h.above (suc j)
          (omega arith);
    })
value_missing k (p ∷ ps) (suc i) h =
    at_first k (view p.key) (view p.value) (pair_row ps) Greater (h.below 0 (omega arith))
    ∙ value_missing k ps i
    (record {
      within = omega (arith, h.within);
      below = λ j l. h.below (suc j)
          (omega (arith, l));
      above = λ j l. h.above (suc j) (omega (arith, l));
    })

-- what is put

abbrev placed : Term → Term → Term → Term → P.Pairs → Ordering → P.Pairs
placed k v l w ps o =
    elim o [ Less ↦ P.pair k v (P.pair l w ps) | Equal ↦ P.pair k v ps | Greater ↦ P.pair l w (put k v ps) ]

put_at : (k v l w : Term) (ps : P.Pairs) (o : Ordering) → compare k l ≡ o
    → put k v (P.pair l w ps) ≡ placed k v l w ps o
unfolding put
put_at k v l w ps o e = ap (placed k v l w ps) e

abbrev between : Term → Term → List ValuePair → ℕ → ℕ → P.Pairs
between k v ps i j = pairs (map pair_view (take i ps) ++ (k, v) ∷ map pair_view (drop j ps))

put_found : (k v : Term) (ps : List ValuePair) (i : ℕ) → IsFound k ps i
    → put k v (pair_row ps) ≡ between k v ps i (suc i)
put_found k v [] i h = absurd (omega (arith, h.within))
put_found k v (p ∷ ps) zero h = put_at k v (view p.key) (view p.value) (pair_row ps) Equal h.here
put_found k v (p ∷ ps) (suc i) h =
    put_at k v (view p.key) (view p.value) (pair_row ps) Greater (h.below 0 (omega arith))
    ∙ ap (P.pair (view p.key) (view p.value))
    (put_found k v ps i
    (record { within = omega (arith, h.within); below = λ j l. h.below (suc j) (omega (arith, l)); here = h.here }))

put_missing : (k v : Term) (ps : List ValuePair) (i : ℕ) → IsMissing k ps i → put k v (pair_row ps) ≡ between k v ps i i
unfolding put
put_missing k v [] zero h = refl
put_missing k v [] (suc i) h = absurd (omega (arith, h.within))
put_missing k v (p ∷ ps) zero h = put_at k v (view p.key) (view p.value) (pair_row ps) Less (h.above 0 (omega arith))
put_missing k v (p ∷ ps) (suc i) h =
    put_at k v (view p.key) (view p.value) (pair_row ps) Greater (h.below 0 (omega arith))
    ∙ ap (P.pair (view p.key) (view p.value))
    (put_missing k v ps i
    (record {
      within = omega (arith, h.within);
      below = λ j l. h.below (suc j)
          (omega (arith, l));
      above = λ j l. h.above (suc j) (omega (arith, l));
    }))

pub room_found : (k : Term) (ps : List ValuePair) (i j : ℕ) → j ≡ i + 1 → IsFound k ps i → IsRoom k ps i j
room_found k ps i j e h = record {
  first_within = omega (arith, h.within);
  last_within = omega (arith, e, h.within);
  put_between = λ v. let f : suc i ≡ j = omega (arith, e) in put_found k v ps i h ∙ ap (between k v ps i) f;
}

pub room_missing : (k : Term) (ps : List ValuePair) (i : ℕ) → IsMissing k ps i → IsRoom k ps i i
room_missing k ps i h =
    record { first_within = h.within; last_within = h.within; put_between = λ v. put_missing k v ps i h }

-- pairs with one more among them are those of a map
pub put_whole : (k v : Term) (ps all : List ValuePair) (i j : ℕ) → IsRoom k ps i j
    → map pair_view all ≡ map pair_view (take i ps) ++ (k, v) ∷ map pair_view (drop j ps)
    → pair_row all ≡ put k v (pair_row ps)
put_whole k v ps all i j r e = ap pairs e ∙ sym (r.put_between v)

pub put_is_whole : (k v : Term) (ps all : List ValuePair) → pair_row all ≡ put k v (pair_row ps)
    → IsTrue (maps_rise k) → IsTrue (maps_rise v)
    → AreMapPairs ps → All IsPairWhole all → AreMapPairs all
put_is_whole k v ps all e f g h w = record {
  parts = w;
  rising = subst (λ qs. IsTrue (pairs_rise qs)) (sym e)
      (put_rises k v (pair_row ps) f g h.rising);
}

-- the first pairs, one more, and the last ones
pub between_pushed : (none first more all : List ValuePair) (qs : List ValuePair) (j : ℕ) (xs : List (Term × Term))
    (p : ValuePair) → none ≡ [] → map pair_view first ≡ map pair_view none ++ xs
    → more ≡ first ++ p ∷ []
    → map pair_view all ≡ map pair_view more ++ map pair_view (take (length qs - j) (drop j qs))
    → map pair_view all ≡ xs ++ (view p.key, view p.value) ∷ map pair_view (drop j qs)
between_pushed none first more all qs j xs p n f m a =
    let ys = map pair_view (drop j qs) in
    let l : take (length qs - j) (drop j qs) ≡ drop j qs =
    take_all (length qs - j) (drop j qs) (omega (arith, length-drop j qs)) in
    a ∙ ap (λ rs. map pair_view more ++ map pair_view rs) l ∙ ap (λ ps. map pair_view ps ++ ys) m
    ∙ ap (λ rs. rs ++ ys) (map-append pair_view first (p ∷ []))
    ∙ ap (λ rs. (rs ++ (view p.key, view p.value) ∷ []) ++ ys) (f ∙ ap (λ ps. map pair_view ps ++ xs) n)
    ∙ append_assoc xs ((view p.key, view p.value) ∷ []) ys
