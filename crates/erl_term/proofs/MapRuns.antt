-- Runs of pairs whose keys rise, and what merging two of them gives.
use Rattle.std.proofs.Common.{◌≡◌, ℕ, zero, suc, ◌+◌, refl, sym, ap, ap₂, ◌∙◌, subst, List, [], ◌∷◌, ◌++◌, map, length, take, drop, Option, Some, None, option_to_list, IsTrue, true, ◌&&◌, arith}
use Rattle.std.specs.declared.cmp.Ordering.{Ordering}
use Rattle.std.specs.declared.cmp.Ordering.TheVariants.{Less, Equal, Greater}
use Rattle.std.specs.Ordering.{ordering_reverse}
use Rattle.erl_term.specs.declared.term.Pair.{Pair}
use Rattle.erl_term.specs.Term.{Term, Pairs, no_pair, pair}
use Rattle.erl_term.specs.TermOrder.{compare}
use Rattle.erl_term.specs.Terms.{pairs, listed_pairs, put, put_all}
use Rattle.erl_term.specs.View.{pair_view}
use Rattle.erl_term.specs.WellFormed.{is_below, comes_first, maps_rise, pairs_rise, pair_normal}
use Rattle.erl_term.specs.Comparing.{pair_row, PairsNormal}
use Rattle.erl_term.proofs.OrderLaws.{total, same, apart}
use Rattle.erl_term.proofs.MapLaws.{put_rises}
use Rattle.erl_term.proofs.Forms.{left_true, right_true, both_true}
use Rattle.erl_term.specs.Merging.{IsRun, front_order, merge, TakesLeast}
use Rattle.erl_term.specs.WellRows.{parts_rise, PairsWellFormed}

-- How a pair is put.

abbrev placed : Term → Term → Term → Term → Pairs → Ordering → Pairs
placed k v l w ps o = elim o [ Less ↦ pair k v (pair l w ps) | Equal ↦ pair k v ps | Greater ↦ pair l w (put k v ps) ]

put_at : (k v l w : Term) (ps : Pairs) (o : Ordering) → compare k l ≡ o → put k v (pair l w ps) ≡ placed k v l w ps o
unfolding put
put_at k v l w ps o e = ap (placed k v l w ps) e

turned : (k l : Term) (o : Ordering) → compare k l ≡ o → compare l k ≡ ordering_reverse o
turned k l o e = total.antisymm l k ∙ ap ordering_reverse e

itself : (k : Term) → compare k k ≡ Equal
itself k = (apart k k).1 refl

-- the later of two with one key stays
put-put : (k v w : Term) (ps : Pairs) → put k v (put k w ps) ≡ put k v ps
unfolding put
put-put k v w no_pair = put_at k v k w no_pair Equal (itself k)
put-put k v w (pair l x ps) = by (compare k l) refl (put-put k v w ps)
  where
    by : (o : Ordering) → compare k l ≡ o → put k v (put k w ps) ≡ put k v ps
        → put k v (placed k w l x ps o) ≡ placed k v l x ps o
    by Less e h = put_at k v k w (pair l x ps) Equal (itself k)
    by Equal e h = put_at k v k w ps Equal (itself k)
    by Greater e h = put_at k v l x (put k w ps) Greater e ∙ ap (pair l x) h

-- a key below another goes in before or after it
put-below : (k v l w : Term) → compare k l ≡ Less → (ps : Pairs) → put k v (put l w ps) ≡ put l w (put k v ps)
unfolding put
put-below k v l w d no_pair = put_at k v l w no_pair Less d ∙ sym (put_at l w k v no_pair Greater (turned k l Less d))
put-below k v l w d (pair j x ps) = by (compare k j) (compare l j) refl refl (put-below k v l w d ps)
  where
    front : (qs : Pairs) → put k v (pair l w qs) ≡ pair k v (pair l w qs)
    front qs = put_at k v l w qs Less d

    behind : (qs : Pairs) → put l w (pair k v qs) ≡ pair k v (put l w qs)
    behind qs = put_at l w k v qs Greater (turned k l Less d)

    by : (o p : Ordering) → compare k j ≡ o → compare l j ≡ p → put k v (put l w ps) ≡ put l w (put k v ps)
        → put k v (placed l w j x ps p) ≡ put l w (placed k v j x ps o)
    by Less Less e f h = front (pair j x ps) ∙ sym (behind (pair j x ps) ∙ ap (pair k v) (put_at l w j x ps Less f))
    by Less Equal e f h = front ps ∙ sym (behind (pair j x ps) ∙ ap (pair k v) (put_at l w j x ps Equal f))
    by Less Greater e f h = put_at k v j x (put l w ps) Less e
        ∙ sym (behind (pair j x ps) ∙ ap (pair k v) (put_at l w j x ps Greater f))
    by Equal Less e f h = let g : compare k j ≡ Less =
        total.trans k l j d f in let n : Less ≡ Equal = sym g ∙ e in absurd cc
    by Equal Equal e f h = let g : compare k l ≡ Equal =
        (apart k l).1 (same k j e ∙ sym (same l j f)) in let n : Less ≡ Equal = sym d ∙ g in absurd cc
    by Equal Greater e f h = put_at k v j x (put l w ps) Equal e ∙ sym (behind ps)
    by Greater Less e f h = let g : compare k j ≡ Less =
        total.trans k l j d f in let n : Less ≡ Greater = sym g ∙ e in absurd cc
    by Greater Equal e f h = let g : compare k j ≡ Less =
        subst (λ y. compare k y ≡ Less) (same l j f) d in let n : Less ≡ Greater = sym g ∙ e in absurd cc
    by Greater Greater e f h =
        put_at k v j x (put l w ps) Greater e ∙ ap (pair j x) h ∙ sym (put_at l w j x (put k v ps) Greater f)

-- Keys above another.

abbrev pub Above : Term → List (Term × Term) → Type 0
Above k [] = Unit {0}
Above k (q ∷ qs) = (compare k q.0 ≡ Less) × Above k qs

above_more : (j k : Term) → compare j k ≡ Less → (s : List (Term × Term)) → Above k s → Above j s
above_more j k e [] h = tt
above_more j k e (q ∷ qs) h = (total.trans j k q.0 e h.0, above_more j k e qs h.1)

below_is : (o : Ordering) → IsTrue (is_below o) → o ≡ Less
below_is Less h = refl
below_is Equal h = absurd cc
below_is Greater h = absurd cc

rest_rises : (k v : Term) (ps : Pairs) → IsTrue (pairs_rise (pair k v ps)) → IsTrue (pairs_rise ps)
unfolding maps_rise comes_first
rest_rises k v ps h = right_true _ (pairs_rise ps) h

above_of : (k v : Term) (s : List (Term × Term)) → IsTrue (pairs_rise (pair k v (pairs s))) → Above k s
unfolding maps_rise comes_first
above_of k v [] h = tt
above_of k v (q ∷ qs) h =
    let first : IsTrue (is_below (compare k q.0)) =
    left_true _ (maps_rise k) (left_true _ (maps_rise v) (left_true _ (pairs_rise (pair q.0 q.1 (pairs qs))) h)) in
    let less : compare k q.0 ≡ Less = below_is (compare k q.0) first in
    (less, above_more k q.0 less qs (above_of q.0 q.1 qs (rest_rises k v (pair q.0 q.1 (pairs qs)) h)))

-- what is below all that is put in stays in front
below_rest : (k v : Term) (f : Pairs) (s : List (Term × Term)) → Above k s
    → put_all s (pair k v f) ≡ pair k v (put_all s f)
below_rest k v f [] h = refl
below_rest k v f (q ∷ qs) h =
    ap (put_all qs) (put_at q.0 q.1 k v f Greater (turned k q.0 Less h.0)) ∙ below_rest k v (put q.0 q.1 f) qs h.1

-- and may be put in before them or after
put_above : (k v : Term) (s : List (Term × Term)) (f : Pairs) → Above k s
    → put k v (put_all s f) ≡ put_all s (put k v f)
put_above k v [] f h = refl
put_above k v (q ∷ qs) f h = put_above k v qs (put q.0 q.1 f) h.1 ∙ ap (put_all qs) (put-below k v q.0 q.1 h.0 f)

pairs-listed : (ps : Pairs) → pairs (listed_pairs ps) ≡ ps
pairs-listed no_pair = refl
pairs-listed (pair k v ps) = ap (pair k v) (pairs-listed ps)

above_listed : (k v : Term) (ps : Pairs) → IsTrue (pairs_rise (pair k v ps)) → Above k (listed_pairs ps)
above_listed k v ps h = above_of k v (listed_pairs ps)
    (subst (λ qs. IsTrue (pairs_rise (pair k v qs))) (sym (pairs-listed ps)) h)

-- one more pair into what is put in
one_more : (k v : Term) (q f : Pairs) → IsTrue (pairs_rise q)
    → put k v (put_all (listed_pairs q) f) ≡ put_all (listed_pairs (put k v q)) f
unfolding put
one_more k v no_pair f h = refl
one_more k v (pair l w q) f h = by (compare k l) refl (one_more k v q (put l w f) (rest_rises l w q h))
  where
    by : (o : Ordering) → compare k l ≡ o
        → put k v (put_all (listed_pairs q) (put l w f)) ≡ put_all (listed_pairs (put k v q)) (put l w f)
        → put k v (put_all (listed_pairs q) (put l w f)) ≡ put_all (listed_pairs (placed k v l w q o)) f
    by Less e g = put_above k v ((l, w) ∷ listed_pairs q) f
        (e, above_more k l e (listed_pairs q) (above_listed l w q h))
    by Equal e g =
        put_above k v (listed_pairs q) (put l w f)
        (subst (λ x. Above x (listed_pairs q)) (sym (same k l e)) (above_listed l w q h))
        ∙ ap (put_all (listed_pairs q)) (ap (λ x. put k v (put x w f)) (sym (same k l e)) ∙ put-put k v w f)
    by Greater e g = g

put_all_rises : (s : List (Term × Term)) (f : Pairs) → IsTrue (parts_rise (pairs s)) → IsTrue (pairs_rise f)
    → IsTrue (pairs_rise (put_all s f))
put_all_rises [] f h g = g
put_all_rises (q ∷ qs) f h g =
    let both : IsTrue (maps_rise q.0 && maps_rise q.1) = left_true _ (parts_rise (pairs qs)) h in
    put_all_rises qs (put q.0 q.1 f) (right_true _ (parts_rise (pairs qs)) h)
    (put_rises q.0 q.1 f (left_true (maps_rise q.0) (maps_rise q.1) both)
    (right_true (maps_rise q.0) (maps_rise q.1) both) g)

no_pair_rises : IsTrue (pairs_rise no_pair)
unfolding maps_rise
no_pair_rises = refl

-- all of them at once, or first among themselves
all_more : (ys : List (Term × Term)) (q f : Pairs) → IsTrue (parts_rise (pairs ys)) → IsTrue (pairs_rise q)
    → put_all ys (put_all (listed_pairs q) f) ≡ put_all (listed_pairs (put_all ys q)) f
all_more [] q f h g = refl
all_more (y ∷ ys) q f h g =
    let both : IsTrue (maps_rise y.0 && maps_rise y.1) = left_true _ (parts_rise (pairs ys)) h in
    ap (put_all ys) (one_more y.0 y.1 q f g)
    ∙ all_more ys (put y.0 y.1 q) f (right_true _ (parts_rise (pairs ys)) h)
    (put_rises y.0 y.1 q (left_true (maps_rise y.0) (maps_rise y.1) both)
    (right_true (maps_rise y.0) (maps_rise y.1) both) g)

-- Runs.

run_parts : (ps : Pairs) → IsTrue (pairs_rise ps) → IsTrue (parts_rise ps)
unfolding maps_rise comes_first
run_parts no_pair h = refl
run_parts (pair k v ps) h =
    let a = left_true _ (pairs_rise ps) h in
    let b = left_true _ (maps_rise v) a in
    both_true (maps_rise k && maps_rise v) (parts_rise ps)
    (both_true (maps_rise k) (maps_rise v) (right_true (comes_first k ps) (maps_rise k) b)
    (right_true (comes_first k ps && maps_rise k) (maps_rise v) a))
    (run_parts ps (right_true (comes_first k ps && maps_rise k && maps_rise v) (pairs_rise ps) h))

rest_normal : (p : Pair) (ps : List Pair) → PairsNormal (p ∷ ps) → PairsNormal ps
rest_normal p ps h = right_true (pair_normal p) _ h

run_rest : (p : Pair) (ps : List Pair) → IsRun (p ∷ ps) → IsRun ps
run_rest p ps h = record {
  normal = rest_normal p ps h.normal;
  rising = rest_rises (pair_view p).0 (pair_view p).1 (pair_row ps) h.rising;
}

pub no_run : IsRun []
no_run = record { normal = refl; rising = no_pair_rises }

-- the least pair taken off
pub takes_first : (r : Option Pair) (ps ps' qs : List Pair) → (r ≡ None → ps ≡ []) → ps ≡ option_to_list r ++ ps'
    → Less ≡ front_order (pair_row ps) (pair_row qs)
    → IsRun ps → IsRun qs → TakesLeast r ps qs ps' qs
takes_first None ps ps' [] n e o h k =
    record { taken = (n refl, refl, sym e ∙ n refl, refl); first = subst IsRun e h; second = k; fewer = tt }
takes_first None ps ps' (q ∷ qs) n e o h k =
    let g : Less ≡ Greater = o ∙ ap (λ xs. front_order (pair_row xs) (pair_row (q ∷ qs))) (n refl) in absurd cc
takes_first (Some p) ps ps' qs n e o h k = record {
  taken = (
    ap (λ xs. merge xs qs) e ∙ in_front qs (sym (o ∙ ap (λ xs. front_order (pair_row xs) (pair_row qs)) e)) k,
    left_true (pair_normal p) _ (subst PairsNormal e h.normal),
  );
  first = run_rest p ps' (subst IsRun e h);
  second = k;
  fewer = omega (arith, ap length e);
}
  where
    in_front : (qs : List Pair) → front_order (pair_row (p ∷ ps')) (pair_row qs) ≡ Less → IsRun qs
        → merge (p ∷ ps') qs ≡ pair (pair_view p).0 (pair_view p).1 (merge ps' qs)
    in_front [] o k = refl
    in_front (q ∷ qs) o k =
        below_rest (pair_view p).0 (pair_view p).1 (pair_row ps') (map pair_view (q ∷ qs)) (
          o,
          above_more (pair_view p).0 (pair_view q).0 o (map pair_view qs)
              (above_of (pair_view q).0 (pair_view q).1 (map pair_view qs) k.rising),
        )

pub takes_second : (r : Option Pair) (ps qs qs' : List Pair) → (r ≡ None → qs ≡ []) → qs ≡ option_to_list r ++ qs'
    → Greater ≡ front_order (pair_row ps) (pair_row qs)
    → IsRun ps → IsRun qs → TakesLeast r ps qs ps qs'
unfolding put
takes_second None ps qs qs' n e o h k =
    let g : Greater ≡ Less = o ∙ ap (λ xs. front_order (pair_row ps) (pair_row xs)) (n refl) in absurd cc
takes_second (Some q) ps qs qs' n e o h k = record {
  taken = (
    ap (merge ps) e
        ∙ in_front ps (sym (o ∙ ap (λ xs. front_order (pair_row ps) (pair_row xs)) e)) (subst IsRun e k),
    left_true (pair_normal q) _ (subst PairsNormal e k.normal),
  );
  first = h;
  second = run_rest q qs' (subst IsRun e k);
  fewer = omega (arith, ap length e);
}
  where
    in_front : (ps : List Pair) → front_order (pair_row ps) (pair_row (q ∷ qs')) ≡ Greater → IsRun (q ∷ qs')
        → merge ps (q ∷ qs') ≡ pair (pair_view q).0 (pair_view q).1 (merge ps qs')
    in_front [] o k = below_rest (pair_view q).0 (pair_view q).1 no_pair (map pair_view qs')
        (above_of (pair_view q).0 (pair_view q).1 (map pair_view qs') k.rising)
    in_front (p ∷ ps) o k =
        ap (put_all (map pair_view qs'))
        (put_at (pair_view q).0 (pair_view q).1 (pair_view p).0 (pair_view p).1 (pair_row ps) Less
        (turned (pair_view p).0 (pair_view q).0 Greater o))
        ∙ below_rest (pair_view q).0 (pair_view q).1 (pair_row (p ∷ ps)) (map pair_view qs')
        (above_of (pair_view q).0 (pair_view q).1 (map pair_view qs') k.rising)

pub takes_both : (r s : Option Pair) (ps ps' qs qs' : List Pair) → (r ≡ None → ps ≡ []) → ps ≡ option_to_list r ++ ps'
    → (s ≡ None → qs ≡ []) → qs ≡ option_to_list s ++ qs'
    → Equal ≡ front_order (pair_row ps) (pair_row qs) → IsRun ps → IsRun qs → TakesLeast s ps qs ps' qs'
takes_both r None ps ps' qs qs' n e m f o h k =
    let g : Equal ≡ Less = o ∙ ap (λ xs. front_order (pair_row ps) (pair_row xs)) (m refl) in absurd cc
takes_both None (Some q) ps ps' qs qs' n e m f o h k =
    let g : Equal ≡ Greater = o ∙ ap₂ (λ xs ys. front_order (pair_row xs) (pair_row ys)) (n refl) f in absurd cc
takes_both (Some p) (Some q) ps ps' qs qs' n e m f o h k = record {
  taken = (
    ap₂ merge e f ∙ in_front (sym (o ∙ ap₂ (λ xs ys. front_order (pair_row xs) (pair_row ys)) e f))
        (subst IsRun f k),
    left_true (pair_normal q) _ (subst PairsNormal f k.normal),
  );
  first = run_rest p ps' (subst IsRun e h);
  second = run_rest q qs' (subst IsRun f k);
  fewer = omega (arith, ap length e, ap length f);
}
  where
    in_front : front_order (pair_row (p ∷ ps')) (pair_row (q ∷ qs')) ≡ Equal → IsRun (q ∷ qs')
        → merge (p ∷ ps') (q ∷ qs') ≡ pair (pair_view q).0 (pair_view q).1 (merge ps' qs')
    in_front o k =
        ap (put_all (map pair_view qs'))
        (put_at (pair_view q).0 (pair_view q).1 (pair_view p).0 (pair_view p).1 (pair_row ps') Equal
        (turned (pair_view p).0 (pair_view q).0 Equal o))
        ∙ below_rest (pair_view q).0 (pair_view q).1 (pair_row ps') (map pair_view qs')
        (above_of (pair_view q).0 (pair_view q).1 (map pair_view qs') k.rising)

-- The loop of a merge.

-- pairs in front of a map
abbrev pub in_front_of : List Pair → Pairs → Pairs
in_front_of [] m = m
in_front_of (p ∷ ps) m = pair (pair_view p).0 (pair_view p).1 (in_front_of ps m)

in_front-push : (ps : List Pair) (p : Pair) (m : Pairs)
    → in_front_of (ps ++ p ∷ []) m ≡ in_front_of ps (pair (pair_view p).0 (pair_view p).1 m)
in_front-push [] p m = refl
in_front-push (q ∷ ps) p m = ap (pair (pair_view q).0 (pair_view q).1) (in_front-push ps p m)

in_front-none : (ps : List Pair) → in_front_of ps no_pair ≡ pair_row ps
in_front-none [] = refl
in_front-none (p ∷ ps) = ap (pair (pair_view p).0 (pair_view p).1) (in_front-none ps)

normal-push : (ps : List Pair) (p : Pair) → PairsNormal ps → IsTrue (pair_normal p) → PairsNormal (ps ++ p ∷ [])
normal-push [] p h k = both_true (pair_normal p) true k refl
normal-push (q ∷ ps) p h k =
    both_true (pair_normal q) _ (left_true (pair_normal q) _ h) (normal-push ps p (right_true (pair_normal q) _ h) k)

pub pair_pushed : (all new : List Pair) (p : Pair) → new ≡ all ++ p ∷ [] → PairsNormal all → IsTrue (pair_normal p)
    → PairsNormal new
pair_pushed all new p e h k = subst PairsNormal (sym e) (normal-push all p h k)

pub merged_more : (all new ps qs ps' qs' : List Pair) (p : Pair) (whole : Pairs) → new ≡ all ++ p ∷ []
    → TakesLeast (Some p) ps qs ps' qs'
    → in_front_of all (merge ps qs) ≡ whole → in_front_of new (merge ps' qs') ≡ whole
merged_more all new ps qs ps' qs' p whole e t h =
    ap (λ xs. in_front_of xs (merge ps' qs')) e ∙ in_front-push all p (merge ps' qs')
    ∙ ap (in_front_of all) (sym t.taken.0) ∙ h

pub merged_all : (all ps qs ps' qs' : List Pair) (whole : Pairs) → TakesLeast None ps qs ps' qs'
    → in_front_of all (merge ps qs) ≡ whole → pair_row all ≡ whole
merged_all all ps qs ps' qs' whole t h =
    sym (in_front-none all) ∙ ap (in_front_of all) (sym (ap₂ merge t.taken.0 t.taken.1)) ∙ h

pub merge_rises : (ps qs : List Pair) → IsRun ps → IsRun qs → IsTrue (pairs_rise (merge ps qs))
merge_rises ps qs h k = put_all_rises (map pair_view qs) (pair_row ps) (run_parts (pair_row qs) k.rising) h.rising

pub run_is : (all ps qs : List Pair) → pair_row all ≡ merge ps qs → PairsNormal all → IsRun ps → IsRun qs → IsRun all
run_is all ps qs e n h k =
    record { normal = n; rising = subst (λ m. IsTrue (pairs_rise m)) (sym e) (merge_rises ps qs h k) }

-- Halves.

listed-row : (ps : List Pair) → listed_pairs (pair_row ps) ≡ map pair_view ps
listed-row [] = refl
listed-row (p ∷ ps) = ap (λ qs. pair_view p ∷ qs) (listed-row ps)

put_all-append : (xs ys : List (Term × Term)) (m : Pairs) → put_all (xs ++ ys) m ≡ put_all ys (put_all xs m)
put_all-append [] ys m = refl
put_all-append (x ∷ xs) ys m = put_all-append xs ys (put x.0 x.1 m)

map-append : (xs ys : List Pair) → map pair_view (xs ++ ys) ≡ map pair_view xs ++ map pair_view ys
map-append [] ys = refl
map-append (x ∷ xs) ys = ap (λ zs. pair_view x ∷ zs) (map-append xs ys)

-- two runs that are the maps of two rows make that of both
pub both_runs : (ps qs xs ys : List Pair) → pair_row ps ≡ put_all (map pair_view xs) no_pair
    → pair_row qs ≡ put_all (map pair_view ys) no_pair
    → IsTrue (parts_rise (pair_row ys)) → merge ps qs ≡ put_all (map pair_view (xs ++ ys)) no_pair
both_runs ps qs xs ys e f h =
    ap₂ put_all (sym (listed-row qs) ∙ ap listed_pairs f) e
    ∙ sym (all_more (map pair_view ys) no_pair (put_all (map pair_view xs) no_pair) h no_pair_rises)
    ∙ sym (put_all-append (map pair_view xs) (map pair_view ys) no_pair)
    ∙ ap (λ zs. put_all zs no_pair) (sym (map-append xs ys))

-- One pair, and the pairs that are left.

pub run_of_one : (run : List Pair) (p : Pair) → run ≡ p ∷ [] → PairsWellFormed (p ∷ []) → IsRun run
unfolding maps_rise comes_first
run_of_one run p e h = subst IsRun (sym e) (record {
  normal = h.normal;
  rising =
      let parts = h.rising in
      both_true (maps_rise (pair_view p).0 && maps_rise (pair_view p).1) true
      (left_true _ (parts_rise no_pair) parts) refl;
})

pub value_of_one : (run : List Pair) (p : Pair) → run ≡ p ∷ [] → pair_row run ≡ put_all (map pair_view (p ∷ [])) no_pair
unfolding put
value_of_one run p e = ap pair_row e

parts-drop : (n : ℕ) (ps : List Pair) → PairsWellFormed ps → PairsWellFormed (drop n ps)
parts-drop zero ps h = h
parts-drop (suc n) [] h = h
parts-drop (suc n) (p ∷ ps) h = parts-drop n ps (record {
  normal = rest_normal p ps h.normal;
  rising = right_true (maps_rise (pair_view p).0 && maps_rise (pair_view p).1) (parts_rise (pair_row ps)) h.rising;
})

parts-take : (n : ℕ) (ps : List Pair) → IsTrue (parts_rise (pair_row ps)) → IsTrue (parts_rise (pair_row (take n ps)))
parts-take zero ps h = refl
parts-take (suc n) [] h = refl
parts-take (suc n) (p ∷ ps) h =
    both_true (maps_rise (pair_view p).0 && maps_rise (pair_view p).1) (parts_rise (pair_row (take n ps)))
    (left_true (maps_rise (pair_view p).0 && maps_rise (pair_view p).1) (parts_rise (pair_row ps)) h)
    (parts-take n ps (right_true (maps_rise (pair_view p).0 && maps_rise (pair_view p).1) (parts_rise (pair_row ps)) h))

pub left_well_formed : (n : ℕ) (ps left : List Pair) → left ≡ drop n ps → PairsWellFormed ps → PairsWellFormed left
left_well_formed n ps left e h = subst PairsWellFormed (sym e) (parts-drop n ps h)

pub first_well_formed : (p : Pair) (ps left : List Pair) → left ≡ p ∷ ps → PairsWellFormed left
    → PairsWellFormed (p ∷ [])
first_well_formed p ps left e h =
    let g : PairsWellFormed (p ∷ ps) = subst PairsWellFormed e h in
    record {
      normal = both_true (pair_normal p) true (left_true (pair_normal p) _ g.normal) refl;
      rising = both_true (maps_rise (pair_view p).0 && maps_rise (pair_view p).1) true
          (left_true (maps_rise (pair_view p).0 && maps_rise (pair_view p).1) (parts_rise (pair_row ps)) g.rising) refl;
    }

abbrev the_empty : List Pair
the_empty = []

take-halves : (n m : ℕ) (xs : List Pair) → take n xs ++ take m (drop n xs) ≡ take (n + m) xs
take-halves zero m xs = ap (λ k. take k xs) (let e : m ≡ 0 + m = omega arith in e)
take-halves (suc n) m [] = nothing m ∙ ap (λ k. take k (the_empty)) (let e : suc (n + m) ≡ suc n + m = omega arith in e)
  where
    nothing : (m : ℕ) → take m the_empty ≡ take (suc (n + m)) the_empty
    nothing zero = refl
    nothing (suc m) = refl
take-halves (suc n) m (x ∷ xs) = ap (λ ys. x ∷ ys) (take-halves n m xs)
    ∙ ap (λ k. take k (x ∷ xs)) (let e : suc (n + m) ≡ suc n + m = omega arith in e)

pub halves_merged : (n m k : ℕ) (ps qs xs left : List Pair) → k ≡ n + m → left ≡ drop n xs → PairsWellFormed xs
    → pair_row ps ≡ put_all (map pair_view (take n xs)) no_pair
    → pair_row qs ≡ put_all (map pair_view (take m left)) no_pair
    → merge ps qs ≡ put_all (map pair_view (take k xs)) no_pair
halves_merged n m k ps qs xs left d e h f g =
    let rest : PairsWellFormed (drop n xs) = parts-drop n xs h in
    both_runs ps qs (take n xs) (take m (drop n xs)) f (g ∙ ap (λ ys. put_all (map pair_view (take m ys)) no_pair) e)
    (parts-take m (drop n xs) rest.rising)
    ∙ ap (λ ys. put_all (map pair_view ys) no_pair) (take-halves n m xs ∙ ap (λ j. take j xs) (sym d))

-- pairs whose keys rise are those that putting them in gives
pub put_all-rising : (ps : Pairs) → IsTrue (pairs_rise ps) → put_all (listed_pairs ps) no_pair ≡ ps
unfolding put
put_all-rising no_pair h = refl
put_all-rising (pair k v ps) h = below_rest k v no_pair (listed_pairs ps) (above_listed k v ps h)
    ∙ ap (pair k v) (put_all-rising ps (rest_rises k v ps h))
