-- What is put into a map is found there, other keys keep their values, and keys still rise.
use Rattle.std.proofs.Common.{◌≡◌, Some, refl, sym, ap, ◌∙◌, subst, Bool, true, false, ◌&&◌, if◌then◌else◌, IsTrue}
use Rattle.std.specs.declared.cmp.Ordering.{Ordering}
use Rattle.std.specs.declared.cmp.Ordering.TheVariants.{Less, Equal, Greater}
use Rattle.std.specs.Ordering.{ordering_reverse}
use Rattle.erl_term.specs.Term.{Term, map, Pairs, no_pair, pair}
use Rattle.erl_term.specs.TermOrder.{compare, same_term, is_equal}
use Rattle.erl_term.specs.Terms.{value_at, put}
use Rattle.erl_term.specs.WellFormed.{is_below, comes_first, maps_rise, pairs_rise}
use Rattle.erl_term.proofs.OrderLaws.{total, same, apart}
use Rattle.erl_term.proofs.Forms.{left_true, right_true, both_true}

same_itself : (k : Term) → same_term k k ≡ true
unfolding same_term
same_itself k = ap is_equal ((apart k k).1 refl)

-- where the first pair of a map has another key, the map's value is that of the others
at_first : (k l : Term) (v : Term) (ps : Pairs) (b : Bool) → same_term k l ≡ b
    → value_at (pair l v ps) k ≡ (if b then Some v else value_at ps k)
at_first k l v ps b e = ap (λ c. if c then Some v else value_at ps k) e

-- how a pair is put in front of another, or behind it
abbrev placed : Term → Term → Term → Term → Pairs → Ordering → Pairs
placed k v l w ps o = elim o [ Less ↦ pair k v (pair l w ps) | Equal ↦ pair k v ps | Greater ↦ pair l w (put k v ps) ]

put-pair : (k v l w : Term) (ps : Pairs) → put k v (pair l w ps) ≡ placed k v l w ps (compare k l)
unfolding put
put-pair k v l w ps = refl

pub found : (k v : Term) (ps : Pairs) → value_at (put k v ps) k ≡ Some v
unfolding put same_term
found k v no_pair = at_first k k v no_pair true (same_itself k)
found k v (pair l w ps) = by (compare k l) refl (found k v ps)
  where
    by : (o : Ordering) → compare k l ≡ o → value_at (put k v ps) k ≡ Some v → value_at (placed k v l w ps o) k ≡ Some v
    by Less e h = at_first k k v (pair l w ps) true (same_itself k)
    by Equal e h = at_first k k v ps true (same_itself k)
    by Greater e h = at_first k l w (put k v ps) false (ap is_equal e) ∙ h

pub others : (k v m : Term) (ps : Pairs) → same_term m k ≡ false → value_at (put k v ps) m ≡ value_at ps m
unfolding put
others k v m no_pair n = at_first m k v no_pair false n
others k v m (pair l w ps) n = by (compare k l) refl (others k v m ps n)
  where
    by : (o : Ordering) → compare k l ≡ o → value_at (put k v ps) m ≡ value_at ps m
        → value_at (placed k v l w ps o) m ≡ value_at (pair l w ps) m
    by Less e h = at_first m k v (pair l w ps) false n
    by Equal e h = at_first m k v ps false n
        ∙ sym (at_first m l w ps false (subst (λ x. same_term m x ≡ false) (same k l e) n))
    by Greater e h = ap (λ r. if same_term m l then Some w else r) h

first_stays : (l k v : Term) (ps : Pairs) → IsTrue (is_below (compare l k)) → IsTrue (comes_first l ps)
    → IsTrue (comes_first l (put k v ps))
unfolding put comes_first
first_stays l k v no_pair b h = b
first_stays l k v (pair m w ps) b h = by (compare k m)
  where
    by : (o : Ordering) → IsTrue (comes_first l (placed k v m w ps o))
    by Less = b
    by Equal = b
    by Greater = h

turned_below : (k l : Term) → compare k l ≡ Greater → IsTrue (is_below (compare l k))
turned_below k l e = ap is_below (total.antisymm l k ∙ ap ordering_reverse e)

pub put_rises : (k v : Term) (ps : Pairs) → IsTrue (maps_rise k) → IsTrue (maps_rise v) → IsTrue (pairs_rise ps)
    → IsTrue (pairs_rise (put k v ps))
unfolding put comes_first maps_rise
put_rises k v no_pair f g h =
    both_true (maps_rise k && maps_rise v) true (both_true (maps_rise k) (maps_rise v) f g) refl
put_rises k v (pair l w ps) f g h =
    let r : IsTrue (pairs_rise ps) = right_true (comes_first l ps && maps_rise l && maps_rise w) (pairs_rise ps) h in
    let a : IsTrue (comes_first l ps && maps_rise l && maps_rise w) =
    left_true (comes_first l ps && maps_rise l && maps_rise w) (pairs_rise ps) h in
    let n : IsTrue (maps_rise w) = right_true (comes_first l ps && maps_rise l) (maps_rise w) a in
    let b : IsTrue (comes_first l ps && maps_rise l) = left_true (comes_first l ps && maps_rise l) (maps_rise w) a in
    let m : IsTrue (maps_rise l) = right_true (comes_first l ps) (maps_rise l) b in
    let c : IsTrue (comes_first l ps) = left_true (comes_first l ps) (maps_rise l) b in
    by (compare k l) refl h r m n c (put_rises k v ps f g r)
  where
    all_four : (a b c d : Bool) → IsTrue a → IsTrue b → IsTrue c → IsTrue d → IsTrue (a && b && c && d)
    all_four a b c d p q r s = both_true (a && b && c) d (both_true (a && b) c (both_true a b p q) r) s

    by : (o : Ordering) → compare k l ≡ o → IsTrue (pairs_rise (pair l w ps)) → IsTrue (pairs_rise ps)
        → IsTrue (maps_rise l) → IsTrue (maps_rise w)
        → IsTrue (comes_first l ps) → IsTrue (pairs_rise (put k v ps)) → IsTrue (pairs_rise (placed k v l w ps o))
    by Less e h r m n c p = all_four (is_below (compare k l)) (maps_rise k) (maps_rise v) (pairs_rise (pair l w ps))
        (ap is_below e) f g h
    by Equal e h r m n c p =
        all_four (comes_first k ps) (maps_rise k) (maps_rise v) (pairs_rise ps)
        (subst (λ x. IsTrue (comes_first x ps)) (sym (same k l e)) c) f g r
    by Greater e h r m n c p =
        all_four (comes_first l (put k v ps)) (maps_rise l) (maps_rise w) (pairs_rise (put k v ps))
        (first_stays l k v ps (turned_below k l e) c) m n p

pub map_rises : (k v : Term) (ps : Pairs) → IsTrue (maps_rise k) → IsTrue (maps_rise v) → IsTrue (maps_rise (map ps))
    → IsTrue (maps_rise (map (put k v ps)))
unfolding maps_rise
map_rises k v ps f g h = put_rises k v ps f g h

pub ruleset puts = (found, others, map_rises)
