-- How the order of two terms comes from their parts.
use Rattle.std.proofs.Common.{◌≡◌, ◌≢◌, ℕ, ◌≤◌, ◌<◌, refl, sym, ap, ap₂, ◌∙◌, subst, List, [], ◌∷◌, map, drop, get_or, ◌+◌, length, min, zero, suc, arith, IsTrue, Bool, true, false, not}
use Rattle.std.specs.declared.cmp.Ordering.{Ordering}
use Rattle.std.specs.declared.cmp.Ordering.TheVariants.{Less, Equal, Greater}
use Rattle.std.specs.Ordering.{nat_cmp, ordering_then, MatchOrdering}
use Rattle.std.specs.Cmp.{nat_cmp_is}
use Rattle.std.specs.Cmp.Lexicographic.{slice_cmp}
use Rattle.std.proofs.lemmas.Cmp.{ranked}
use Rattle.std.proofs.lemmas.List.{drop_more}
use Rattle.std.proofs.lemmas.Bool.Decides.{nat_tests}
use Rattle.erl_term.specs.declared.term.Term.{Term, List as ListTerm, out-Term}
use Rattle.erl_term.specs.declared.term.Pair.{Pair, fold_out-Pair}
use Rattle.erl_term.specs.declared.term.Term.TheVariants.{outs-List}
use Rattle.erl_term.specs.declared.term.Term.TheOpen.{Term-F}
use Rattle.erl_term.specs.declared.term.Term.TheOpen as form
use Rattle.erl_term.specs.Term as Plain
use Rattle.erl_term.specs.TermOrder.{compare, compare_all, compare_values, count, pair_count, rank}
use Rattle.erl_term.specs.Terms.{list_of}
use Rattle.erl_term.specs.View.{view, view_step, pair_step}
use Rattle.erl_term.specs.WellFormed.{Layout, layout, pair_normal, layout_step, pair_layout_step, pairs_normal, IsNormal}
use Rattle.erl_term.specs.Comparing.{same_kind, same_kind_of, common, cells, rest, row, pair_row, values_normal, PairsNormal, ValuesNormal}
use Rattle.erl_term.proofs.Forms.{seen, laid, view-out, layout-out, NoCell, left_true, right_true, both_true, tail_no_cell}

pub then-assoc : (a b c : Ordering) → ordering_then a (ordering_then b c) ≡ ordering_then (ordering_then a b) c
then-assoc Less b c = refl
then-assoc Equal b c = refl
then-assoc Greater b c = refl

-- cells against what is no list
over_other : (x y u : Plain.Term) → ((rank u ≡ 10) → ⊥) → compare (Plain.cons x y) u ≡ nat_cmp 10 (rank u)
unfolding compare
over_other x y (Plain.cons z w) n = absurd (n refl)
over_other x y u n = refl

other_over : (x y u : Plain.Term) → ((rank u ≡ 10) → ⊥) → compare u (Plain.cons x y) ≡ nat_cmp (rank u) 10
unfolding compare
other_over x y (Plain.cons z w) n = absurd (n refl)
other_over x y u n = refl

pub first_shorter : (n : ℕ) → nat_cmp 0 (suc n) ≡ Less
first_shorter n = grind (arith, nat_tests)

pub first_longer : (n : ℕ) → nat_cmp (suc n) 0 ≡ Greater
first_longer n = grind (arith, nat_tests)

pub both_longer : (n m : ℕ) → nat_cmp (suc n) (suc m) ≡ nat_cmp n m
both_longer n m = sym (nat_cmp_is (suc n) (suc m) _ (shifted n m (nat_cmp n m) (ranked n m (nat_cmp n m) refl)))
  where
    shifted : (n m : ℕ) (o : Ordering) → MatchOrdering o (n < m) (n ≡ m) (m < n)
        → MatchOrdering o (suc n < suc m) (suc n ≡ suc m) (suc m < suc n)
    shifted n m Less h = omega (arith, h)
    shifted n m Equal h = ap suc h
    shifted n m Greater h = omega (arith, h)

-- lists whose tails are no cells
lists_are : (xs ys : List Term) (t u : Plain.Term) → NoCell t → NoCell u
    → compare (list_of (map view xs) t) (list_of (map view ys) u) ≡ cells (row xs) t (row ys) u
unfolding compare
lists_are [] [] t u n m = refl
lists_are [] (y ∷ ys) t u n m =
    other_over (view y) (list_of (map view ys) u) t n ∙ ap (λ o. rest o t u) (sym (first_shorter (count (row ys))))
lists_are (x ∷ xs) [] t u n m =
    over_other (view x) (list_of (map view xs) t) u m ∙ ap (λ o. rest o t u) (sym (first_longer (count (row xs))))
lists_are (x ∷ xs) (y ∷ ys) t u n m =
    ap (ordering_then (compare (view x) (view y))) (lists_are xs ys t u n m)
    ∙ then-assoc (compare (view x) (view y)) (common (row xs) (row ys))
    (rest (nat_cmp (count (row xs)) (count (row ys))) t u)
    ∙ ap (λ o. ordering_then (ordering_then (compare (view x) (view y)) (common (row xs) (row ys))) (rest o t u))
    (sym (both_longer (count (row xs)) (count (row ys))))

compare-forms : (f g : Term-F Term Pair) → IsTrue (laid f).normal → IsTrue (laid g).normal
    → compare (seen f) (seen g) ≡ ordering_then (nat_cmp (rank (seen f)) (rank (seen g))) (same_kind f g)
unfolding compare
compare-forms (form.List [] t) g n m = cc
compare-forms (form.List (x ∷ xs) t) (form.List [] u) n m = cc
compare-forms (form.List (x ∷ xs) t) (form.List (y ∷ ys) u) n m =
    lists_are (x ∷ xs) (y ∷ ys) (view t) (view u) (tail_no_cell t (right_true _ (not (layout t).listed) n))
    (tail_no_cell u (right_true _ (not (layout u).listed) m))
compare-forms f (form.List [] u) n m = cc
compare-forms f (form.List (y ∷ ys) u) n m = refl
compare-forms (form.Int a) (form.Int b) n m = refl
compare-forms (form.Atom a) (form.Atom b) n m = refl
compare-forms form.Nil form.Nil n m = refl
compare-forms (form.Tuple xs) (form.Tuple ys) n m = refl
compare-forms (form.Map ps) (form.Map qs) n m = refl
compare-forms (form.Bits a) (form.Bits b) n m = refl
compare-forms (form.Fun k s a xs) (form.Fun l u b ys) n m =
    ap (ordering_then (slice_cmp nat_cmp k l))
    (then-assoc (nat_cmp s.0 u.0) (nat_cmp a b) (compare_all (row xs) (row ys)))
    ∙ then-assoc (slice_cmp nat_cmp k l) (ordering_then (nat_cmp s.0 u.0) (nat_cmp a b)) (compare_all (row xs) (row ys))
compare-forms (form.Extern k f a) (form.Extern l g b) n m = refl
compare-forms (form.Pid a) (form.Pid b) n m = refl
compare-forms (form.Reference a) (form.Reference b) n m = refl
compare-forms (form.Port a) (form.Port b) n m = refl
compare-forms (form.RawTrace a) (form.RawTrace b) n m = refl
compare-forms f g n m = refl

pub compare-is : (a b : Term) → IsNormal a → IsNormal b
    → compare (view a) (view b) ≡ ordering_then (nat_cmp (rank (view a)) (rank (view b))) (same_kind_of a b)
compare-is a b n m =
    ap₂ compare (view-out a) (view-out b)
    ∙ compare-forms (out-Term a) (out-Term b)
    (subst (λ (l : Layout). IsTrue l.normal) (layout-out a) n)
    (subst (λ (l : Layout). IsTrue l.normal) (layout-out b) m)
    ∙ ap₂ (λ x y. ordering_then (nat_cmp (rank x) (rank y)) (same_kind_of a b)) (sym (view-out a)) (sym (view-out b))

-- the answer for terms whose kinds have one place, and for others
pub of_same : (a b : Term) (o : Ordering) → IsNormal a → IsNormal b → Equal ≡ nat_cmp (rank (view a)) (rank (view b))
    → o ≡ same_kind_of a b → o ≡ compare (view a) (view b)
of_same a b o n m e f = f ∙ ap (λ r. ordering_then r (same_kind_of a b)) e ∙ sym (compare-is a b n m)

pub decided : (o p : Ordering) → o ≢ Equal → ordering_then o p ≡ o
decided Less p n = refl
decided Equal p n = absurd (n refl)
decided Greater p n = refl

pub of_other : (a b : Term) (o : Ordering) → IsNormal a → IsNormal b → o ≡ nat_cmp (rank (view a)) (rank (view b))
    → o ≢ Equal → o ≡ compare (view a) (view b)
of_other a b o n m e d =
    sym (decided o (same_kind_of a b) d) ∙ ap (λ r. ordering_then r (same_kind_of a b)) e ∙ sym (compare-is a b n m)

pub ruleset compares = (of_same, of_other)

list_form_rank : (f : Term-F Term Pair) (xs : List Term) (t : Term) → f ≡ form.List xs t → IsTrue (laid f).normal
    → 10 ≡ rank (seen f)
list_form_rank f [] t e n = let h : false ≡ true = subst (λ (g : Term-F Term Pair). IsTrue (laid g).normal) e n in cc
list_form_rank f (x ∷ xs) t e n = ap (λ g. rank (seen g)) (sym e)

pub list_rank : (a : Term) (xs : List Term) (t : Term) → a ≡ ListTerm xs t → IsNormal a → 10 ≡ rank (view a)
list_rank a xs t e n =
    list_form_rank (out-Term a) xs t (ap out-Term e ∙ outs-List xs t)
    (subst (λ (l : Layout). IsTrue l.normal) (layout-out a) n)
    ∙ ap rank (sym (view-out a))

pub count-row : (ts : List Term) → count (row ts) ≡ length ts
count-row [] = refl
count-row (t ∷ ts) = ap suc (count-row ts)

pub pair_count-row : (ps : List Pair) → pair_count (pair_row ps) ≡ length ps
pair_count-row [] = refl
pair_count-row (p ∷ ps) = ap suc (pair_count-row ps)

pub ruleset counts = (count-row, pair_count-row)

common-none : (ts : Plain.Terms) → common ts Plain.none ≡ Equal
common-none Plain.none = refl
common-none (Plain.more t ts) = refl

-- nothing is left once one row is at its end
pub common_over : (xs ys : List Term) (i : ℕ) → min (length xs) (length ys) ≤ i
    → common (row (drop i xs)) (row (drop i ys)) ≡ Equal
common_over [] ys zero h = refl
common_over (x ∷ xs) [] zero h = refl
common_over (x ∷ xs) (y ∷ ys) zero h = absurd (omega (arith, h))
common_over [] ys (suc i) h = refl
common_over (x ∷ xs) [] (suc i) h = common-none (row (drop i xs))
common_over (x ∷ xs) (y ∷ ys) (suc i) h = common_over xs ys i (omega (arith, h))

-- a row is compared as far as both go, and then by number
all-is : (ts us : Plain.Terms) → compare_all ts us ≡ ordering_then (common ts us) (nat_cmp (count ts) (count us))
unfolding compare
all-is Plain.none Plain.none = refl
all-is Plain.none (Plain.more u us) = sym (first_shorter (count us))
all-is (Plain.more t ts) Plain.none = sym (first_longer (count ts))
all-is (Plain.more t ts) (Plain.more u us) =
    ap (ordering_then (compare t u)) (all-is ts us)
    ∙ then-assoc (compare t u) (common ts us) (nat_cmp (count ts) (count us))
    ∙ ap (ordering_then (ordering_then (compare t u) (common ts us))) (sym (both_longer (count ts) (count us)))

pub rows-same : (xs ys : List Term) (o : Ordering) → Equal ≡ common (row xs) (row ys)
    → o ≡ nat_cmp (length xs) (length ys) → o ≡ compare_all (row xs) (row ys)
rows-same xs ys o e f =
    f ∙ ap₂ nat_cmp (sym (count-row xs)) (sym (count-row ys))
    ∙ ap (λ c. ordering_then c (nat_cmp (count (row xs)) (count (row ys)))) e
    ∙ sym (all-is (row xs) (row ys))

pub rows-other : (xs ys : List Term) (o : Ordering) → o ≡ common (row xs) (row ys) → o ≢ Equal
    → o ≡ compare_all (row xs) (row ys)
rows-other xs ys o e d =
    sym (decided o (nat_cmp (count (row xs)) (count (row ys))) d)
    ∙ ap (λ c. ordering_then c (nat_cmp (count (row xs)) (count (row ys)))) e
    ∙ sym (all-is (row xs) (row ys))

pub ruleset rows = (rows-same, rows-other)

-- the values of normal pairs are normal
pub values_are : (ps : List Pair) → PairsNormal ps → ValuesNormal ps
values_are [] h = refl
values_are (p ∷ ps) h =
    both_true (layout p.value).normal (values_normal ps)
    (right_true (layout p.key).normal (layout p.value).normal
    (subst IsTrue (fold_out-Pair Layout Bool layout_step pair_layout_step p)
    (left_true (pair_normal p) (pairs_normal (map pair_normal ps)) h)))
    (values_are ps (right_true (pair_normal p) (pairs_normal (map pair_normal ps)) h))

pub ruleset pairs_compared = (count-row, pair_count-row, values_are)

-- the pair at i in front of those behind it
pairs_open : (ps : List Pair) (i : ℕ) (d : Pair) → i < length ps
    → pair_row (drop i ps) ≡ Plain.pair (view (get_or ps i d).key) (view (get_or ps i d).value)
    (pair_row (drop (i + 1) ps))
pairs_open ps i d h =
    ap pair_row (drop_more ps i d h)
    ∙ ap (λ q. Plain.pair q.0 q.1 (pair_row (drop (i + 1) ps)))
    (fold_out-Pair Plain.Term (Plain.Term × Plain.Term) view_step pair_step (get_or ps i d))

pub values_step : (ps qs : List Pair) (i : ℕ) (p q : Pair) → i < length ps → i < length qs
    → Equal ≡ compare (view (get_or ps i p).value) (view (get_or qs i q).value)
    → compare_values (pair_row (drop (i + 1) ps)) (pair_row (drop (i + 1) qs))
    ≡ compare_values (pair_row (drop i ps)) (pair_row (drop i qs))
unfolding compare
values_step ps qs i p q h g f =
    ap (λ o. ordering_then o (compare_values (pair_row (drop (i + 1) ps)) (pair_row (drop (i + 1) qs)))) f
    ∙ sym (ap₂ compare_values (pairs_open ps i p h) (pairs_open qs i q g))

-- n is how the numbers of items stand, and o what is answered for the rest
pub lists_at : (o n : Ordering) (a b : Term) (xs ys v w : List Term) (t u : Term) → a ≡ ListTerm xs t
    → b ≡ ListTerm ys u → v ≡ xs → w ≡ ys
    → Equal ≡ common (row v) (row w) → n ≡ nat_cmp (length v) (length w) → o ≡ rest n (view t) (view u)
    → o ≡ same_kind_of a b
lists_at o n a b xs ys v w t u p q e f i c d =
    d
    ∙ ap (λ m. rest m (view t) (view u))
    (c ∙ ap₂ nat_cmp (ap length e ∙ sym (count-row xs)) (ap length f ∙ sym (count-row ys)))
    ∙ ap (λ h. ordering_then h (rest (nat_cmp (count (row xs)) (count (row ys))) (view t) (view u)))
    (i ∙ ap₂ (λ x y. common (row x) (row y)) e f)
    ∙ ap₂ same_kind (sym (ap out-Term p ∙ outs-List xs t)) (sym (ap out-Term q ∙ outs-List ys u))
