-- The order of terms as it is computed: kinds first, and then what two terms of one kind say.
use Rattle.std.specs.Prelude.{ℕ, List, [], ◌∷◌, map, Bool, true, ◌&&◌, IsTrue}
use Rattle.std.specs.Ordering.{nat_cmp, int_cmp, bool_cmp, ordering_then}
use Rattle.std.specs.Cmp.Lexicographic.{slice_cmp}
use Rattle.std.specs.declared.cmp.Ordering.{Ordering}
use Rattle.std.specs.declared.cmp.Ordering.TheVariants.{Less, Equal, Greater}
use Rattle.erl_term.specs.declared.term.Term.{Term, out-Term}
use Rattle.erl_term.specs.declared.term.Term.TheOpen.{Term-F}
use Rattle.erl_term.specs.declared.term.Term.TheOpen as form
use Rattle.erl_term.specs.declared.term.Pair.{Pair}
use Rattle.erl_term.specs.Term as Plain
use Rattle.erl_term.specs.TermOrder.{compare, compare_all, compare_keys, compare_values, count, pair_count, class_rank, rank}
use Rattle.erl_term.specs.Terms.{terms, pairs}
use Rattle.erl_term.specs.View.{view, pair_view, bits_view, class_view}
use Rattle.erl_term.specs.WellFormed.{layout, pair_normal, all_normal, pairs_normal}

-- by number, then term by term
abbrev pub sized : Plain.Terms → Plain.Terms → Ordering
sized ts us = ordering_then (nat_cmp (count ts) (count us)) (compare_all ts us)

-- by number, then by keys, then by values
abbrev pub maps : Plain.Pairs → Plain.Pairs → Ordering
maps ps qs = ordering_then (nat_cmp (pair_count ps) (pair_count qs))
    (ordering_then (compare_keys ps qs) (compare_values ps qs))

-- module, site and arity of two local funs
abbrev pub heads : List ℕ → ℕ → ℕ → List ℕ → ℕ → ℕ → Ordering
heads m s a n u b = ordering_then (slice_cmp nat_cmp m n) (ordering_then (nat_cmp s u) (nat_cmp a b))

-- term by term, as far as both rows go
abbrev pub common : Plain.Terms → Plain.Terms → Ordering
common Plain.none us = Equal
common (Plain.more t ts) Plain.none = Equal
common (Plain.more t ts) (Plain.more u us) = ordering_then (compare t u) (common ts us)

-- what is left of two lists behind what both have: the tails, or a tail, which is no list, and a list
abbrev pub rest : Ordering → Plain.Term → Plain.Term → Ordering
rest Equal t u = compare t u
rest Greater t u = nat_cmp 10 (rank u)
rest Less t u = nat_cmp (rank t) 10

-- two lists by their items, then by their lengths and what ends them
abbrev pub cells : Plain.Terms → Plain.Term → Plain.Terms → Plain.Term → Ordering
cells ts t us u = ordering_then (common ts us) (rest (nat_cmp (count ts) (count us)) t u)

-- the terms of a row, and the pairs of a map
abbrev pub row : List Term → Plain.Terms
row ts = terms (map view ts)

-- the plain pairs of a map
abbrev pub pair_row : List Pair → Plain.Pairs
pair_row ps = pairs (map pair_view ps)

-- two terms of one kind; at others it says nothing
abbrev pub same_kind : Term-F Term Pair → Term-F Term Pair → Ordering
same_kind (form.Int a) (form.Int b) = int_cmp a b
same_kind (form.Atom a) (form.Atom b) = slice_cmp nat_cmp a b
same_kind (form.List xs t) (form.List ys u) = cells (row xs) (view t) (row ys) (view u)
same_kind (form.Tuple xs) (form.Tuple ys) = sized (row xs) (row ys)
same_kind (form.Map ps) (form.Map qs) = maps (pair_row ps) (pair_row qs)
same_kind (form.Bits a) (form.Bits b) = slice_cmp bool_cmp (bits_view a) (bits_view b)
same_kind (form.Fun m s a xs) (form.Fun n u b ys) =
    ordering_then (heads m s.0 a n u.0 b) (compare_all (row xs) (row ys))
same_kind (form.Extern m f a) (form.Extern n g b) =
    ordering_then (slice_cmp nat_cmp m n) (ordering_then (slice_cmp nat_cmp f g) (nat_cmp a b))
same_kind (form.Pid a) (form.Pid b) = nat_cmp a b
same_kind (form.Reference a) (form.Reference b) = nat_cmp a b
same_kind (form.Port a) (form.Port b) = nat_cmp a b
same_kind (form.RawTrace a) (form.RawTrace b) = nat_cmp (class_rank (class_view a)) (class_rank (class_view b))
same_kind _ _ = Equal

-- two values of one kind
abbrev pub same_kind_of : Term → Term → Ordering
same_kind_of a b = same_kind (out-Term a) (out-Term b)

-- whether all of them are in normal form
abbrev pub AllNormal : List Term → Type 0
AllNormal ts = IsTrue (all_normal (map layout ts))

-- all pairs are in normal form
abbrev pub PairsNormal : List Pair → Type 0
PairsNormal ps = IsTrue (pairs_normal (map pair_normal ps))

-- the values of all pairs are in normal form
abbrev pub values_normal : List Pair → Bool
values_normal [] = true
values_normal (p ∷ ps) = (layout p.value).normal && values_normal ps

-- the same, as a fact
abbrev pub ValuesNormal : List Pair → Type 0
ValuesNormal ps = IsTrue (values_normal ps)
