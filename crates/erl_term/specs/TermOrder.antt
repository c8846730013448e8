-- The order of terms (Erlang's term order, with raw traces added; this project's own reading where Erlang leaves it
-- open).
use Rattle.std.specs.Prelude.{ℕ, suc, Bool, true, false}
use Rattle.std.specs.Ordering.{nat_cmp, int_cmp, bool_cmp, ordering_then}
use Rattle.std.specs.Cmp.Lexicographic.{slice_cmp}
use Rattle.std.specs.declared.cmp.Ordering.{Ordering}
use Rattle.std.specs.declared.cmp.Ordering.TheVariants.{Less, Equal, Greater}
use Rattle.erl_term.specs.Term.{Term, int, atom, nil, cons, tuple, map, bits, fun, extern, pid, reference, port, raw_trace, Terms, none, more, Pairs, no_pair, pair, Class, error, exit, throw}

-- error before exit before throw
abbrev pub class_rank : Class → ℕ
class_rank error = 0
class_rank exit = 1
class_rank throw = 2

-- the place of a term's kind: number, atom, reference, local fun, external fun, port, pid, tuple, map, nil, list,
-- bit string, raw trace
abbrev pub rank : Term → ℕ
rank (int z) = 0
rank (atom a) = 1
rank (reference n) = 2
rank (fun m s a ts) = 3
rank (extern m f a) = 4
rank (port n) = 5
rank (pid n) = 6
rank (tuple ts) = 7
rank (map ps) = 8
rank nil = 9
rank (cons x y) = 10
rank (bits bs) = 11
rank (raw_trace c) = 12

-- how many terms
abbrev pub count : Terms → ℕ
count none = 0
count (more t ts) = suc (count ts)

-- how many pairs
abbrev pub pair_count : Pairs → ℕ
pair_count no_pair = 0
pair_count (pair k v ps) = suc (pair_count ps)

-- Terms of two kinds go by their kinds. Names and bit strings go item by item, a proper prefix first; tuples go by size
-- first; maps by size, then by their keys, then by their values.
unfoldable mutual
  pub compare : Term → Term → Ordering
  compare (int a) (int b) = int_cmp a b
  compare (atom a) (atom b) = slice_cmp nat_cmp a b
  compare (reference a) (reference b) = nat_cmp a b
  compare (fun m s a ts) (fun n u b us) =
      ordering_then (slice_cmp nat_cmp m n)
      (ordering_then (nat_cmp s u) (ordering_then (nat_cmp a b) (compare_all ts us)))
  compare (extern m f a) (extern n g b) =
      ordering_then (slice_cmp nat_cmp m n) (ordering_then (slice_cmp nat_cmp f g) (nat_cmp a b))
  compare (port a) (port b) = nat_cmp a b
  compare (pid a) (pid b) = nat_cmp a b
  compare (tuple ts) (tuple us) = ordering_then (nat_cmp (count ts) (count us)) (compare_all ts us)
  compare (map ps) (map qs) =
      ordering_then (nat_cmp (pair_count ps) (pair_count qs))
      (ordering_then (compare_keys ps qs) (compare_values ps qs))
  compare nil nil = Equal
  compare (cons x y) (cons z w) = ordering_then (compare x z) (compare y w)
  compare (bits a) (bits b) = slice_cmp bool_cmp a b
  compare (raw_trace a) (raw_trace b) = nat_cmp (class_rank a) (class_rank b)
  compare a b = nat_cmp (rank a) (rank b)

  -- term by term, a proper prefix first
  pub compare_all : Terms → Terms → Ordering
  compare_all none none = Equal
  compare_all none (more u us) = Less
  compare_all (more t ts) none = Greater
  compare_all (more t ts) (more u us) = ordering_then (compare t u) (compare_all ts us)

  pub compare_keys : Pairs → Pairs → Ordering
  compare_keys no_pair no_pair = Equal
  compare_keys no_pair (pair l w qs) = Less
  compare_keys (pair k v ps) no_pair = Greater
  compare_keys (pair k v ps) (pair l w qs) = ordering_then (compare k l) (compare_keys ps qs)

  pub compare_values : Pairs → Pairs → Ordering
  compare_values no_pair no_pair = Equal
  compare_values no_pair (pair l w qs) = Less
  compare_values (pair k v ps) no_pair = Greater
  compare_values (pair k v ps) (pair l w qs) = ordering_then (compare v w) (compare_values ps qs)

-- neither is less
abbrev pub is_equal : Ordering → Bool
is_equal Less = false
is_equal Equal = true
is_equal Greater = false

-- two terms are equal where neither is below the other
unfoldable pub same_term : Term → Term → Bool
unfolding compare
same_term a b = is_equal (compare a b)
