-- The parts of a plain term, as calls give them: None where a term has no such part.
use Rattle.std.specs.Prelude.{ℕ, ◌+◌, List, length, take, drop, slice_get, option_and_then, leb, Option, Some, None}
use Rattle.std.specs.Prelude.{if◌then◌else◌}
use Rattle.erl_term.specs.Term as T
use Rattle.erl_term.specs.Term.{Term}
use Rattle.erl_term.specs.TermOrder.{pair_count}
use Rattle.erl_term.specs.Terms.{listed, value_at, put}

-- the item of a cell
abbrev pub head_of : Term → Option Term
head_of (T.cons x y) = Some x
head_of _ = None

-- what follows it
abbrev pub tail_of : Term → Option Term
tail_of (T.cons x y) = Some y
tail_of _ = None

-- the elements of a tuple
abbrev pub elements_of : Term → Option (List Term)
elements_of (T.tuple ts) = Some (listed ts)
elements_of _ = None

-- the element of a tuple at a place, counted from 0
abbrev pub element_of : ℕ → Term → Option Term
element_of n t = option_and_then (λ ts. slice_get ts n) (elements_of t)

-- the captured terms of a fun of a module
abbrev pub captured_of : Term → Option (List Term)
captured_of (T.fun m s a ts) = Some (listed ts)
captured_of _ = None

-- how many bits a bit string has
abbrev pub bit_count_of : Term → Option ℕ
bit_count_of (T.bits bs) = Some (length bs)
bit_count_of _ = None

-- how many keys a map has
abbrev pub key_count_of : Term → Option ℕ
key_count_of (T.map ps) = Some (pair_count ps)
key_count_of _ = None

-- how many arguments a fun takes
abbrev pub fun_arity_of : Term → Option ℕ
fun_arity_of (T.fun m s a ts) = Some a
fun_arity_of (T.extern m f a) = Some a
fun_arity_of _ = None

-- so many bits of a bit string from a bit on, where they stand there
abbrev pub slice_of : ℕ → ℕ → Term → Option Term
slice_of from n (T.bits bs) = if leb (from + n) (length bs) then Some (T.bits (take n (drop from bs))) else None
slice_of from n _ = None

-- the value of a key in a map
abbrev pub value_of : Term → Term → Option Term
value_of k (T.map ps) = value_at ps k
value_of k _ = None

-- a map with this value at this key
abbrev pub put_of : Term → Term → Term → Option Term
put_of k v (T.map ps) = Some (T.map (put k v ps))
put_of k v _ = None
