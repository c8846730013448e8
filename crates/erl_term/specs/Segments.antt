-- Segments of bit strings: what they say, how they are built, and how they are taken (Core Erlang 1.0.3, bit strings;
-- Erlang/OTP 25, bit syntax).
use Rattle.std.specs.Prelude.{ℕ, ◌*◌, ◌%◌, List, ◌++◌, length, take, Bool, true, false, eqb, leb, Option, Some, None, if◌then◌else◌, pos}
use Rattle.erl_base.specs.Names.{Name, same_name}
use Rattle.erl_term.specs.Term as T
use Rattle.erl_term.specs.Term.{Term}
use Rattle.erl_term.specs.BitString.{low_bits, ordered, number}

-- what a segment says beside its value and size; whole: the size is written as the literal 'all'
pub record Shape : Type 0 where
  pub unit : ℕ
  pub is_binary : Bool
  pub signed : Bool
  pub little : Bool
  pub whole : Bool

-- whether a list of flags has this one
abbrev pub has_flag : Name → Term → Bool
has_flag f (T.cons (T.atom a) t) = if same_name a f then true else has_flag f t
has_flag f _ = false

-- the number of bits that a size counts by
abbrev pub unit_of : Term → ℕ
unit_of (T.int (pos n)) = n
unit_of _ = 0

-- Building. None is what raises badarg.

-- bits behind bits
abbrev pub joined : Option (List Bool) → Option (List Bool) → Option (List Bool)
joined None b = None
joined (Some xs) None = None
joined (Some xs) (Some ys) = Some (xs ++ ys)

-- the first n of them, if there are as many
abbrev pub first_bits : ℕ → List Bool → Option (List Bool)
first_bits n bs = if leb n (length bs) then Some (take n bs) else None

-- an integer gives its lowest bits, as many as size and unit say
abbrev pub built_integer : Shape → Term → Term → Option (List Bool)
built_integer h (T.int z) (T.int (pos n)) = Some (ordered h.little (low_bits (n * h.unit) z))
built_integer h _ _ = None

-- a bit string gives all its bits, in whole units, or its first ones
abbrev pub whole_bits : Shape → List Bool → Option (List Bool)
whole_bits h bs = if eqb (length bs % h.unit) 0 then Some bs else None

-- as many first bits as a size and the unit say, where there are so many
abbrev pub part_of : Shape → List Bool → Term → Option (List Bool)
part_of h bs (T.int (pos n)) = first_bits (n * h.unit) bs
part_of h bs _ = None

-- the bits that a binary segment writes
abbrev pub built_binary : Shape → Term → Term → Option (List Bool)
built_binary h (T.bits bs) size = if h.whole then whole_bits h bs else part_of h bs size
built_binary h _ size = None

-- the bits of a segment with this value and size
abbrev pub built : Shape → Term → Term → Option (List Bool)
built h value size = if h.is_binary then built_binary h value size else built_integer h value size

-- Matching. None is no match.

-- what a size takes of the bits that are left
abbrev pub sized : Shape → Option Term → ℕ → Option ℕ
sized h (Some (T.int (pos n))) left = if leb (n * h.unit) left then Some (n * h.unit) else None
sized h _ left = None

-- what a segment takes: all that is left, in whole units, or what its size says
abbrev pub taken_size : Shape → Option Term → ℕ → Option ℕ
taken_size h size left = if h.whole then (if eqb (left % h.unit) 0 then Some left else None) else sized h size left

-- the value of the bits that a segment took
abbrev pub segment_value : Shape → List Bool → Term
segment_value h bs = if h.is_binary then T.bits bs else T.int (number h.signed h.little bs)
