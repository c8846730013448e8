-- The term of what is one constant: all its parts are constants, annotations aside.
use Rattle.std.specs.Prelude.{ℕ, ◌*◌, ℤ, pos, List, [], ◌∷◌, Bool, false, ◌&&◌, leb, if◌then◌else◌, Option, None, Some, codes}
use Rattle.erl_base.specs.Names.{same_name}
use Rattle.erl_term.specs.Term as T
use Rattle.erl_term.specs.Term.{Term}
use Rattle.erl_term.specs.Terms.{terms, list_of, put_all}
use Rattle.erl_term.specs.BitString.{low_bits, ordered}
use Rattle.erl_term.specs.Segments.{joined, has_flag}
use Rattle.core_form.specs.SourceTree.{are_flags}
use Rattle.core_grammar.specs.WrittenTree.{Tree, variable, atom, number, wide, float, character, string, function_name, external, noted, list, list_on, tuple, new_map, binary, Row, none, more, Pairs, no_pair, pair, Segment, segment, noted_segment, Segments, no_segment, and_segment}

-- the characters of a string as items
abbrev pub character_terms : List ℕ → List Term
character_terms [] = []
character_terms (c ∷ cs) = T.int (pos c) ∷ character_terms cs

-- an item and the others, where all are there
abbrev pub and_item : {A : Type 0} → Option A → Option (List A) → Option (List A)
and_item None xs = None
and_item (Some x) None = None
and_item (Some x) (Some xs) = Some (x ∷ xs)

-- a pair of a constant, where it does not ask for its key
abbrev pub constant_pair : Option Term → (exact : Bool) → Option Term → Option (Term × Term)
constant_pair (Some k) false (Some v) = Some (k, v)
constant_pair _ x v = None

-- a list of items before a tail, where all are there
abbrev pub constant_list : Option (List Term) → Option Term → Option Term
constant_list (Some ts) (Some t) = Some (list_of ts t)
constant_list _ t = None

-- a tuple
abbrev pub constant_tuple : Option (List Term) → Option Term
constant_tuple None = None
constant_tuple (Some ts) = Some (T.tuple (terms ts))

-- a map, where the later of equal keys wins
abbrev pub constant_map : Option (List (Term × Term)) → Option Term
constant_map None = None
constant_map (Some ps) = Some (T.map (put_all ps T.no_pair))

-- a binary
abbrev pub constant_bits : Option (List Bool) → Option Term
constant_bits None = None
constant_bits (Some bs) = Some (T.bits bs)

-- the integer that is written, annotations aside; one that is too wide is read as 0
abbrev pub integer_value : Tree → Option ℤ
integer_value (number p g z) = Some z
integer_value (wide p n) = Some (pos 0)
integer_value (character p c) = Some (pos c)
integer_value (noted p t n) = integer_value t
integer_value _ = None

-- the number from 0 on that is written, annotations aside
abbrev pub count_value : Tree → Option ℕ
count_value (number p g (pos n)) = Some n
count_value (character p c) = Some c
count_value (noted p t n) = count_value t
count_value _ = None

-- the type integer, annotations aside
abbrev pub is_integer_kind : Tree → Bool
is_integer_kind (atom p a) = same_name a (codes "integer")
is_integer_kind (noted p t n) = is_integer_kind t
is_integer_kind _ = false

-- what makes a constant of a segment: its unit is from 1 to 256, and so are its bits at most
abbrev pub is_constant_size : (size unit : ℕ) → Bool
is_constant_size n u = leb 1 u && leb u 256 && leb (n * u) 256

-- the bits of a number in a segment with these flags
abbrev pub bits_with : (flags : Term) → (size unit : ℕ) → ℤ → Option (List Bool)
bits_with f n u z =
    if is_constant_size n u && are_flags f then Some (ordered (has_flag (codes "little") f) (low_bits (n * u) z))
    else None

-- the same, where value, size, unit and flags are there
abbrev pub bits_written : Option ℤ → (size unit : Option ℕ) → (flags : Option Term) → Option (List Bool)
bits_written (Some z) (Some n) (Some u) (Some f) = bits_with f n u z
bits_written _ n u f = None

-- in a pattern maps and binaries are patterns, and no constants
module _ (in_pattern : Bool) where
  abbrev mutual
    pub constant_of : Tree → Option Term
    constant_of (variable p x) = None
    constant_of (atom p a) = Some (T.atom a)
    constant_of (number p g z) = Some (T.int z)
    constant_of (wide p n) = Some (T.int (pos 0))
    constant_of (float p) = Some (T.int (pos 0))
    constant_of (character p c) = Some (T.int (pos c))
    constant_of (string p cs) = Some (list_of (character_terms cs) T.nil)
    constant_of (function_name p a n) = None
    constant_of (external p m f n) = Some (T.extern m.name f.name n)
    constant_of (noted p t n) = constant_of t
    constant_of (list p ts) = constant_list (constants_of ts) (Some T.nil)
    constant_of (list_on p t ts u) = constant_list (and_item (constant_of t) (constants_of ts)) (constant_of u)
    constant_of (tuple p ts) = constant_tuple (constants_of ts)
    constant_of (new_map p ps) = if in_pattern then None else constant_map (constant_pairs_of ps)
    constant_of (binary p gs) = if in_pattern then None else constant_bits (segment_bits gs)
    constant_of _ = None

    pub constants_of : Row → Option (List Term)
    constants_of none = Some []
    constants_of (more t ts) = and_item (constant_of t) (constants_of ts)

    pub constant_pairs_of : Pairs → Option (List (Term × Term))
    constant_pairs_of no_pair = Some []
    constant_pairs_of (pair t x u ps) =
        and_item (constant_pair (constant_of t) x (constant_of u)) (constant_pairs_of ps)

    -- the bits of constant segments
    pub segment_bits : Segments → Option (List Bool)
    segment_bits no_segment = Some []
    segment_bits (and_segment g gs) = joined (bits_of g) (segment_bits gs)

    -- the bits of a segment of type integer, with a number, a size and a unit, and no more than 256 bits
    pub bits_of : Segment → Option (List Bool)
    bits_of (segment p t u n k f) =
        if is_integer_kind k then bits_written (integer_value t) (count_value u) (count_value n) (constant_of f)
        else None
    bits_of (noted_segment g n) = bits_of g

-- the bits of segments that make a constant
abbrev pub bits_of_segments : Segments → Option (List Bool)
bits_of_segments gs = segment_bits false gs
