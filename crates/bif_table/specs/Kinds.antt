-- The kinds of terms that tests and guards tell apart.
use Rattle.std.specs.Prelude.{ℕ, ◌%◌, length, Bool, true, false, eqb, Option, Some, None, if◌then◌else◌, codes}
use Rattle.erl_base.specs.Names.{same_name}
use Rattle.erl_term.specs.Term as T
use Rattle.erl_term.specs.Term.{Term}

-- the atoms true and false
abbrev pub truth_of : Term → Option Bool
truth_of (T.atom a) =
    if same_name a (codes "true") then Some true else if same_name a (codes "false") then Some false else None
truth_of _ = None

-- integers
abbrev pub is_int : Term → Bool
is_int (T.int a) = true
is_int _ = false

-- atoms, truth values among them
abbrev pub is_atom : Term → Bool
is_atom (T.atom a) = true
is_atom _ = false

-- bit strings
abbrev pub is_bits : Term → Bool
is_bits (T.bits bs) = true
is_bits _ = false

-- bit strings of whole bytes
abbrev pub is_bytes : Term → Bool
is_bytes (T.bits bs) = eqb (length bs % 8) 0
is_bytes _ = false

-- whether a term is one of the two
abbrev pub is_truth : Option Bool → Bool
is_truth None = false
is_truth (Some b) = true

-- local and external funs
abbrev pub is_fun : Term → Bool
is_fun (T.fun m s a ts) = true
is_fun (T.extern m f a) = true
is_fun _ = false

-- nil and cells
abbrev pub is_list : Term → Bool
is_list T.nil = true
is_list (T.cons x y) = true
is_list _ = false

-- a list with an item
abbrev pub is_cell : Term → Bool
is_cell (T.cons x y) = true
is_cell _ = false

-- the empty list
abbrev pub is_nil : Term → Bool
is_nil T.nil = true
is_nil _ = false

-- maps
abbrev pub is_map : Term → Bool
is_map (T.map ps) = true
is_map _ = false

-- pids
abbrev pub is_pid : Term → Bool
is_pid (T.pid n) = true
is_pid _ = false

-- ports
abbrev pub is_port : Term → Bool
is_port (T.port n) = true
is_port _ = false

-- references
abbrev pub is_reference : Term → Bool
is_reference (T.reference n) = true
is_reference _ = false

-- tuples of any size
abbrev pub is_tuple : Term → Bool
is_tuple (T.tuple ts) = true
is_tuple _ = false

-- a fun of this arity
abbrev pub has_arity : Term → ℕ → Bool
has_arity (T.fun m s a ts) n = eqb a n
has_arity (T.extern m f a) n = eqb a n
has_arity _ n = false
