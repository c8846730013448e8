-- The tests of the machine that ask about terms alone (Erlang/OTP 25, genop.tab: the tests named `is_..`).
use Rattle.std.specs.Prelude.{ℕ, suc, Bool, false, not, ◌&&◌, eqb, pos, codes}
use Rattle.erl_base.specs.Names.{Name, same_name}
use Rattle.erl_term.specs.Term as T
use Rattle.erl_term.specs.Term.{Term, more}
use Rattle.erl_term.specs.TermOrder.{count, same_term}
use Rattle.bif_table.specs.Kinds as K
use Rattle.bif_table.specs.BuiltinAnswer.{below}

-- a test of one term's type
pub data TypeTest : Type 0 where
  is_atom is_integer is_number is_list is_nonempty_list is_nil is_tuple is_binary is_bitstr is_boolean : TypeTest
  is_function is_map is_pid is_port is_reference : TypeTest

-- a test of two terms
pub data Comparison : Type 0 where
  is_eq_exact is_ne_exact is_eq is_ne is_lt is_ge is_function2 : Comparison

-- whether the term is of the type
abbrev pub type_holds : TypeTest → Term → Bool
type_holds is_atom t = K.is_atom t
type_holds is_integer t = K.is_int t
type_holds is_number t = K.is_int t
type_holds is_list t = K.is_list t
type_holds is_nonempty_list t = K.is_cell t
type_holds is_nil t = K.is_nil t
type_holds is_tuple t = K.is_tuple t
type_holds is_binary t = K.is_bytes t
type_holds is_bitstr t = K.is_bits t
type_holds is_boolean t = K.is_truth (K.truth_of t)
type_holds is_function t = K.is_fun t
type_holds is_map t = K.is_map t
type_holds is_pid t = K.is_pid t
type_holds is_port t = K.is_port t
type_holds is_reference t = K.is_reference t

-- a fun of this arity; what is no integer of at least 0 is no arity
abbrev pub is_fun_of_arity : Term → Term → Bool
is_fun_of_arity t (T.int (pos n)) = K.has_arity t n
is_fun_of_arity t _ = false

-- whether the comparison holds of the two terms
unfoldable pub compare_holds : Comparison → Term → Term → Bool
unfolding below same_term
compare_holds is_eq_exact t u = same_term t u
compare_holds is_ne_exact t u = not (same_term t u)
compare_holds is_eq t u = same_term t u
compare_holds is_ne t u = not (same_term t u)
compare_holds is_lt t u = below t u
compare_holds is_ge t u = not (below t u)
compare_holds is_function2 t u = is_fun_of_arity t u

-- a tuple of this size above 0 whose first element is this atom
abbrev pub is_tagged : ℕ → Name → Term → Bool
is_tagged n a (T.tuple (more (T.atom b) ts)) = eqb n (suc (count ts)) && same_name a b
is_tagged n a _ = false

-- the name of a test in the machine's text
abbrev pub type_name : TypeTest → Name
type_name is_atom = codes "is_atom"
type_name is_integer = codes "is_integer"
type_name is_number = codes "is_number"
type_name is_list = codes "is_list"
type_name is_nonempty_list = codes "is_nonempty_list"
type_name is_nil = codes "is_nil"
type_name is_tuple = codes "is_tuple"
type_name is_binary = codes "is_binary"
type_name is_bitstr = codes "is_bitstr"
type_name is_boolean = codes "is_boolean"
type_name is_function = codes "is_function"
type_name is_map = codes "is_map"
type_name is_pid = codes "is_pid"
type_name is_port = codes "is_port"
type_name is_reference = codes "is_reference"

-- and that of a comparison
abbrev pub comparison_name : Comparison → Name
comparison_name is_eq_exact = codes "is_eq_exact"
comparison_name is_ne_exact = codes "is_ne_exact"
comparison_name is_eq = codes "is_eq"
comparison_name is_ne = codes "is_ne"
comparison_name is_lt = codes "is_lt"
comparison_name is_ge = codes "is_ge"
comparison_name is_function2 = codes "is_function2"
