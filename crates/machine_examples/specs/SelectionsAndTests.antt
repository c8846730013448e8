-- Selections, and the tests of terms (OTP 25, genop.tab).
use Rattle.std.specs.Prelude.{◌≡◌, List, [], ◌∷◌, codes}
use Rattle.erl_term.specs.Term as T
use Rattle.erl_term.specs.Term.{Term}
use Rattle.bif_table.specs.TermTests.{TypeTest, is_atom, is_list, is_pid, is_port, is_function, is_map, Comparison, is_lt, is_ne_exact}
use Rattle.step_machine.specs.Steps.{End}
use Rattle.beam_table.specs.Code.{Insn, label, move, return, test, compares, is_tagged_tuple, select_val, select_tuple_arity}
use Rattle.machine_examples.specs.Build.{atom, int, tuple_term, map_of, x0, x1, r, a, i, end_of, returns}

-- an instruction that goes on to 'yes' or jumps to 'no'
abbrev pub branches : Insn → List Insn
branches j = j ∷ label 4 ∷ move (a "yes") x0 ∷ return ∷ label 3 ∷ move (a "no") x0 ∷ return ∷ []

-- how a test of a term goes
abbrev pub type_tested : TypeTest → Term → End
type_tested t u = end_of (branches (test t 3 (r x0))) (u ∷ [])

-- how a comparison of two terms goes
abbrev pub compared : Comparison → Term → Term → End
compared t u v = end_of (branches (compares t 3 (r x0) (r x1))) (u ∷ v ∷ [])

-- it goes on
abbrev pub yes : End
yes = returns (atom "yes")

-- it jumps
abbrev pub no : End
no = returns (atom "no")

-- {b,1}
abbrev pub tagged_b : Term
tagged_b = tuple_term (atom "b" ∷ int 1 ∷ [])

-- what is selected, and what is of a type
pub record SelectionsAndTests : Type 0 where
  -- of equal values and of equal sizes the first is selected
  pub first_value : end_of (branches (select_val (r x0) 3 ((i 1, 4) ∷ (i 1, 3) ∷ []))) (int 1 ∷ []) ≡ yes
  pub first_size : end_of (branches (select_tuple_arity (r x0) 3 ((2, 4) ∷ (2, 3) ∷ []))) (tagged_b ∷ []) ≡ yes
  -- a tagged tuple has the size and the tag
  pub tag_and_size : end_of (branches (is_tagged_tuple 3 (r x0) 2 (codes "b"))) (tagged_b ∷ []) ≡ yes
  pub another_size : end_of (branches (is_tagged_tuple 3 (r x0) 3 (codes "b"))) (tagged_b ∷ []) ≡ no
  pub another_tag : end_of (branches (is_tagged_tuple 3 (r x0) 2 (codes "c"))) (tagged_b ∷ []) ≡ no
  -- nil is a list
  pub nil_is_a_list : type_tested is_list T.nil ≡ yes
  -- a port is no pid, and a pid no port
  pub port_is_no_pid : type_tested is_pid (T.port 1) ≡ no
  pub pid_is_no_port : type_tested is_port (T.pid 1) ≡ no
  pub pid : type_tested is_pid (T.pid 1) ≡ yes
  -- an external fun is a function
  pub external_fun : type_tested is_function (T.extern (codes "p") (codes "g") 1) ≡ yes
  -- atoms and maps are what they are
  pub an_atom : type_tested is_atom (atom "a") ≡ yes
  pub no_atom : type_tested is_atom (int 1) ≡ no
  pub a_map : type_tested is_map (map_of []) ≡ yes
  pub no_map : type_tested is_map (tuple_term []) ≡ no
  -- `is_lt` does not hold of equal terms
  pub less : compared is_lt (int 1) (int 2) ≡ yes
  pub equal_is_not_less : compared is_lt (int 1) (int 1) ≡ no
  -- `is_ne_exact` holds of terms that differ
  pub equal_does_not_differ : compared is_ne_exact (int 1) (int 1) ≡ no
  pub differs : compared is_ne_exact (int 1) (int 2) ≡ yes
