-- What listed functions of the module erlang answer (OTP 25, module erlang).
use Prim.Native.String.{String}
use Rattle.std.specs.Prelude.{◌≡◌, [], ◌∷◌, length, Option, Some, option_map, codes}
use Rattle.erl_term.specs.Term as T
use Rattle.erl_term.specs.Term.{Term}
use Rattle.erl_term.specs.Terms.{Values}
use Rattle.bif_table.specs.BuiltinAnswer.{Answer, value, raised, lookup, answer}
use Rattle.core_examples.specs.Build.{nine_bits, atom, int, below_zero, tuple_of, own_fun}

-- the answer of the listed function of this name, in process 1; none where it is not listed
abbrev pub listed_answer : String → Values → Option Answer
listed_answer f vs = option_map (λ b. answer b (T.pid 1) vs) (lookup (codes f) (length vs))

-- a value
abbrev pub a_value : Term → Option Answer
a_value t = Some (value t)

-- a raise of class error with an atom
abbrev pub raises_error : String → Option Answer
raises_error w = Some (raised T.error (atom w))

-- true
abbrev pub answers_true : Option Answer
answers_true = a_value (atom "true")

-- and false
abbrev pub answers_false : Option Answer
answers_false = a_value (atom "false")

-- -6: the number whose bits are those that 5 has not
abbrev pub minus_six : Term
minus_six = below_zero 5

-- -4: those that 3 has not
abbrev pub minus_four : Term
minus_four = below_zero 3

-- the external fun m:f/2
abbrev pub external : Term
external = T.extern (codes "m") (codes "f") 2

-- {a,1,2}
abbrev pub record_a : Term
record_a = tuple_of (atom "a" ∷ int 1 ∷ int 2 ∷ [])

-- what functions answer
pub record ListedAnswers : Type 0 where
  -- integers are endless in two's complement: 12 band -6 = 8, 12 bor -6 = -2
  pub band_negative : listed_answer "band" (int 12 ∷ minus_six ∷ []) ≡ a_value (int 8)
  pub bor_negative : listed_answer "bor" (int 12 ∷ minus_six ∷ []) ≡ a_value (below_zero 1)
  -- -6 bxor -4 = 6, 12 bxor -6 = -10, either way round
  pub bxor_negatives : listed_answer "bxor" (minus_six ∷ minus_four ∷ []) ≡ a_value (int 6)
  pub bxor_second : listed_answer "bxor" (int 12 ∷ minus_six ∷ []) ≡ a_value (below_zero 9)
  pub bxor_first : listed_answer "bxor" (minus_six ∷ int 12 ∷ []) ≡ a_value (below_zero 9)
  -- a shift by a negative number goes the other way, and rounds down
  pub bsl_negative : listed_answer "bsl" (int 20 ∷ below_zero 1 ∷ []) ≡ a_value (int 5)
  pub bsl_rounds_down : listed_answer "bsl" (below_zero 4 ∷ below_zero 0 ∷ []) ≡ a_value (below_zero 2)
  pub bsr_negative : listed_answer "bsr" (int 5 ∷ below_zero 1 ∷ []) ≡ a_value (int 20)
  -- the size of a record counts its tag
  pub record_size : listed_answer "is_record" (record_a ∷ atom "a" ∷ int 3 ∷ []) ≡ answers_true
  pub record_without_tag : listed_answer "is_record" (record_a ∷ atom "a" ∷ int 2 ∷ []) ≡ answers_false
  -- a negative size is that of no tuple
  pub record_negative : listed_answer "is_record" (record_a ∷ atom "a" ∷ below_zero 0 ∷ []) ≡ answers_false
  -- an external fun is a function of its arity
  pub external_fun : listed_answer "is_function" (external ∷ int 2 ∷ []) ≡ answers_true
  pub external_arity : listed_answer "is_function" (external ∷ int 1 ∷ []) ≡ answers_false
  pub local_fun : listed_answer "is_function" (own_fun 0 2 (int 1 ∷ []) ∷ int 2 ∷ []) ≡ answers_true
  -- nil is a list
  pub nil_is_a_list : listed_answer "is_list" (T.nil ∷ []) ≡ answers_true
  -- `size` counts whole bytes, `byte_size` begun ones
  pub size_of_bits : listed_answer "size" (nine_bits ∷ []) ≡ a_value (int 1)
  pub byte_size_of_bits : listed_answer "byte_size" (nine_bits ∷ []) ≡ a_value (int 2)
  -- elements are counted from 1, and there is none past the end
  pub last_element : listed_answer "element" (int 3 ∷ record_a ∷ []) ≡ a_value (int 2)
  pub past_the_end : listed_answer "element" (int 4 ∷ record_a ∷ []) ≡ raises_error "badarg"
  pub before_the_first : listed_answer "element" (int 0 ∷ record_a ∷ []) ≡ raises_error "badarg"
  -- both arguments are truth values, whatever the first is
  pub false_and : listed_answer "and" (atom "false" ∷ int 7 ∷ []) ≡ raises_error "badarg"
  pub true_or : listed_answer "or" (atom "true" ∷ int 7 ∷ []) ≡ raises_error "badarg"
  -- what is no map is the reason
  pub get_of_no_map : listed_answer "map_get" (atom "k" ∷ int 7 ∷ [])
      ≡ Some (raised T.error (tuple_of (atom "badmap" ∷ int 7 ∷ [])))
