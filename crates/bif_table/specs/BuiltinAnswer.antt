-- What a listed function of the module erlang answers: a value, or a class and a reason (Erlang/OTP 25, module erlang;
-- integers have no limit here, and there are no floats).
use Rattle.std.specs.Prelude.{ℕ, zero, suc, ◌+◌, ◌/◌, List, [], ◌∷◌, length, Bool, true, false, not, ◌&&◌, ◌||◌, eqb, Option, Some, None, if◌then◌else◌, ℤ, pos, negsuc, ◌+ℤ◌, ◌-ℤ◌, ◌*ℤ◌, neg_ℤ, nat_abs, int_div, int_rem, codes}
use Rattle.erl_base.specs.Names.{Name}
use Rattle.erl_term.specs.Term as T
use Rattle.erl_term.specs.Term.{Term, Terms, none, more, Class}
use Rattle.erl_term.specs.TermOrder.{compare, count, pair_count, same_term}
use Rattle.erl_term.specs.Terms.{word, truth, tagged, value_at, is_there}
use Rattle.erl_term.specs.WellFormed.{is_below}
pub use Rattle.bif_table.specs.Builtins.{Bif, Add, Subtract, Multiply, Plus, Negate, Div, Rem, Band, Bor, Bxor, Bnot, Bsl, Bsr, Abs, Round, Trunc, Ceil, Floor, Equals, Exactly, Differs, ExactlyNot, Below, AtMost, Above, AtLeast, And, Or, Xor, Not, IsAtom, IsBinary, IsBitstring, IsBoolean, IsFloat, IsFunction, IsInteger, IsList, IsMap, IsNumber, IsPid, IsPort, IsReference, IsTuple, IsFunction2, IsRecord2, IsRecord3, Element, TupleSize, Size, ByteSize, BitSize, Length, Hd, Tl, MapSize, IsMapKey, MapGet, Self, Error1, Error2, Exit1, Throw1}
pub use Rattle.bif_table.specs.Builtins.{lookup}
pub use Rattle.bif_table.specs.Kinds.{truth_of, is_int, is_atom, is_bits, is_bytes, is_truth, is_fun, is_list, is_map, is_pid, is_port, is_reference, is_tuple, has_arity}
use Rattle.bif_table.specs.TwosComplement.{int_not, int_and, int_or, int_xor, shift_left, shift_right}

-- an answer
pub data Answer : Type 0 where
  value : Term → Answer
  raised : Class → Term → Answer

-- Reasons.

-- an argument of arithmetic that is no number, or a division by zero
abbrev pub badarith : Answer
badarith = raised T.error (word (codes "badarith"))

-- the reason of a call with a term that it can not take
abbrev pub badarg : Term
badarg = word (codes "badarg")

-- an argument that is not of the right kind
abbrev pub bad_argument : Answer
bad_argument = raised T.error badarg

-- what should be a map is none
abbrev pub badmap : Term → Answer
badmap t = raised T.error (tagged (codes "badmap") t)

-- a map has no such key
abbrev pub badkey : Term → Answer
badkey t = raised T.error (tagged (codes "badkey") t)

-- a number that is not negative
abbrev pub number_of : ℕ → Answer
number_of n = value (T.int (pos n))

-- a term that is there
abbrev pub or_badarg : Option Term → Answer
or_badarg None = bad_argument
or_badarg (Some t) = value t

-- Numbers.

-- a function of one number, with what it raises at any other term
abbrev pub of_number : (ℤ → ℤ) → Term → Answer → Answer
of_number f (T.int a) r = value (T.int (f a))
of_number f _ r = r

-- a function of two numbers, with its answer
abbrev pub of_numbers : (ℤ → ℤ → Answer) → Term → Term → Answer
of_numbers f (T.int a) (T.int b) = f a b
of_numbers f _ _ = badarith

-- a function of two numbers that is defined for all
abbrev pub number_by : (ℤ → ℤ → ℤ) → Term → Term → Answer
number_by f a b = of_numbers (λ x y. value (T.int (f x y))) a b

-- division by zero raises
abbrev pub unless_zero : ℤ → Answer → Answer
unless_zero (pos zero) r = badarith
unless_zero (pos (suc n)) r = r
unless_zero (negsuc n) r = r

-- rounded towards zero
abbrev pub quotient : Term → Term → Answer
quotient a b = of_numbers (λ x y. unless_zero y (value (T.int (int_div x y)))) a b

-- with the sign of the dividend
abbrev pub remainder : Term → Term → Answer
remainder a b = of_numbers (λ x y. unless_zero y (value (T.int (int_rem x y)))) a b

-- Truth values.

-- a function of one truth value
abbrev pub by_truth : (Bool → Bool) → Option Bool → Answer
by_truth f None = bad_argument
by_truth f (Some a) = value (truth (f a))

-- a function of two truth values
abbrev pub by_truths : (Bool → Bool → Bool) → Option Bool → Option Bool → Answer
by_truths f None b = bad_argument
by_truths f (Some a) b = by_truth (f a) b

-- both
abbrev pub and_bool : Bool → Bool → Bool
and_bool a b = a && b

-- one or both
abbrev pub or_bool : Bool → Bool → Bool
or_bool a b = a || b

-- one alone
abbrev pub xor_bool : Bool → Bool → Bool
xor_bool a b = if a then not b else b

-- Funs and records.

-- whether a term is a fun of the arity that a number says
abbrev pub is_fun_of : Term → Term → Answer
is_fun_of t (T.int (pos n)) = value (truth (has_arity t n))
is_fun_of t _ = bad_argument

-- whether a tuple begins with this atom
unfoldable pub has_tag : Term → Name → Bool
unfolding same_term
has_tag (T.tuple (more t ts)) a = same_term t (word a)
has_tag _ a = false

-- whether a tuple has this size
abbrev pub has_size : Term → ℤ → Bool
has_size (T.tuple ts) (pos n) = eqb (count ts) n
has_size _ _ = false

-- whether a term is a record of this tag
unfoldable pub is_record : Term → Term → Answer
unfolding has_tag
is_record t (T.atom a) = value (truth (has_tag t a))
is_record t _ = bad_argument

-- whether it is, and has this size
unfoldable pub is_record_of : Term → Term → Term → Answer
unfolding has_tag
is_record_of t (T.atom a) (T.int n) = value (truth (has_tag t a && has_size t n))
is_record_of t _ _ = bad_argument

-- Parts.

-- an element, counted from 0
abbrev pub nth : ℕ → Terms → Option Term
nth n none = None
nth zero (more t ts) = Some t
nth (suc n) (more t ts) = nth n ts

-- an element, counted from 1
abbrev pub element : Term → Term → Answer
element (T.int (pos (suc n))) (T.tuple ts) = or_badarg (nth n ts)
element _ _ = bad_argument

-- how many elements a tuple has
abbrev pub tuple_size : Term → Answer
tuple_size (T.tuple ts) = number_of (count ts)
tuple_size _ = bad_argument

-- of a tuple its elements, of bits its whole bytes
abbrev pub size : Term → Answer
size (T.tuple ts) = number_of (count ts)
size (T.bits bs) = number_of (length bs / 8)
size _ = bad_argument

-- a function of the number of bits
abbrev pub bits_size : (ℕ → ℕ) → Term → Answer
bits_size f (T.bits bs) = number_of (f (length bs))
bits_size f _ = bad_argument

-- how many items a proper list has, behind n
abbrev pub items : ℕ → Term → Answer
items n T.nil = number_of n
items n (T.cons x y) = items (suc n) y
items n _ = bad_argument

-- the first item of a list
abbrev pub head : Term → Answer
head (T.cons x y) = value x
head _ = bad_argument

-- and the rest
abbrev pub tail : Term → Answer
tail (T.cons x y) = value y
tail _ = bad_argument

-- how many keys a map has
abbrev pub map_size : Term → Answer
map_size (T.map ps) = number_of (pair_count ps)
map_size t = badmap t

-- the value of a key that is there
abbrev pub or_badkey : Term → Option Term → Answer
or_badkey k None = badkey k
or_badkey k (Some t) = value t

-- whether a map has the key
unfoldable pub is_map_key : Term → Term → Answer
unfolding same_term
is_map_key k (T.map ps) = value (truth (is_there (value_at ps k)))
is_map_key k t = badmap t

-- a key's value
unfoldable pub map_get : Term → Term → Answer
unfolding same_term
map_get k (T.map ps) = or_badkey k (value_at ps k)
map_get k t = badmap t

-- Comparisons.

-- in the order of terms
unfoldable pub below : Term → Term → Bool
unfolding compare
below a b = is_below (compare a b)

-- Answers. A function has as many arguments as its row says.

-- of one argument
unfoldable pub one_answer : Bif → Term → Answer
one_answer Plus a = of_number (λ x. x) a badarith
one_answer Negate a = of_number neg_ℤ a badarith
one_answer Bnot a = of_number int_not a badarith
one_answer Abs a = of_number (λ x. pos (nat_abs x)) a bad_argument
one_answer Round a = of_number (λ x. x) a bad_argument
one_answer Trunc a = of_number (λ x. x) a bad_argument
one_answer Ceil a = of_number (λ x. x) a bad_argument
one_answer Floor a = of_number (λ x. x) a bad_argument
one_answer Not a = by_truth not (truth_of a)
one_answer IsAtom a = value (truth (is_atom a))
one_answer IsBinary a = value (truth (is_bytes a))
one_answer IsBitstring a = value (truth (is_bits a))
one_answer IsBoolean a = value (truth (is_truth (truth_of a)))
one_answer IsFloat a = value (truth false)
one_answer IsFunction a = value (truth (is_fun a))
one_answer IsInteger a = value (truth (is_int a))
one_answer IsList a = value (truth (is_list a))
one_answer IsMap a = value (truth (is_map a))
one_answer IsNumber a = value (truth (is_int a))
one_answer IsPid a = value (truth (is_pid a))
one_answer IsPort a = value (truth (is_port a))
one_answer IsReference a = value (truth (is_reference a))
one_answer IsTuple a = value (truth (is_tuple a))
one_answer TupleSize a = tuple_size a
one_answer Size a = size a
one_answer ByteSize a = bits_size (λ n. (n + 7) / 8) a
one_answer BitSize a = bits_size (λ n. n) a
one_answer Length a = items 0 a
one_answer Hd a = head a
one_answer Tl a = tail a
one_answer MapSize a = map_size a
one_answer Error1 a = raised T.error a
one_answer Exit1 a = raised T.exit a
one_answer Throw1 a = raised T.throw a
one_answer _ a = bad_argument

-- of two
unfoldable pub two_answer : Bif → Term → Term → Answer
unfolding same_term below is_record is_map_key map_get
two_answer Add a b = number_by (λ x y. x +ℤ y) a b
two_answer Subtract a b = number_by (λ x y. x -ℤ y) a b
two_answer Multiply a b = number_by (λ x y. x *ℤ y) a b
two_answer Div a b = quotient a b
two_answer Rem a b = remainder a b
two_answer Band a b = number_by int_and a b
two_answer Bor a b = number_by int_or a b
two_answer Bxor a b = number_by int_xor a b
two_answer Bsl a b = number_by shift_left a b
two_answer Bsr a b = number_by shift_right a b
two_answer Equals a b = value (truth (same_term a b))
two_answer Exactly a b = value (truth (same_term a b))
two_answer Differs a b = value (truth (not (same_term a b)))
two_answer ExactlyNot a b = value (truth (not (same_term a b)))
two_answer Below a b = value (truth (below a b))
two_answer AtMost a b = value (truth (not (below b a)))
two_answer Above a b = value (truth (below b a))
two_answer AtLeast a b = value (truth (not (below a b)))
two_answer And a b = by_truths and_bool (truth_of a) (truth_of b)
two_answer Or a b = by_truths or_bool (truth_of a) (truth_of b)
two_answer Xor a b = by_truths xor_bool (truth_of a) (truth_of b)
two_answer IsFunction2 a b = is_fun_of a b
two_answer IsRecord2 a b = is_record a b
two_answer Element a b = element a b
two_answer IsMapKey a b = is_map_key a b
two_answer MapGet a b = map_get a b
two_answer Error2 a b = raised T.error a
two_answer _ a b = bad_argument

-- of three
unfoldable pub three_answer : Bif → Term → Term → Term → Answer
unfolding is_record_of
three_answer IsRecord3 a b c = is_record_of a b c
three_answer _ a b c = bad_argument

-- what a function answers, in the process with this own pid
unfoldable pub answer : Bif → Term → List Term → Answer
unfolding one_answer two_answer three_answer
answer b own [] = value own
answer b own (x ∷ []) = one_answer b x
answer b own (x ∷ y ∷ []) = two_answer b x y
answer b own (x ∷ y ∷ z ∷ zs) = three_answer b x y z
