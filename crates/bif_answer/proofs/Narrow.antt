-- Only an integer leaves 128 signed bits: what else an answer holds stood in an argument, or is small.
use Rattle.std.proofs.Common.{refl, ℕ, zero, suc, List, [], ◌∷◌, Bool, true, false, ◌&&◌, IsTrue, Option}
use Rattle.std.proofs.Common.{Some, None, ℤ, pos, negsuc, codes, if◌then◌else◌, not, ◌+◌, ◌/◌, arith}
use Rattle.std.specs.List.{All}
use Rattle.erl_term.proofs.Forms.{left_true, right_true}
use Rattle.erl_term.specs.Ranges.{is_narrow, all_narrow, pairs_narrow}
use Rattle.erl_term.specs.Term as T
use Rattle.erl_term.specs.Term.{Term, Terms, none, more, Pairs, no_pair, pair}
use Rattle.erl_term.specs.TermOrder.{same_term}
use Rattle.erl_term.specs.Terms.{truth, tagged, value_at}
use Rattle.bif_table.specs.BuiltinAnswer as B
use Rattle.bif_table.specs.BuiltinAnswer.{Answer, value}
use Rattle.bif_table.specs.Builtins as L
use Rattle.bif_table.specs.Kinds.{truth_of}
use Rattle.bif_answer.specs.Answers.{IsNarrowOrInteger}

narrow_value : (t : Term) → IsTrue (is_narrow t) → IsNarrowOrInteger (value t)
narrow_value (T.int z) h = tt
narrow_value t h = h

truths : (b : Bool) → IsNarrowOrInteger (value (truth b))
truths true = refl
truths false = refl

reasons : (a : List ℕ) (t : Term) → IsTrue (is_narrow t) → IsTrue (is_narrow (tagged a t))
reasons a t h = grind arith

-- numbers
of_one_number : (f : ℤ → ℤ) (t : Term) (r : Answer) → IsNarrowOrInteger r → IsNarrowOrInteger (B.of_number f t r)
of_one_number f (T.int z) r h = tt
of_one_number f t r h = h

of_two_numbers : (f : ℤ → ℤ → Answer) (t u : Term) → ((x y : ℤ) → IsNarrowOrInteger (f x y))
    → IsNarrowOrInteger (B.of_numbers f t u)
of_two_numbers f (T.int x) (T.int y) h = h x y
of_two_numbers f t u h = refl

unless_zero_narrow : (z : ℤ) (r : Answer) → IsNarrowOrInteger r → IsNarrowOrInteger (B.unless_zero z r)
unless_zero_narrow (pos zero) r h = refl
unless_zero_narrow (pos (suc n)) r h = h
unless_zero_narrow (negsuc n) r h = h

-- truth values
of_one_truth : (f : Bool → Bool) (a : Option Bool) → IsNarrowOrInteger (B.by_truth f a)
of_one_truth f None = refl
of_one_truth f (Some a) = truths (f a)

of_two_truths : (f : Bool → Bool → Bool) (a b : Option Bool) → IsNarrowOrInteger (B.by_truths f a b)
of_two_truths f None b = refl
of_two_truths f (Some a) b = of_one_truth (f a) b

-- funs and records
fun_of : (t u : Term) → IsNarrowOrInteger (B.is_fun_of t u)
fun_of t (T.int (pos n)) = truths _
fun_of t (T.int (negsuc n)) = refl
fun_of t u = refl

record_of_two : (t u : Term) → IsNarrowOrInteger (B.is_record t u)
unfolding B.is_record
record_of_two t (T.atom a) = truths _
record_of_two t u = refl

record_of_three : (t u v : Term) → IsNarrowOrInteger (B.is_record_of t u v)
unfolding B.is_record_of
record_of_three t (T.atom a) (T.int n) = truths _
record_of_three t u v = refl

-- parts
nth_narrow : (n : ℕ) (ts : Terms) → IsTrue (all_narrow ts) → IsNarrowOrInteger (B.or_badarg (B.nth n ts))
nth_narrow n none h = refl
nth_narrow zero (more t ts) h = narrow_value t (left_true (is_narrow t) (all_narrow ts) h)
nth_narrow (suc n) (more t ts) h = nth_narrow n ts (right_true (is_narrow t) (all_narrow ts) h)

element_narrow : (t u : Term) → IsTrue (is_narrow u) → IsNarrowOrInteger (B.element t u)
element_narrow (T.int (pos (suc n))) (T.tuple ts) h = nth_narrow n ts h
element_narrow t u h = refl

tuple_size_narrow : (t : Term) → IsNarrowOrInteger (B.tuple_size t)
tuple_size_narrow (T.tuple ts) = tt
tuple_size_narrow t = refl

size_narrow : (t : Term) → IsNarrowOrInteger (B.size t)
size_narrow (T.tuple ts) = tt
size_narrow (T.bits bs) = tt
size_narrow t = refl

bits_size_narrow : (f : ℕ → ℕ) (t : Term) → IsNarrowOrInteger (B.bits_size f t)
bits_size_narrow f (T.bits bs) = tt
bits_size_narrow f t = refl

items_narrow : (n : ℕ) (t : Term) → IsNarrowOrInteger (B.items n t)
items_narrow n T.nil = tt
items_narrow n (T.cons x y) = items_narrow (suc n) y
items_narrow n t = refl

head_narrow : (t : Term) → IsTrue (is_narrow t) → IsNarrowOrInteger (B.head t)
head_narrow (T.cons x y) h = narrow_value x (left_true (is_narrow x) (is_narrow y) h)
head_narrow t h = refl

tail_narrow : (t : Term) → IsTrue (is_narrow t) → IsNarrowOrInteger (B.tail t)
tail_narrow (T.cons x y) h = narrow_value y (right_true (is_narrow x) (is_narrow y) h)
tail_narrow t h = refl

map_size_narrow : (t : Term) → IsTrue (is_narrow t) → IsNarrowOrInteger (B.map_size t)
map_size_narrow (T.map ps) h = tt
map_size_narrow t h = reasons (codes "badmap") t h

key_narrow : (k t : Term) → IsTrue (is_narrow t) → IsNarrowOrInteger (B.is_map_key k t)
unfolding B.is_map_key
key_narrow k (T.map ps) h = truths _
key_narrow k t h = reasons (codes "badmap") t h

-- whether a value that was found, or the reason that none was, is narrow
found_narrow : (k v : Term) (b : Bool) (o : Option Term) → IsTrue (is_narrow v)
    → IsNarrowOrInteger (B.or_badkey k o) → IsNarrowOrInteger (B.or_badkey k (if b then Some v else o))
found_narrow k v true o h i = narrow_value v h
found_narrow k v false o h i = i

value_narrow : (k l : Term) (ps : Pairs) → IsTrue (is_narrow k) → IsTrue (pairs_narrow ps)
    → IsNarrowOrInteger (B.or_badkey k (value_at ps l))
value_narrow k l no_pair h i = reasons (codes "badkey") k h
value_narrow k l (pair m v ps) h i =
    let j : IsTrue (is_narrow m && is_narrow v) = left_true (is_narrow m && is_narrow v) (pairs_narrow ps) i in
    found_narrow k v (same_term l m) (value_at ps l) (right_true (is_narrow m) (is_narrow v) j)
    (value_narrow k l ps h (right_true (is_narrow m && is_narrow v) (pairs_narrow ps) i))

map_get_narrow : (k t : Term) → IsTrue (is_narrow k) → IsTrue (is_narrow t) → IsNarrowOrInteger (B.map_get k t)
unfolding B.map_get
map_get_narrow k (T.map ps) h i = value_narrow k k ps h i
map_get_narrow k t h i = reasons (codes "badmap") t i

one : (b : L.Bif) (t : Term) → IsTrue (is_narrow t) → IsNarrowOrInteger (B.one_answer b t)
unfolding B.one_answer
one L.Plus t h = of_one_number _ t _ refl
one L.Negate t h = of_one_number _ t _ refl
one L.Bnot t h = of_one_number _ t _ refl
one L.Abs t h = of_one_number _ t _ refl
one L.Round t h = of_one_number _ t _ refl
one L.Trunc t h = of_one_number _ t _ refl
one L.Ceil t h = of_one_number _ t _ refl
one L.Floor t h = of_one_number _ t _ refl
one L.Not t h = of_one_truth not (truth_of t)
one L.IsAtom t h = truths _
one L.IsBinary t h = truths _
one L.IsBitstring t h = truths _
one L.IsBoolean t h = truths _
one L.IsFloat t h = truths false
one L.IsFunction t h = truths _
one L.IsInteger t h = truths _
one L.IsList t h = truths _
one L.IsMap t h = truths _
one L.IsNumber t h = truths _
one L.IsPid t h = truths _
one L.IsPort t h = truths _
one L.IsReference t h = truths _
one L.IsTuple t h = truths _
one L.TupleSize t h = tuple_size_narrow t
one L.Size t h = size_narrow t
one L.ByteSize t h = bits_size_narrow (λ n. (n + 7) / 8) t
one L.BitSize t h = bits_size_narrow (λ n. n) t
one L.Length t h = items_narrow 0 t
one L.Hd t h = head_narrow t h
one L.Tl t h = tail_narrow t h
one L.MapSize t h = map_size_narrow t h
one L.Error1 t h = h
one L.Exit1 t h = h
one L.Throw1 t h = h
one b t h = refl

two : (b : L.Bif) (t u : Term) → IsTrue (is_narrow t) → IsTrue (is_narrow u) → IsNarrowOrInteger (B.two_answer b t u)
unfolding B.two_answer
two L.Add t u h i = of_two_numbers _ t u (λ x y. tt)
two L.Subtract t u h i = of_two_numbers _ t u (λ x y. tt)
two L.Multiply t u h i = of_two_numbers _ t u (λ x y. tt)
two L.Div t u h i = of_two_numbers _ t u (λ x y. unless_zero_narrow y _ tt)
two L.Rem t u h i = of_two_numbers _ t u (λ x y. unless_zero_narrow y _ tt)
two L.Band t u h i = of_two_numbers _ t u (λ x y. tt)
two L.Bor t u h i = of_two_numbers _ t u (λ x y. tt)
two L.Bxor t u h i = of_two_numbers _ t u (λ x y. tt)
two L.Bsl t u h i = of_two_numbers _ t u (λ x y. tt)
two L.Bsr t u h i = of_two_numbers _ t u (λ x y. tt)
two L.Equals t u h i = truths _
two L.Exactly t u h i = truths _
two L.Differs t u h i = truths _
two L.ExactlyNot t u h i = truths _
two L.Below t u h i = truths _
two L.AtMost t u h i = truths _
two L.Above t u h i = truths _
two L.AtLeast t u h i = truths _
two L.And t u h i = of_two_truths B.and_bool (truth_of t) (truth_of u)
two L.Or t u h i = of_two_truths B.or_bool (truth_of t) (truth_of u)
two L.Xor t u h i = of_two_truths B.xor_bool (truth_of t) (truth_of u)
two L.IsFunction2 t u h i = fun_of t u
two L.IsRecord2 t u h i = record_of_two t u
two L.Element t u h i = element_narrow t u i
two L.IsMapKey t u h i = key_narrow t u i
two L.MapGet t u h i = map_get_narrow t u h i
two L.Error2 t u h i = h
two b t u h i = refl

three : (b : L.Bif) (t u v : Term) → IsNarrowOrInteger (B.three_answer b t u v)
unfolding B.three_answer
three L.IsRecord3 t u v = record_of_three t u v
three b t u v = refl

pub narrow : (b : L.Bif) (own : Term) (ts : List Term) → IsTrue (is_narrow own) → All (λ t. IsTrue (is_narrow t)) ts
    → IsNarrowOrInteger (B.answer b own ts)
unfolding B.answer
narrow b own [] g h = narrow_value own g
narrow b own (x ∷ []) g h = one b x (h 0 x (omega arith))
narrow b own (x ∷ y ∷ []) g h = two b x y (h 0 x (omega arith)) (h 1 x (omega arith))
narrow b own (x ∷ y ∷ z ∷ ts) g h = three b x y z
