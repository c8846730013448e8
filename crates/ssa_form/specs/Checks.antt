-- What the tests of the machine ask (this project's own, after Erlang/OTP 25's BEAM).
use Rattle.std.specs.Prelude.{ℕ, [], ◌∷◌, Bool, true, ◌&&◌, eqb, Option, Some, None}
use Rattle.erl_base.specs.Names.{Name}
use Rattle.erl_term.specs.Term as T
use Rattle.erl_term.specs.Term.{Term, Pairs}
use Rattle.erl_term.specs.TermOrder.{count, same_term}
use Rattle.erl_term.specs.Terms.{Values, value_at, is_there}
use Rattle.bif_table.specs.TermTests.{TypeTest, Comparison, type_holds, compare_holds, is_tagged}
use Rattle.ssa_form.specs.Ssa.{Check, test, compares, test_arity, is_tagged_tuple, has_map_fields}

-- these tests want a tuple, or a map
abbrev pub tuple_has_size : ℕ → Term → Option Bool
tuple_has_size n (T.tuple ts) = Some (eqb (count ts) n)
tuple_has_size n _ = None

-- all keys are in a map
unfoldable pub has_keys : Values → Pairs → Bool
unfolding same_term
has_keys [] ps = true
has_keys (k ∷ ks) ps = is_there (value_at ps k) && has_keys ks ps

-- in a term, which has to be a map
abbrev pub map_has : Values → Term → Option Bool
map_has ks (T.map ps) = Some (has_keys ks ps)
map_has ks _ = None

-- of one term
abbrev pub type_test : TypeTest → Values → Option Bool
type_test c (t ∷ []) = Some (type_holds c t)
type_test c _ = None

-- of two terms
abbrev pub comparison : Comparison → Values → Option Bool
comparison c (t ∷ u ∷ []) = Some (compare_holds c t u)
comparison c _ = None

-- of one term
abbrev pub size_test : ℕ → Values → Option Bool
size_test n (t ∷ []) = tuple_has_size n t
size_test n _ = None

-- of one term
abbrev pub tag_test : ℕ → Name → Values → Option Bool
tag_test n a (t ∷ []) = Some (is_tagged n a t)
tag_test n a _ = None

-- of a map and keys
abbrev pub key_test : Values → Option Bool
key_test (t ∷ ks) = map_has ks t
key_test _ = None

-- whether a test holds; None: it may not be asked of these terms
abbrev pub check_holds : Check → Values → Option Bool
check_holds (test c) vs = type_test c vs
check_holds (compares c) vs = comparison c vs
check_holds (test_arity n) vs = size_test n vs
check_holds (is_tagged_tuple n a) vs = tag_test n a vs
check_holds has_map_fields vs = key_test vs
