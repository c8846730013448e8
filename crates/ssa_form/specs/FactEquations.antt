-- The equations that the facts of a body meet, one fact for each variable.
use Rattle.std.specs.Prelude.{◌≡◌, ℕ, zero, suc, ◌+◌, ◌^◌, List, [], ◌∷◌, length, map, Contains, Bool, true, false, not, ◌&&◌, eqb, Option, Some, None, if◌then◌else◌, pos}
use Rattle.erl_term.specs.Term as T
use Rattle.erl_term.specs.Term.{Term}
use Rattle.erl_term.specs.Ranges.{is_narrow}
use Rattle.erl_term.specs.Terms.{Values, truth}
use Rattle.bif_table.specs.BuiltinAnswer.{Answer, value, raised, answer}
use Rattle.bif_table.specs.Builtins as B
use Rattle.bif_table.specs.Builtins.{Bif}
use Rattle.ssa_form.specs.Ssa.{Arg, var, lit, Op, copy, bif, cons, tuple, map_put, make_fun, bs_integer, bs_binary, bs_tail, bs_create, Set, Phi, Block, Body, block_at}
use Rattle.ssa_form.specs.TypeFacts.{Fact, one_kind, has_kind, any, no_value, exact, join_all}

-- Type tests: the kinds of which all terms are accepted, and those of which some are.
pub record Accepts : Type 0 where
  pub all : ℕ
  pub some : ℕ

-- of these kinds all terms are accepted, and of the others none
abbrev pub whole : ℕ → Option Accepts
whole ks = Some (record { all = ks; some = ks })

-- what a type test accepts
abbrev pub test_of : Bif → Option Accepts
test_of B.IsAtom = whole (2 ^ 1)
test_of B.IsBinary = Some (record { all = 0; some = 2 ^ 10 })
test_of B.IsBitstring = whole (2 ^ 10)
test_of B.IsBoolean = Some (record { all = 0; some = 2 ^ 1 })
test_of B.IsFloat = whole 0
test_of B.IsFunction = whole (2 ^ 3)
test_of B.IsInteger = whole (2 ^ 0)
test_of B.IsList = whole (2 ^ 8 + 2 ^ 9)
test_of B.IsMap = whole (2 ^ 7)
test_of B.IsNumber = whole (2 ^ 0)
test_of B.IsPid = whole (2 ^ 5)
test_of B.IsPort = whole (2 ^ 4)
test_of B.IsReference = whole (2 ^ 2)
test_of B.IsTuple = whole (2 ^ 6)
test_of _ = None

-- no kind of the first stands among those of the second
abbrev pub apart_below : ℕ → ℕ → ℕ → Bool
apart_below zero ks js = true
apart_below (suc k) ks js = not (has_kind k ks && has_kind k js) && apart_below k ks js

-- each of the first so many kinds that is among the one is among the other
abbrev pub within_below : ℕ → ℕ → ℕ → Bool
within_below zero ks js = true
within_below (suc k) ks js = (if has_kind k ks then has_kind k js else true) && within_below k ks js

-- known where at least one kind is left, and all are accepted, or all are refused
abbrev pub tested : Accepts → Fact → Option Bool
tested a f =
    if eqb f.kinds 0 then None
    else if within_below 12 f.kinds a.all then Some true
    else if apart_below 12 f.kinds a.some then Some false
    else None

-- The kinds of a listed function's values over all arguments.

-- an integer that is not negative
abbrev pub at_least_zero : Fact
at_least_zero = record (one_kind 0) { low = Some (pos 0) }

-- what a function that is not computed may give
abbrev pub values_of : Bif → Fact
values_of B.Add = one_kind 0
values_of B.Subtract = one_kind 0
values_of B.Multiply = one_kind 0
values_of B.Plus = one_kind 0
values_of B.Negate = one_kind 0
values_of B.Div = one_kind 0
values_of B.Rem = one_kind 0
values_of B.Band = one_kind 0
values_of B.Bor = one_kind 0
values_of B.Bxor = one_kind 0
values_of B.Bnot = one_kind 0
values_of B.Bsl = one_kind 0
values_of B.Bsr = one_kind 0
values_of B.Abs = one_kind 0
values_of B.Round = one_kind 0
values_of B.Trunc = one_kind 0
values_of B.Ceil = one_kind 0
values_of B.Floor = one_kind 0
values_of B.Size = one_kind 0
values_of B.Length = at_least_zero
values_of B.TupleSize = at_least_zero
values_of B.ByteSize = at_least_zero
values_of B.BitSize = at_least_zero
values_of B.MapSize = at_least_zero
values_of B.Element = any
values_of B.Hd = any
values_of B.Tl = any
values_of B.MapGet = any
values_of B.Self = one_kind 5
values_of B.Error1 = no_value
values_of B.Error2 = no_value
values_of B.Exit1 = no_value
values_of B.Throw1 = no_value
values_of _ = one_kind 1

-- Facts of sets.

module _ (facts : ℕ → Fact) where
  -- what is known of an operand
  abbrev pub arg_fact : Arg → Fact
  arg_fact (var v) = facts v
  arg_fact (lit t) = exact t

  -- a known term before known terms
  abbrev pub with_known : Option Term → Option Values → Option Values
  with_known (Some t) (Some ts) = Some (t ∷ ts)
  with_known _ _ = None

  -- all operands, where all are known
  abbrev pub all_known : List Arg → Option Values
  all_known [] = Some []
  all_known (a ∷ as') = with_known (arg_fact a).known (all_known as')

  -- the fact of a value, but of none with an integer past 128 bits
  abbrev pub exact_if : Answer → Option Fact
  exact_if (value t) = if is_narrow t then Some (exact t) else None
  exact_if (raised c r) = None

  -- the function whose answer no operand tells
  abbrev pub is_self : Bif → Bool
  is_self B.Self = true
  is_self _ = false

  -- a function of known terms; the own pid is no part of its answer
  unfoldable pub computed : Bif → Option Values → Option Fact
  unfolding answer
  computed b None = None
  computed b (Some vs) = if is_self b then None else exact_if (answer b T.nil vs)

  -- what a type test of a fact gives
  abbrev pub test_fact : Option Accepts → List Arg → Option Bool
  test_fact (Some a) (x ∷ []) = tested a (arg_fact x)
  test_fact _ _ = None

  -- a test that is decided gives its truth value
  abbrev pub by_test : Option Bool → Fact → Fact
  by_test None f = f
  by_test (Some b) f = exact (truth b)

  -- the fact, if there is one
  abbrev pub or_else : Option Fact → Fact → Fact
  or_else None f = f
  or_else (Some f) g = f

  -- of a listed function: its value where all operands are known, a test that is decided, or any value it may give
  unfoldable pub bif_fact : Bif → List Arg → Fact
  unfolding computed
  bif_fact b as' = or_else (computed b (all_known as')) (by_test (test_fact (test_of b) as') (values_of b))

  -- of a copy its operand
  abbrev pub copied : List Arg → Fact
  copied (a ∷ []) = arg_fact a
  copied _ = any

  -- what is known of the variable that an operation sets
  unfoldable pub set_fact : Op → List Arg → Fact
  unfolding bif_fact
  set_fact copy as' = copied as'
  set_fact (bif b) as' = bif_fact b as'
  set_fact cons as' = one_kind 9
  set_fact tuple as' = record (one_kind 6) { size = Some (length as') }
  set_fact (map_put exact) as' = one_kind 7
  set_fact (make_fun n) as' = one_kind 3
  set_fact (bs_integer h) as' = one_kind 0
  set_fact (bs_binary h) as' = one_kind 10
  set_fact bs_tail as' = one_kind 10
  set_fact (bs_create hs) as' = one_kind 10
  set_fact _ as' = any

-- one fact for each variable: of parameters nothing is known, of a phi what its edges have in common; unreachable
-- blocks count
pub record FactsSolve (b : Body) (facts : ℕ → Fact) : Type 0 where
  pub params : (v : ℕ) → Contains b.params v → facts v ≡ any
  pub phis : (n : ℕ) (x : Block) (p : Phi) → block_at b n ≡ Some x → Contains x.phis p
      → facts p.dst ≡ join_all (map (λ e. arg_fact facts e.1) p.from)
  pub sets : (n : ℕ) (x : Block) (y : Set) (v : ℕ) → block_at b n ≡ Some x → Contains x.chain y → y.dst ≡ Some v
      → facts v ≡ set_fact facts y.op y.args
