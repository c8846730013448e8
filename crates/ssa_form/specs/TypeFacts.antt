-- What is known of values: kinds, bounds, sizes and values, and the join of two such facts.
use Rattle.std.specs.Prelude.{◌≡◌, ℕ, ◌/◌, ◌%◌, ◌^◌, List, [], ◌∷◌, Bool, true, false, not, ◌&&◌, eqb, bit_or, IsTrue, Option, Some, None, if◌then◌else◌, ℤ}
use Rattle.std.specs.Ordering.{int_cmp}
use Rattle.std.specs.declared.cmp.Ordering.TheVariants.{Less, Equal, Greater}
use Rattle.erl_term.specs.Term as T
use Rattle.erl_term.specs.Term.{Term}
use Rattle.erl_term.specs.TermOrder.{count, same_term}
use Rattle.ssa_form.specs.Storage.{Held, unset, term, context, position, marker}

-- Kinds of terms, by their places in the order of terms.
abbrev pub kind_of : Term → ℕ
kind_of (T.int z) = 0
kind_of (T.atom a) = 1
kind_of (T.reference n) = 2
kind_of (T.fun m s a ts) = 3
kind_of (T.extern m f a) = 3
kind_of (T.port n) = 4
kind_of (T.pid n) = 5
kind_of (T.tuple ts) = 6
kind_of (T.map ps) = 7
kind_of T.nil = 8
kind_of (T.cons t u) = 9
kind_of (T.bits bs) = 10
kind_of (T.raw_trace c) = 11

-- kinds: a set of kinds, bit k for kind k
pub record Fact : Type 0 where
  pub kinds : ℕ
  pub low : Option ℤ
  pub high : Option ℤ
  pub size : Option ℕ
  pub known : Option Term

-- a term of these kinds, and nothing more
abbrev pub of_kinds : ℕ → Fact
of_kinds ks = record { kinds = ks; low = None; high = None; size = None; known = None }

-- whether a kind is among them
abbrev pub has_kind : ℕ → ℕ → Bool
has_kind k ks = eqb ((ks / 2 ^ k) % 2) 1

-- all twelve kinds, and nothing else
abbrev pub any : Fact
any = of_kinds 4095

-- holds of nothing
abbrev pub no_value : Fact
no_value = of_kinds 0

-- of one kind alone
abbrev pub one_kind : ℕ → Fact
one_kind k = of_kinds (2 ^ k)

-- The bounds of an integer and the size of a tuple.

-- in the order of numbers
abbrev pub at_most : ℤ → ℤ → Bool
at_most a b = elim (int_cmp a b) [ Less ↦ true | Equal ↦ true | Greater ↦ false ]

-- the lower bound, if there is one
abbrev pub above_low : Option ℤ → ℤ → Bool
above_low None z = true
above_low (Some a) z = at_most a z

-- the upper bound, if there is one
abbrev pub below_high : Option ℤ → ℤ → Bool
below_high None z = true
below_high (Some b) z = at_most z b

-- the size, if one is known
abbrev pub is_size : Option ℕ → ℕ → Bool
is_size None n = true
is_size (Some m) n = eqb m n

-- the term, if it is known
unfoldable pub is_known : Option Term → Term → Bool
unfolding same_term
is_known None t = true
is_known (Some u) t = same_term u t

-- bounds and size hold
abbrev pub shape_holds : Fact → Term → Bool
shape_holds f (T.int z) = above_low f.low z && below_high f.high z
shape_holds f (T.tuple ts) = is_size f.size (count ts)
shape_holds f t = true

-- whether a fact holds of a term
unfoldable pub holds : Fact → Term → Bool
unfolding is_known
holds f t = has_kind (kind_of t) f.kinds && shape_holds f t && is_known f.known t

-- of what is no term, the fact alone holds that says nothing
abbrev pub FactHolds : Fact → Held → Type 0
FactHolds f unset = Unit {0}
FactHolds f (term t) = IsTrue (holds f t)
FactHolds f (context n) = f ≡ any
FactHolds f (position n) = f ≡ any
FactHolds f (marker n) = f ≡ any

-- A term's exact fact.

-- an integer's number
abbrev pub number_in : Term → Option ℤ
number_in (T.int z) = Some z
number_in t = None

-- a tuple's size
abbrev pub size_in : Term → Option ℕ
size_in (T.tuple ts) = Some (count ts)
size_in t = None

-- the fact that holds of this term alone
abbrev pub exact : Term → Fact
exact t = record { kinds = 2 ^ kind_of t; low = number_in t; high = number_in t; size = size_in t; known = Some t }

-- A fact says nothing of what its kinds rule out; one without kinds says nothing else; and what is known says the rest.

-- under a condition this is missing
abbrev pub if_none : {A : Type 0} → Bool → Option A → Type 0
if_none true o = Unit {0}
if_none false o = o ≡ None

-- a known term is its exact fact
abbrev pub KnownSaysAll : Fact → Option Term → Type 0
KnownSaysAll f None = Unit {0}
KnownSaysAll f (Some t) = f ≡ exact t

-- each fact has this form alone
pub record IsCanonical (f : Fact) : Type 0 where
  pub low : if_none (has_kind 0 f.kinds) f.low
  pub high : if_none (has_kind 0 f.kinds) f.high
  pub size : if_none (has_kind 6 f.kinds) f.size
  pub known : KnownSaysAll f f.known

-- The join: the least fact in this form that holds wherever one of the two does. A bound counts only where its fact
-- speaks of integers, a size only where it speaks of tuples.

-- the lesser of two bounds
abbrev pub lesser : Option ℤ → Option ℤ → Option ℤ
lesser (Some a) (Some b) = Some (if at_most a b then a else b)
lesser _ _ = None

-- the greater
abbrev pub greater : Option ℤ → Option ℤ → Option ℤ
greater (Some a) (Some b) = Some (if at_most a b then b else a)
greater _ _ = None

-- the size that both have
abbrev pub same_size : Option ℕ → Option ℕ → Option ℕ
same_size (Some m) (Some n) = if eqb m n then Some m else None
same_size _ _ = None

-- the term that both know
unfoldable pub same_known : Option Term → Option Term → Option Term
unfolding same_term
same_known (Some t) (Some u) = if same_term t u then Some t else None
same_known _ _ = None

-- by the first where the second speaks of no such value, and the other way round
abbrev pub joined_part : {A : Type 0} → Bool → Bool → Option A → Option A → Option A → Option A
joined_part true true a b c = c
joined_part true false a b c = a
joined_part false true a b c = b
joined_part false false a b c = None

-- the fact of either
unfoldable pub join : Fact → Fact → Fact
unfolding same_known
join f g = record {
  kinds = bit_or f.kinds g.kinds;
  low = joined_part (has_kind 0 f.kinds) (has_kind 0 g.kinds) f.low g.low (lesser f.low g.low);
  high = joined_part (has_kind 0 f.kinds) (has_kind 0 g.kinds) f.high g.high (greater f.high g.high);
  size = joined_part (has_kind 6 f.kinds) (has_kind 6 g.kinds) f.size g.size (same_size f.size g.size);
  known = joined_part (not (eqb f.kinds 0)) (not (eqb g.kinds 0)) f.known g.known (same_known f.known g.known);
}

-- of one of these
unfoldable pub join_all : List Fact → Fact
unfolding join
join_all [] = no_value
join_all (f ∷ fs) = join f (join_all fs)
