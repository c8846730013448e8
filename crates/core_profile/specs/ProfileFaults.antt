-- What a module has that is not compiled (this project's own): floats, other primitive operations, and segments of bit
-- strings that are not of whole numbers or bits.
use Rattle.std.specs.Prelude.{ℕ, List, [], ◌++◌, Bool, true, false, not, ◌&&◌, ◌||◌, eqb, leb, Option, Some, None, pos, codes}
use Rattle.erl_base.specs.Names.{Name, same_name}
use Rattle.erl_base.specs.declared.ids.Place.{Place}
use Rattle.erl_base.specs.declared.refusal.Refusal.{Refusal}
use Rattle.erl_base.specs.declared.refusal.Kind.TheVariants.{Profile}
use Rattle.erl_base.specs.declared.refusal.Outside.{Outside}
use Rattle.erl_base.specs.declared.refusal.Outside.TheVariants.{Float, Primop, FloatFunction, SegmentType, Native, SegmentForm}
use Rattle.erl_term.specs.Term as T
use Rattle.erl_term.specs.Term.{Term}
use Rattle.core_form.specs.Core.{Module, Expr, call, primop}
use Rattle.core_form.specs.SourceTree.{is_flag}
use Rattle.core_form.specs.Walks.{Asked, all_defs, literal_name, expr_count}
use Rattle.core_scope.specs.ScopeFaults.{is_float_function}
use Rattle.first_fault.specs.FirstFault.{fault_if, IsFirst}

-- a form outside of what is compiled, if it holds
abbrev pub outside : Bool → Place → Outside → List Refusal
outside holds p form = fault_if holds p (Profile form)

-- the first float of the text
abbrev pub float_fault : Option Place → List Refusal
float_fault None = []
float_fault (Some p) = outside true p Float

-- the primops, each with its number of arguments
abbrev pub is_primop : Name → ℕ → Bool
is_primop n k =
    same_name n (codes "match_fail") && eqb k 1 || same_name n (codes "raise") && eqb k 2
    || same_name n (codes "build_stacktrace") && eqb k 1

-- what an expression itself has
abbrev pub expr_outside : Expr → List Refusal
expr_outside (primop p n es) = outside (not (is_primop n (expr_count es))) p Primop
expr_outside (call p m f es) =
    outside (same_name (literal_name m) (codes "erlang") && is_float_function (literal_name f) (expr_count es))
    p FloatFunction
expr_outside _ = []

-- Segments.

-- the flag of the machine's own order of bytes
abbrev pub is_native : Term → Bool
is_native (T.atom a) = same_name a (codes "native")
is_native _ = false

-- one of the five flags
abbrev pub is_segment_flag : Term → Bool
is_segment_flag t = is_flag t || is_native t

-- a proper list of flags
abbrev pub is_flag_list : Term → Bool
is_flag_list T.nil = true
is_flag_list (T.cons x y) = is_segment_flag x && is_flag_list y
is_flag_list _ = false

-- a list that ends with nil
abbrev pub is_proper_list : Term → Bool
is_proper_list T.nil = true
is_proper_list (T.cons x y) = is_proper_list y
is_proper_list _ = false

-- `native` among the items of a list
abbrev pub has_native : Term → Bool
has_native (T.cons x y) = is_native x || has_native y
has_native _ = false

-- a unit is from 1 to 256 bits
abbrev pub is_unit : Term → Bool
is_unit (T.int (pos n)) = leb 1 n && leb n 256
is_unit _ = false

-- the type of whole numbers
abbrev pub is_integer_type : Name → Bool
is_integer_type kind = same_name kind (codes "integer")

-- the type of bits
abbrev pub is_binary_type : Name → Bool
is_binary_type kind = same_name kind (codes "binary")

-- whether size, unit, type and flags go together; the size 'all' is for binaries alone
abbrev pub is_segment_form : Expr → Term → Name → Term → Bool
is_segment_form size unit kind flags =
    is_unit unit && is_flag_list flags && not (is_integer_type kind && same_name (literal_name size) (codes "all"))

-- a type that is not compiled
abbrev pub type_outside : Place → Name → List Refusal
type_outside p kind = outside (not (is_integer_type kind || is_binary_type kind)) p SegmentType

-- the flag `native`, whatever else is among the flags
abbrev pub native_outside : Place → Term → List Refusal
native_outside p flags = outside (is_proper_list flags && has_native flags) p Native

-- what a segment has, in expressions and in patterns
abbrev pub segment_outside : Place → Expr → Term → Name → Term → List Refusal
segment_outside p size unit kind flags =
    type_outside p kind ++ native_outside p flags
    ++ outside (not (is_segment_form size unit kind flags)) p SegmentForm

-- what each piece is asked for
abbrev pub outside_of : Asked Refusal
outside_of = record {
  at_expr = expr_outside;
  at_pattern = λ r. [];
  at_clause = λ p. [];
  at_segment = segment_outside;
}

-- all that a module has outside of what is compiled
abbrev pub profile_faults : Module → List Refusal
profile_faults m = float_fault m.floats ++ all_defs outside_of m.defs

-- the first of it
abbrev pub IsFirstProfileFault : Module → Refusal → Type 0
IsFirstProfileFault m fault = IsFirst (profile_faults m) fault
