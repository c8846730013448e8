-- Which of the faults of a text is told: the one whose place comes first, and of several at one place the one whose row
-- comes first in its table (this project's own).
use Rattle.std.specs.Prelude.{◌≡◌, ℕ, List, [], ◌∷◌, Bool, true, false, ◌&&◌, ◌||◌, eqb, ltb, Option, Some, None, if◌then◌else◌, MatchOption}
use Rattle.std.specs.List.{Contains, All}
use Rattle.erl_base.specs.declared.ids.Place.{Place}
use Rattle.erl_base.specs.declared.refusal.Refusal.{Refusal}
use Rattle.erl_base.specs.declared.refusal.Kind.{Kind}
use Rattle.erl_base.specs.declared.refusal.Kind.TheVariants.{TooLarge, NotUtf8, Syntax, Scope, Profile, Limit, AsmSyntax, Script}
use Rattle.erl_base.specs.declared.refusal.ScopeFault.{ScopeFault}
use Rattle.erl_base.specs.declared.refusal.ScopeFault.TheVariants.{UnboundVariable, UnboundFunction, DoubledVariable, DoubledFunction, MissingExport, WrongArity, WrongDegree, ClauseWidth, GuardForm}
use Rattle.erl_base.specs.declared.refusal.Outside.{Outside}
use Rattle.erl_base.specs.declared.refusal.Outside.TheVariants.{Float, Primop, FloatFunction, SegmentType, Native, SegmentForm, NotBuilt}
use Rattle.erl_base.specs.declared.refusal.LimitName.{LimitName}
use Rattle.erl_base.specs.declared.refusal.LimitName.TheVariants.{Integer, Atom, Arity, Nodes, Definitions, Receive, Nesting}

-- the table of faults of scope
abbrev pub scope_row : ScopeFault → ℕ
scope_row UnboundVariable = 0
scope_row UnboundFunction = 1
scope_row DoubledVariable = 2
scope_row DoubledFunction = 3
scope_row MissingExport = 4
scope_row WrongArity = 5
scope_row WrongDegree = 6
scope_row ClauseWidth = 7
scope_row GuardForm = 8

-- the table of forms that are not compiled
abbrev pub outside_row : Outside → ℕ
outside_row Float = 0
outside_row Primop = 1
outside_row FloatFunction = 2
outside_row SegmentType = 3
outside_row Native = 4
outside_row SegmentForm = 5
outside_row NotBuilt = 6

-- the table of limits
abbrev pub limit_row : LimitName → ℕ
limit_row Integer = 0
limit_row Atom = 1
limit_row Arity = 2
limit_row Nodes = 3
limit_row Definitions = 4
limit_row Receive = 5
limit_row Nesting = 6

-- what orders kinds: the table, the row, and the count where there is one
abbrev pub kind_rank : Kind → List ℕ
kind_rank TooLarge = 0 ∷ 0 ∷ 0 ∷ []
kind_rank NotUtf8 = 1 ∷ 0 ∷ 0 ∷ []
kind_rank Syntax = 2 ∷ 0 ∷ 0 ∷ []
kind_rank (Scope fault) = 3 ∷ scope_row fault ∷ 0 ∷ []
kind_rank (Profile outside) = 4 ∷ outside_row outside ∷ 0 ∷ []
kind_rank (Limit name count) = 5 ∷ limit_row name ∷ count ∷ []
kind_rank AsmSyntax = 6 ∷ 0 ∷ 0 ∷ []
kind_rank Script = 7 ∷ 0 ∷ 0 ∷ []

-- what orders faults: the place before the kind
abbrev pub rank : Refusal → List ℕ
rank fault = fault.place.line ∷ fault.place.column ∷ kind_rank fault.kind

-- whether the first numbers that differ rise
abbrev pub is_below : List ℕ → List ℕ → Bool
is_below [] ns = false
is_below (m ∷ ms) [] = false
is_below (m ∷ ms) (n ∷ ns) = ltb m n || eqb m n && is_below ms ns

-- whether a fault comes before another
abbrev pub comes_before : Refusal → Refusal → Bool
comes_before fault other = is_below (rank fault) (rank other)

-- the first of several faults: one of them, and none of them comes before it
pub record IsFirst (faults : List Refusal) (first : Refusal) : Type 0 where
  pub stands : Contains faults first
  pub least : All (λ other. comes_before other first ≡ false) faults

-- a list of faults has at most one first
abbrev pub FirstIsUnique : Type 0
FirstIsUnique = (faults : List Refusal) (first other : Refusal) → IsFirst faults first → IsFirst faults other
    → first ≡ other

-- Finding it.

-- a fault, if it holds
abbrev pub fault_if : Bool → Place → Kind → List Refusal
fault_if false place kind = []
fault_if true place kind = record { kind = kind; place = place } ∷ []

-- the first of what was seen before and one more
abbrev pub earlier : Option Refusal → Refusal → Refusal
earlier None fault = fault
earlier (Some first) fault = if comes_before fault first then fault else first

-- the first of what was seen before and these, in the order in which they are met
abbrev pub first_with : Option Refusal → List Refusal → Option Refusal
first_with first [] = first
first_with first (fault ∷ faults) = first_with (Some (earlier first fault)) faults

-- who keeps the earlier one from none on has the first of all at the end
abbrev pub FirstIsFound : Type 0
FirstIsFound = (faults : List Refusal) → MatchOption (first_with None faults) (faults ≡ []) (IsFirst faults)
