-- Faults that come before others: computed.
use Rattle.std.proofs.Common.{◌≡◌, ℕ, [], ◌∷◌, true, false, Some, None, refl}
use Rattle.erl_base.specs.declared.refusal.Refusal.{Refusal}
use Rattle.erl_base.specs.declared.refusal.Kind.{Kind}
use Rattle.erl_base.specs.declared.refusal.Kind.TheVariants.{Scope, Profile, Limit}
use Rattle.erl_base.specs.declared.refusal.ScopeFault.TheVariants.{UnboundVariable, DoubledVariable, WrongDegree, GuardForm}
use Rattle.erl_base.specs.declared.refusal.Outside.TheVariants.{SegmentType, Native, SegmentForm}
use Rattle.erl_base.specs.declared.refusal.LimitName.TheVariants.{Arity, Nodes, Definitions}
use Rattle.first_fault.specs.FirstFault.{comes_before, first_with}

abbrev at : ℕ → ℕ → Kind → Refusal
at line column kind = record { kind = kind; place = record { line = line; column = column } }

-- a line before a column, a place before a row
earlier_line : comes_before (at 2 9 (Scope GuardForm)) (at 3 1 (Scope UnboundVariable)) ≡ true
earlier_line = refl

later_line : comes_before (at 3 1 (Scope UnboundVariable)) (at 2 9 (Scope GuardForm)) ≡ false
later_line = refl

earlier_column : comes_before (at 2 8 (Scope GuardForm)) (at 2 9 (Scope UnboundVariable)) ≡ true
earlier_column = refl

-- rows of one place
earlier_row : comes_before (at 1 1 (Scope DoubledVariable)) (at 1 1 (Scope WrongDegree)) ≡ true
earlier_row = refl

type_before_native : comes_before (at 1 1 (Profile SegmentType)) (at 1 1 (Profile Native)) ≡ true
type_before_native = refl

form_behind_native : comes_before (at 1 1 (Profile SegmentForm)) (at 1 1 (Profile Native)) ≡ false
form_behind_native = refl

nodes_before_definitions : comes_before (at 1 1 (Limit Nodes 40001)) (at 1 1 (Limit Definitions 20001)) ≡ true
nodes_before_definitions = refl

-- a fault does not come before itself
not_itself : comes_before (at 1 1 (Limit Arity 256)) (at 1 1 (Limit Arity 256)) ≡ false
not_itself = refl

-- in whatever order they are met
met_late : first_with None (at 3 5 (Scope GuardForm) ∷ at 2 9 (Scope WrongDegree) ∷ at 2 9 (Scope UnboundVariable) ∷ [])
    ≡ Some (at 2 9 (Scope UnboundVariable))
met_late = refl

met_early : first_with None
    (at 2 9 (Scope UnboundVariable) ∷ at 3 5 (Scope GuardForm) ∷ at 2 9 (Scope WrongDegree) ∷ [])
    ≡ Some (at 2 9 (Scope UnboundVariable))
met_early = refl
