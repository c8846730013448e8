-- How a clause is chosen (Core Erlang 1.0.3, section 5: case, guards): the first whose patterns match and whose guard
-- gives the atom true.
use Rattle.std.specs.Prelude.{ℕ, suc, ◌+◌, List, [], ◌∷◌, Bool, true, false, Option, Some, None, if◌then◌else◌, codes}
use Rattle.erl_base.specs.Names.{same_name}
use Rattle.erl_term.specs.Term as T
use Rattle.erl_term.specs.Term.{Term}
use Rattle.erl_term.specs.Terms.{Values, terms, tagged}
use Rattle.world_model.specs.Run.{State, sub_binaries, Outcome, gives, M, fail}
use Rattle.world_model.specs.Receive.{Tried, cutting}
use Rattle.core_form.specs.Core.{Expr, var, Exprs, no_expr, and_expr}
use Rattle.core_form.specs.Scope.{Scope, binding}
use Rattle.core_meaning.specs.MarkedReceive.{is_among}
use Rattle.core_meaning.specs.PassedOnTail.{elements}
use Rattle.core_meaning.specs.Calls.{Invocation}
use Rattle.core_meaning.specs.EvaluationContext.{EvaluationContext}

-- a guard runs on a state of its own, since it asks the world for nothing
abbrev pub blank : State
blank = record { replies = []; mailbox = []; next = 0; left = 0; notes = [] }

-- whether a guard gave the atom true
abbrev pub is_true : Outcome Values → Bool
is_true (gives (T.atom a ∷ [])) = same_name a (codes "true")
is_true _ = false

-- no clause is left
abbrev pub none_tried : {A : Type 0} → Tried A
none_tried = record { cuts = 0; body = None }

-- n sub-binaries more
abbrev pub and_cuts : {A : Type 0} → ℕ → Tried A → Tried A
and_cuts n t = record { cuts = n + t.cuts; body = t.body }

-- a body, or further clauses
abbrev pub taken_if : {A : Type 0} → Bool → M A → Tried A → Tried A
taken_if true body rest = record { cuts = 0; body = Some body }
taken_if false body rest = rest

-- a guard with this result, before a body and further clauses
abbrev pub guarded : {A : Type 0} → State × Outcome Values → M A → Tried A → Tried A
guarded r body rest = and_cuts (sub_binaries r.0.notes) (taken_if (is_true r.1) body rest)

-- A case without a clause.

-- the reason that it raises: one value, or a tuple of all
abbrev pub clause_reason : Values → Term
clause_reason (t ∷ []) = tagged (codes "case_clause") t
clause_reason vs = tagged (codes "case_clause") (T.tuple (terms vs))

-- how many elements of a subject are bindings of a list
abbrev pub count_among : Exprs → Scope → List ℕ → ℕ
count_among no_expr g ns = 0
count_among (and_expr (var p x) es) g ns =
    if is_among (binding g x) ns then suc (count_among es g ns) else count_among es g ns
count_among (and_expr e es) g ns = count_among es g ns

-- a failing case makes the bits of those parameters that came as a rest, since its reason holds them
abbrev pub case_end : Invocation → Expr → EvaluationContext → Values → Option (M Values) → M Values
case_end here e c vs None = cutting (count_among (elements e) c.scope here.apart) (fail T.error (clause_reason vs))
case_end here e c vs (Some m) = m

-- what comes of trying the clauses of a case
abbrev pub case_tried : Invocation → Expr → EvaluationContext → Values → Tried Values → M Values
case_tried here e c vs t = cutting t.cuts (case_end here e c vs t.body)
