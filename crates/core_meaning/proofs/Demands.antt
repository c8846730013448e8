-- Which guards demand a reference: examples, computed. R is binding 0, made by a let; the clause's pattern binds M.
use Rattle.std.proofs.Common.{◌≡◌, ℕ, [], ◌∷◌, Option, Some, None, codes, refl}
use Rattle.core_form.specs.Core as C
use Rattle.core_form.specs.Core.{Expr, Clause}
use Rattle.core_form.specs.Scope.{Scope, variable}
use Rattle.core_form.specs.View.{clauses}
use Rattle.core_meaning.specs.MarkedReceive.{marked_with}
use Rattle.core_meaning.proofs.Build.{p0, binders, atom, a, i, v, values, let_in, case, erlang, same, any, known, yes, clause}

abbrev scope : Scope
scope = variable (codes "R") 0 ∷ []

abbrev marks : Expr → Option ℕ
marks guard = marked_with (clauses (clause (any (codes "M") ∷ []) guard (i 1) ∷ [])) scope (0 ∷ [])

abbrev m_is_r : Expr
m_is_r = same (v (codes "M")) (v (codes "R"))

compared : marks m_is_r ≡ Some 0
compared = refl

compared_the_other_way : marks (same (v (codes "R")) (v (codes "M"))) ≡ Some 0
compared_the_other_way = refl

compared_with_itself : marks (same (v (codes "R")) (v (codes "R"))) ≡ None
compared_with_itself = refl

loosely_compared : marks (erlang (codes "==") (v (codes "M") ∷ v (codes "R") ∷ [])) ≡ None
loosely_compared = refl

in_a_conjunction : marks (erlang (codes "and") (yes ∷ m_is_r ∷ [])) ≡ Some 0
in_a_conjunction = refl

in_a_disjunction : marks (erlang (codes "or") (m_is_r ∷ m_is_r ∷ [])) ≡ None
in_a_disjunction = refl

abbrev other : Expr → Clause
other body = clause (any (codes "X") ∷ []) yes body

abbrev if_true : Expr → Clause
if_true body = clause (known (atom (codes "true")) ∷ []) yes body

as_a_subject : marks (case m_is_r (if_true yes ∷ other (v (codes "X")) ∷ [])) ≡ Some 0
as_a_subject = refl

as_a_first_body : marks (case yes (if_true m_is_r ∷ other (a (codes "false")) ∷ [])) ≡ Some 0
as_a_first_body = refl

another_clause_is_true : marks (case m_is_r (if_true yes ∷ other yes ∷ [])) ≡ None
another_clause_is_true = refl

first_clause_has_a_guard : marks
    (case m_is_r (clause (known (atom (codes "true")) ∷ []) m_is_r yes ∷ other (a (codes "false")) ∷ [])) ≡ None
first_clause_has_a_guard = refl

as_the_only_value : marks (case (values (m_is_r ∷ [])) (if_true yes ∷ other (a (codes "false")) ∷ [])) ≡ None
as_the_only_value = refl

in_the_body_of_a_let : marks (let_in (codes "X" ∷ []) (i 1) m_is_r) ≡ Some 0
in_the_body_of_a_let = refl

hidden_by_a_let : marks (let_in (codes "R" ∷ []) (i 1) m_is_r) ≡ None
hidden_by_a_let = refl

abbrev tried : Expr → Expr → Expr
tried body handler = C.try p0 m_is_r (binders (codes "X" ∷ [])) body (binders (codes "C" ∷ codes "E" ∷ [])) handler

tried_and_given : marks (tried (v (codes "X")) (a (codes "false"))) ≡ Some 0
tried_and_given = refl

true_where_it_raises : marks (tried (v (codes "X")) yes) ≡ None
true_where_it_raises = refl

-- of two references the inner let's is taken, where each clause demands both
innermost_let :
    marked_with (clauses (clause (any (codes "M") ∷ [])
    (erlang (codes "and") (same (v (codes "M")) (v (codes "S")) ∷ m_is_r ∷ [])) (i 1) ∷ []))
    (variable (codes "S") 1 ∷ scope) (1 ∷ 0 ∷ []) ≡ Some 1
innermost_let = refl

-- each clause has to demand it, and one clause there has to be
one_clause_does_not : marked_with
    (clauses (clause (any (codes "M") ∷ []) m_is_r (i 1) ∷ clause (any (codes "M") ∷ []) yes (i 1) ∷ [])) scope (0 ∷ [])
    ≡ None
one_clause_does_not = refl

without_clauses : marked_with (clauses []) scope (0 ∷ []) ≡ None
without_clauses = refl
