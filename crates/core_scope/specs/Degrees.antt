-- How many values an expression has, and where another number of values stands than the one that is wanted (Core Erlang
-- 1.0.3, value lists). None is every number: what never returns has it.
use Rattle.std.specs.Prelude.{◌≡◌, ℕ, List, [], ◌++◌, Bool, true, false, not, ◌||◌, eqb, Option, Some, None, codes}
use Rattle.erl_base.specs.Names.{Name, same_name}
use Rattle.erl_base.specs.declared.ids.Place.{Place}
use Rattle.erl_base.specs.declared.refusal.Refusal.{Refusal}
use Rattle.erl_base.specs.declared.refusal.Kind.TheVariants.{Scope}
use Rattle.erl_base.specs.declared.refusal.ScopeFault.{ScopeFault}
use Rattle.erl_base.specs.declared.refusal.ScopeFault.TheVariants.{WrongDegree}
use Rattle.bif_table.specs.Builtins.{never_returns}
use Rattle.core_form.specs.Core.{Expr, values, var, fun_name, literal, list, tuple, new_map, map_of, binary, fun, let_in, letrec, case, apply, call, primop, do_then, catch, try, receive, Clauses, no_clause, and_clause, clause}
use Rattle.core_form.specs.Walks.{literal_name, expr_count}
use Rattle.first_fault.specs.FirstFault.{fault_if}

-- a fault of scope, if it holds
abbrev pub scope_fault : Bool → Place → ScopeFault → List Refusal
scope_fault holds p fault = fault_if holds p (Scope fault)

-- the first of two degrees that is fixed
abbrev pub first_fixed : Option ℕ → Option ℕ → Option ℕ
first_fixed None d = d
first_fixed (Some n) d = Some n

-- the degree of what has one value, if it returns
abbrev pub one_unless : Bool → Option ℕ
one_unless true = None
one_unless false = Some 1

-- the primops that never return
abbrev pub is_raising_primop : Name → Bool
is_raising_primop n = same_name n (codes "match_fail") || same_name n (codes "raise")

-- The number of values of an expression: that of the last part, or of the first body that has a fixed one.
abbrev mutual
  pub degree : Expr → Option ℕ
  degree (values p es) = Some (expr_count es)
  degree (let_in p xs a b) = degree b
  degree (letrec p ds b) = degree b
  degree (do_then p a b) = degree b
  degree (case p e cs) = clauses_degree cs
  degree (receive p cs t b) = first_fixed (clauses_degree cs) (degree b)
  degree (try p a xs b ys c) = first_fixed (degree b) (degree c)
  degree (primop p n es) = one_unless (is_raising_primop n)
  degree (call p m f es) = one_unless (never_returns (literal_name m) (literal_name f) (expr_count es))
  degree _ = Some 1

  pub clauses_degree : Clauses → Option ℕ
  clauses_degree no_clause = None
  clauses_degree (and_clause (clause p qs g e) cs) = first_fixed (degree e) (clauses_degree cs)

-- whether two degrees can be one
abbrev pub agrees_with : Option ℕ → Option ℕ → Bool
agrees_with (Some m) (Some n) = eqb m n
agrees_with _ _ = true

-- the fault of an expression with this degree that is no body of another one
abbrev pub leaf_needs : Option ℕ → Place → Option ℕ → List Refusal
leaf_needs wanted p d = scope_fault (not (agrees_with d wanted)) p WrongDegree

-- The places of expressions that have another degree than the wanted one. Where none is wanted all bodies have to agree
-- with the first that is fixed.
abbrev mutual
  pub needs : Option ℕ → Expr → List Refusal
  needs n (let_in p xs a b) = needs n b
  needs n (letrec p ds b) = needs n b
  needs n (do_then p a b) = needs n b
  needs n (case p e cs) = clauses_need (first_fixed n (degree (case p e cs))) cs
  needs n (receive p cs t b) =
      let k = first_fixed n (degree (receive p cs t b)) in
      clauses_need k cs ++ needs k b
  needs n (try p a xs b ys c) =
      let k = first_fixed n (degree (try p a xs b ys c)) in
      needs k b ++ needs k c
  needs n (values p es) = leaf_needs n p (degree (values p es))
  needs n (call p m f es) = leaf_needs n p (degree (call p m f es))
  needs n (primop p f es) = leaf_needs n p (degree (primop p f es))
  needs n (var p x) = leaf_needs n p (Some 1)
  needs n (fun_name p f) = leaf_needs n p (Some 1)
  needs n (literal p t) = leaf_needs n p (Some 1)
  needs n (list p es e) = leaf_needs n p (Some 1)
  needs n (tuple p es) = leaf_needs n p (Some 1)
  needs n (new_map p ps) = leaf_needs n p (Some 1)
  needs n (map_of p ps e) = leaf_needs n p (Some 1)
  needs n (binary p ss) = leaf_needs n p (Some 1)
  needs n (fun p xs e) = leaf_needs n p (Some 1)
  needs n (apply p e es) = leaf_needs n p (Some 1)
  needs n (catch p e) = leaf_needs n p (Some 1)

  pub clauses_need : Option ℕ → Clauses → List Refusal
  clauses_need n no_clause = []
  clauses_need n (and_clause (clause p qs g e) cs) = needs n e ++ clauses_need n cs

-- where one value is wanted
abbrev pub needs_one : Expr → List Refusal
needs_one e = needs (Some 1) e

-- an element of a list, a tuple, a map, a binary or arguments is no value list, whatever its length
abbrev pub element_needs : Expr → List Refusal
element_needs (values p es) = scope_fault true p WrongDegree
element_needs e = needs_one e

-- an operator that is a function's name is no value
abbrev pub operator_needs : Expr → List Refusal
operator_needs (fun_name p f) = []
operator_needs e = needs_one e

-- Laws.

-- where no degree is wanted, it is the same as if its own were
abbrev pub ItsOwnDegree : Type 0
ItsOwnDegree = (e : Expr) → needs None e ≡ needs (degree e) e

-- what has no fixed degree has no wrong one in it
abbrev pub EveryDegree : Type 0
EveryDegree = (e : Expr) (wanted : Option ℕ) → degree e ≡ None → needs wanted e ≡ []
