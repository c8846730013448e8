-- Receives that can accept no message but one that holds a new reference (this project's own).
use Rattle.std.specs.Prelude.{ℕ, List, [], ◌∷◌, length, Bool, true, false, ◌&&◌, ◌||◌, eqb, Option, Some, None, codes}
use Rattle.erl_base.specs.Lists.{among}
use Rattle.erl_base.specs.Names.{same_name}
use Rattle.erl_term.specs.Term as T
use Rattle.core_form.specs.declared.tree.Binder.{Binder}
use Rattle.core_form.specs.Core.{Expr, var, let_in, case, call, try, receive, Exprs, no_expr, and_expr, Clauses, no_clause, and_clause, clause, any, known, Patterns, no_pattern, and_pattern}
use Rattle.core_form.specs.Scope.{Scope, binding, with_names, names_of, numbers_from, bound_all}
use Rattle.core_form.specs.Walks.{literal_name, calls_erlang, makes_reference, with_let, within}

-- whether a name's binding has this number
abbrev pub number_is : Option ℕ → ℕ → Bool
number_is None n = false
number_is (Some m) n = eqb m n

-- whether a name's binding is one of these
abbrev pub is_among : Option ℕ → List ℕ → Bool
is_among None ns = false
is_among (Some m) ns = among m ns

-- whether an expression is the variable with this number
abbrev pub is_variable : ℕ → Expr → Scope → Bool
is_variable n (var p x) g = number_is (binding g x) n
is_variable n _ g = false

-- whether an expression is one of these variables
abbrev pub is_one_of : List ℕ → Expr → Scope → Bool
is_one_of ns (var p x) g = is_among (binding g x) ns
is_one_of ns _ g = false

-- whether one of them is true
abbrev pub any_of : List Bool → Bool
any_of [] = false
any_of (b ∷ bs) = b || any_of bs

-- R and a variable of the pattern, in either order
abbrev pub compares : ℕ → List ℕ → Exprs → Scope → Bool
compares r bs (and_expr a (and_expr b no_expr)) g =
    is_variable r a g && is_one_of bs b g || is_variable r b g && is_one_of bs a g
compares r bs _ g = false

-- whether a clause's only pattern is the literal 'true'
abbrev pub is_true_pattern : Patterns → Bool
is_true_pattern (and_pattern (known p (T.atom a)) no_pattern) = same_name a (codes "true")
is_true_pattern _ = false

-- whether a clause's body is the variable that is its whole pattern
abbrev pub gives_subject : Patterns → Expr → Bool
gives_subject (and_pattern (any p x) no_pattern) (var q y) = same_name x y
gives_subject _ _ = false

-- whether each clause gives false or its subject
abbrev pub others_false : Clauses → Bool
others_false no_clause = true
others_false (and_clause (clause p qs g e) cs) =
    (same_name (literal_name e) (codes "false") || gives_subject qs e) && others_false cs

-- whether an expression is the one variable that is bound
abbrev pub binds_one : List Binder → Expr → Bool
binds_one (x ∷ []) (var p y) = same_name x.name y
binds_one _ _ = false

-- whether a guard demands R, where its clause's pattern binds the variables bs
module _ (r : ℕ) (bs : List ℕ) where
  abbrev mutual
    pub demands : Expr → Scope → Bool
    demands (call p m f es) g =
        calls_erlang (codes "=:=") 2 (call p m f es) && compares r bs es g
        || calls_erlang (codes "and") 2 (call p m f es) && any_of (demands_each es g)
    demands (case p a cs) g = first_demands cs (demands a g) g
    demands (let_in p xs a b) g = demands b (with_names g (names_of xs))
    demands (try p a xs b ys c) g = demands a g && binds_one xs b && same_name (literal_name c) (codes "false")
    demands _ g = false

    pub demands_each : Exprs → Scope → List Bool
    demands_each no_expr g = []
    demands_each (and_expr e es) g = demands e g ∷ demands_each es g

    -- the first clause is `<'true'> when 'true' -> B`, the others give false; the subject demands R, or B does
    pub first_demands : Clauses → Bool → Scope → Bool
    first_demands no_clause subject g = false
    first_demands (and_clause (clause p qs e b) cs) subject g =
        is_true_pattern qs && same_name (literal_name e) (codes "true") && others_false cs
        && (subject || demands b (with_names g (bound_all qs)))

-- whether the guard of each clause demands R
abbrev pub all_demand : ℕ → Clauses → Scope → Bool
all_demand r no_clause g = true
all_demand r (and_clause (clause p qs e b) cs) g =
    demands r (numbers_from (length g) (length (bound_all qs))) e (with_names g (bound_all qs)) && all_demand r cs g

-- whether there is a clause
abbrev pub some_clause : Clauses → Bool
some_clause no_clause = false
some_clause (and_clause (clause p qs g e) cs) = true

-- the innermost of these variables that every clause demands
abbrev pub first_demanded : List ℕ → Clauses → Scope → Option ℕ
first_demanded [] cs g = None
first_demanded (r ∷ rs) cs g = elim (all_demand r cs g) [ true ↦ Some r | false ↦ first_demanded rs cs g ]

-- the variable that marks a receive with these clauses, where the lets around it that make a reference bind ls
abbrev pub marked_with : Clauses → Scope → List ℕ → Option ℕ
marked_with cs g ls = elim (some_clause cs) [ true ↦ first_demanded ls cs g | false ↦ None ]

-- a number as a list
abbrev pub at_most_one : Option ℕ → List ℕ
at_most_one None = []
at_most_one (Some n) = n ∷ []

-- the variable that marks this receive, if it is one
abbrev pub mark_at : Expr → Scope → List ℕ → List ℕ
mark_at (receive p cs t b) g ls = at_most_one (marked_with cs g ls)
mark_at _ g ls = []

-- whether a let binds a variable that marks some receive
abbrev pub is_marking : Expr → List Binder → Expr → Scope → List ℕ → Bool
is_marking a xs b g ls =
    elim (makes_reference a) [
      | true ↦ among (length g) (within mark_at b (with_names g (names_of xs)) (with_let a xs g ls))
      | false ↦ false
    ]
