-- Which limits a module passes, nesting aside (this project's own).
use Rattle.std.specs.Prelude.{ℕ, ◌+◌, List, [], ◌∷◌, ◌++◌, length, eqb, ltb, min, Option, Some, None}
use Rattle.erl_base.specs.declared.ids.Place.{Place}
use Rattle.erl_base.specs.declared.refusal.Refusal.{Refusal}
use Rattle.erl_base.specs.declared.refusal.Kind.TheVariants.{Limit}
use Rattle.erl_base.specs.declared.refusal.LimitName.{LimitName}
use Rattle.erl_base.specs.declared.refusal.LimitName.TheVariants.{Integer, Atom, Arity, Nodes, Definitions, Receive}
use Rattle.core_form.specs.declared.module.FunName.{FunName}
use Rattle.core_form.specs.Core.{Module, Expr, fun_name, letrec, apply, call, primop, receive, Defs, no_def, and_def, def}
use Rattle.core_form.specs.Walks.{Asked, all_defs, expr_count}
use Rattle.core_form.specs.Nodes.{nodes, head_nodes}
use Rattle.core_form.specs.Sites.{Site, module_sites, def_count}
use Rattle.first_fault.specs.FirstFault.{fault_if, IsFirst}

-- parameters of a function, with its captures, and arguments of a call
abbrev pub most_arity : ℕ
most_arity = 255

-- nodes of a definition
abbrev pub most_nodes : ℕ
most_nodes = 40000

-- definitions of a module
abbrev pub most_definitions : ℕ
most_definitions = 20000

-- nodes in the patterns and guards of a receive
abbrev pub most_receive_nodes : ℕ
most_receive_nodes = 340

-- the largest count that is told
abbrev pub most_count : ℕ
most_count = 18446744073709551615

-- a count as it is told
abbrev pub capped : ℕ → ℕ
capped n = min n most_count

-- a number that is over its limit
abbrev pub over : LimitName → ℕ → Place → ℕ → List Refusal
over name most p n = fault_if (ltb most n) p (Limit name (capped n))

-- an arity
abbrev pub over_arity : Place → ℕ → List Refusal
over_arity p n = over Arity most_arity p n

-- what the reader of the text counted
abbrev pub counted_in_text : LimitName → Option (Place × ℕ) → List Refusal
counted_in_text name None = []
counted_in_text name (Some x) = record { kind = Limit name x.1; place = x.0 } ∷ []

-- the names of definitions
abbrev pub name_limits : Defs → List Refusal
name_limits no_def = []
name_limits (and_def (def p f e) ds) = over_arity p f.arity ++ name_limits ds

-- the names of exports
abbrev pub export_limits : List FunName → List Refusal
export_limits [] = []
export_limits (f ∷ fs) = over_arity f.place f.key.arity ++ export_limits fs

-- what an expression itself passes
abbrev pub expr_limits : Expr → List Refusal
expr_limits (fun_name p f) = over_arity p f.arity
expr_limits (letrec p ds b) = name_limits ds
expr_limits (apply p e es) = over_arity p (expr_count es)
expr_limits (call p m f es) = over_arity p (expr_count es)
expr_limits (primop p n es) = over_arity p (expr_count es)
expr_limits (receive p cs t b) = over Receive most_receive_nodes p (head_nodes cs)
expr_limits _ = []

-- what each piece is asked for
abbrev pub limits_of : Asked Refusal
limits_of = record {
  at_expr = expr_limits;
  at_pattern = λ r. [];
  at_clause = λ p. [];
  at_segment = λ p s u k f. [];
}

-- parameters and captures of functions, at their funs
abbrev pub site_limits : List Site → List Refusal
site_limits [] = []
site_limits (x ∷ xs) = over_arity x.fun_place (length x.params + length x.captures) ++ site_limits xs

-- nodes of definitions, and the definition that is one too many; k definitions come before, of so many in all
abbrev pub definition_limits : (all : ℕ) → (k : ℕ) → Defs → List Refusal
definition_limits all k no_def = []
definition_limits all k (and_def (def p f e) ds) =
    over Nodes most_nodes p (nodes e)
    ++ fault_if (eqb k most_definitions) p (Limit Definitions all)
    ++ definition_limits all (k + 1) ds

-- all limits that a module passes
abbrev pub limit_faults : Module → List Refusal
limit_faults m =
    counted_in_text Integer m.wide ++ counted_in_text Atom m.long ++ export_limits m.exports ++ name_limits m.defs
    ++ all_defs limits_of m.defs ++ site_limits (module_sites m) ++ definition_limits (def_count m.defs) 0 m.defs

-- the first of them
abbrev pub IsFirstLimitFault : Module → Refusal → Type 0
IsFirstLimitFault m fault = IsFirst (limit_faults m) fault

-- how many variables each function captures
abbrev pub capture_counts : List Site → List ℕ
capture_counts [] = []
capture_counts (x ∷ xs) = length x.captures ∷ capture_counts xs
