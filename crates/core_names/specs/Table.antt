-- What a table of names keeps: the bindings from the outermost on, each with what its name meant before it, and what
-- each name means now (this project's own).
use Rattle.std.specs.Prelude.{◌≡◌, ℕ, List, [], ◌∷◌, length, Option, Some, None, if◌then◌else◌}
use Rattle.erl_base.specs.Names.{Name, same_key}
use Rattle.erl_base.specs.declared.ids.FunKey.{FunKey}
use Rattle.core_form.specs.Scope.{Meant, variable, function, Scope, binding}
use Rattle.core_names.specs.declared.table.Known.{Known}
use Rattle.core_names.specs.declared.table.Binding.{Binding}
use Rattle.core_names.specs.declared.table.Binding.TheVariants.{Variable, Function}

-- the site that a function's name means, and how many bindings stand outside of it
abbrev pub function_known : Scope → FunKey → Option Known
function_known [] f = None
function_known (variable y n ∷ g) f = function_known g f
function_known (function h s us ∷ g) f =
    if same_key f h then Some (record { site = s; position = length g }) else function_known g f

-- a binding of a scope
abbrev pub meant_by : Binding → Meant
meant_by (Variable x n before) = variable x n
meant_by (Function f s before) = function f s []

-- the scope inside these bindings, the outermost of them first
abbrev pub bound_inside : Scope → List Binding → Scope
bound_inside g [] = g
bound_inside g (b ∷ bs) = bound_inside (meant_by b ∷ g) bs

-- a binding knows what its name means outside of it
abbrev pub KnowsOutside : Scope → Binding → Type 0
KnowsOutside g (Variable x n before) = before ≡ binding g x
KnowsOutside g (Function f s before) = before ≡ function_known g f

-- all of them do
abbrev pub AllKnowOutside : Scope → List Binding → Type 0
AllKnowOutside g [] = Unit {0}
AllKnowOutside g (b ∷ bs) = KnowsOutside g b × AllKnowOutside (meant_by b ∷ g) bs

-- look-ups of variables and of functions give what the bindings say
pub record IsTable (numbers : Name → Option ℕ) (sites : FunKey → Option Known) (bs : List Binding) : Type 0 where
  pub variables : (x : Name) → numbers x ≡ binding (bound_inside [] bs) x
  pub functions : (f : FunKey) → sites f ≡ function_known (bound_inside [] bs) f
  pub outside : AllKnowOutside [] bs
