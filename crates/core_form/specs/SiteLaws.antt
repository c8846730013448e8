-- What laws of sites speak of.
use Rattle.std.specs.Prelude.{◌≡◌, ◌+◌, ℕ, List, [], ◌∷◌, map, length, Option, Some, take}
use Rattle.erl_base.specs.declared.ids.FunKey.{FunKey}
use Rattle.core_form.specs.Core.{Module, Expr, Defs, no_def, and_def, def}
use Rattle.core_form.specs.Scope.{Scope, body_of}
use Rattle.core_form.specs.Captures.{sites_in}
use Rattle.core_form.specs.Sites.{sites, module_sites, def_count}

-- as many sites stand in an expression as are counted, whatever names mean there
abbrev pub SitesAreCounted : Type 0
SitesAreCounted = (e : Expr) (g : Scope) (k : ℕ) → length (sites e g k) ≡ sites_in e

-- how many sites stand inside the functions of a module's definitions, the functions themselves not counted
abbrev pub inner_count : Defs → ℕ
inner_count no_def = 0
inner_count (and_def (def p f e) ds) = sites_in (body_of e) + inner_count ds

-- the function that each definition defines
abbrev pub keys_of : Defs → List (Option FunKey)
keys_of no_def = []
keys_of (and_def (def p f e) ds) = Some f ∷ keys_of ds

-- a module's first sites are its definitions in their order, and its other functions follow
abbrev pub DefinitionsComeFirst : Type 0
DefinitionsComeFirst =
    (m : Module)
    → (length (module_sites m) ≡ def_count m.defs + inner_count m.defs)
    × (take (def_count m.defs) (map (λ x. x.key) (module_sites m)) ≡ keys_of m.defs)
