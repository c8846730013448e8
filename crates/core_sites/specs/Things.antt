-- What a text uses when each function around it stands for itself, and what is put in its stead (this project's own).
use Rattle.std.specs.Prelude.{ℕ, ◌≡◌, List, [], ◌∷◌, ◌++◌, length, ltb, eqb, Option, Some, None, if◌then◌else◌}
use Rattle.erl_base.specs.Names.{Name}
use Rattle.erl_base.specs.declared.ids.Place.{Place}
use Rattle.core_form.specs.Core.{Expr, Defs}
use Rattle.core_form.specs.Scope.{Use, Scope, variable, function}
use Rattle.core_form.specs.Captures.{occurring, occurring_defs, with_defs, once_below, placed, captures_of, group_captures}

-- a use with its parts
abbrev pub use_at : Name → ℕ → Place → Use
use_at x n p = record { name = x; number = n; place = p }

-- each function captures itself alone: a use whose number is how many bindings stand behind it
abbrev pub unexpanded : Scope → Scope
unexpanded [] = []
unexpanded (variable x n ∷ g) = variable x n ∷ unexpanded g
unexpanded (function f s us ∷ g) =
    function f s (use_at [] (length g) (record { line = 0; column = 0 }) ∷ []) ∷ unexpanded g

-- a use, or what stands for it at its place
abbrev pub instead : Option (List Use) → Use → List Use
instead None u = u ∷ []
instead (Some us) u = placed u.place us

-- uses, and for some numbers other uses in their stead
abbrev pub expanded : (ℕ → Option (List Use)) → List Use → List Use
expanded r [] = []
expanded r (u ∷ us) = instead (r u.number) u ++ expanded r us

-- what the function captures that has so many bindings behind it
abbrev pub captures_at : Scope → ℕ → Option (List Use)
captures_at [] n = None
captures_at (variable x m ∷ g) n = captures_at g n
captures_at (function f s us ∷ g) n = if eqb n (length g) then Some us else captures_at g n

-- the uses whose numbers are below l
abbrev pub below : ℕ → List Use → List Use
below l [] = []
below l (u ∷ us) = if ltb u.number l then u ∷ below l us else below l us

-- a variable's number is how many bindings stand behind it, and a function captures only what stands behind it
abbrev pub IsNumbered : Scope → Type 0
IsNumbered [] = Unit {0}
IsNumbered (variable x n ∷ g) = (n ≡ length g) × IsNumbered g
IsNumbered (function f s us ∷ g) = (below (length g) us ≡ us) × IsNumbered g

-- what an expression uses of the scope around it, each function and variable once, where it is used first
abbrev pub things : Expr → Scope → List Use
things e g = once_below (length g) [] (occurring e (unexpanded g))

-- what the definitions of a group use of the scope around the group
abbrev pub group_things : Defs → Scope → List Use
group_things ds g = once_below (length g) [] (occurring_defs ds (unexpanded (with_defs ds 0 [] g)))

-- captures are what is used, with each function's own captures in its stead
abbrev pub CapturesAreExpanded : Type 0
CapturesAreExpanded =
    (e : Expr) (g : Scope) → IsNumbered g
    → captures_of e g ≡ once_below (length g) [] (expanded (captures_at g) (things e g))

-- so are those of a group
abbrev pub GroupCapturesAreExpanded : Type 0
GroupCapturesAreExpanded =
    (ds : Defs) (g : Scope) → IsNumbered g
    → group_captures ds g ≡ once_below (length g) [] (expanded (captures_at g) (group_things ds g))
