-- What names mean where they stand (Core Erlang 1.0.3, section 5: inner names hide outer ones).
-- A variable's binding has a number, which no other one has that can be seen from the same place. A function's name
-- means a site and what the function captures.
use Rattle.std.specs.Prelude.{ℕ, zero, suc, List, [], ◌∷◌, ◌++◌, length, Option, Some, None, if◌then◌else◌}
use Rattle.erl_base.specs.Names.{Name, same_name, same_key}
use Rattle.erl_base.specs.declared.ids.Place.{Place}
use Rattle.erl_base.specs.declared.ids.FunKey.{FunKey}
use Rattle.core_form.specs.declared.tree.Binder.{Binder}
use Rattle.core_form.specs.Core.{Expr, fun, Pattern, any, alias, known, list_like, tuple_like, map_like, bits_like, Patterns, no_pattern, and_pattern, KeyPatterns, no_key, and_key, key_pattern, SegPatterns, no_seg, and_seg, seg_pattern}

-- a use of a variable: its name, the number of its binding, and the place of the use
pub record Use : Type 0 where
  pub name : Name
  pub number : ℕ
  pub place : Place

-- a variable with its binding's number; a function with its site and what it captures
pub data Meant : Type 0 where
  variable : Name → ℕ → Meant
  function : FunKey → ℕ → List Use → Meant

-- the innermost first
abbrev pub Scope : Type 0
Scope = List Meant

-- the number of the innermost binding of a name
abbrev pub binding : Scope → Name → Option ℕ
binding [] x = None
binding (variable y n ∷ g) x = if same_name x y then Some n else binding g x
binding (function f s us ∷ g) x = binding g x

-- the site that a function's name means, and what it captures
abbrev pub function_of : Scope → FunKey → Option (ℕ × List Use)
function_of [] f = None
function_of (variable y n ∷ g) f = function_of g f
function_of (function h s us ∷ g) f = if same_key f h then Some (s, us) else function_of g f

-- a new binding's number is the length of the scope
abbrev pub with_names : Scope → List Name → Scope
with_names g [] = g
with_names g (x ∷ xs) = with_names (variable x (length g) ∷ g) xs

-- the numbers of n bindings, from k on
abbrev pub numbers_from : ℕ → ℕ → List ℕ
numbers_from k zero = []
numbers_from k (suc n) = k ∷ numbers_from (suc k) n

-- the names of variables where they are bound
abbrev pub names_of : List Binder → List Name
names_of [] = []
names_of (b ∷ bs) = b.name ∷ names_of bs

-- the numbers of uses
abbrev pub numbers_of : List Use → List ℕ
numbers_of [] = []
numbers_of (u ∷ us) = u.number ∷ numbers_of us

-- The right side of a definition is a fun; another expression would be read as the body of one without parameters.

-- its parameters
abbrev pub params_of : Expr → List Binder
params_of (fun p xs e) = xs
params_of e = []

-- its body
abbrev pub body_of : Expr → Expr
body_of (fun p xs e) = e
body_of e = e

-- The variables that a pattern binds, in the order of the text.
abbrev mutual
  pub bound : Pattern → List Name
  bound (any p x) = x ∷ []
  bound (alias p x q) = x ∷ bound q
  bound (known p t) = []
  bound (list_like p qs q) = bound_all qs ++ bound q
  bound (tuple_like p qs) = bound_all qs
  bound (map_like p ks) = bound_keys ks
  bound (bits_like p ss) = bound_segs ss

  pub bound_all : Patterns → List Name
  bound_all no_pattern = []
  bound_all (and_pattern q qs) = bound q ++ bound_all qs

  pub bound_keys : KeyPatterns → List Name
  bound_keys no_key = []
  bound_keys (and_key (key_pattern e q) ks) = bound q ++ bound_keys ks

  pub bound_segs : SegPatterns → List Name
  bound_segs no_seg = []
  bound_segs (and_seg (seg_pattern p q e u k f) ss) = bound q ++ bound_segs ss
