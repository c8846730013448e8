-- Which modules are plain: those without a fault of scope, within the limits, and with atoms that need no quotes.
use Rattle.std.specs.Prelude.{◌≡◌, ℕ, List, [], ◌∷◌, ◌++◌, map, Bool, true, false, ◌&&◌, ◌||◌, not, ◌==◌, nat_le, length, IsTrue}
use Rattle.erl_base.specs.Names.{Name, same_name, is_key, keys_distinct}
use Rattle.erl_base.specs.declared.ids.FunKey.{FunKey}
use Rattle.erl_term.specs.Term.{Term, int, atom}
use Rattle.term_text.specs.Atoms.{is_plain_name}
use Rattle.core_form.specs.declared.tree.Binder.{Binder}
use Rattle.core_form.specs.declared.module.FunName.{FunName}
use Rattle.core_form.specs.Core.{Expr, literal, var, fun, Def, Defs, no_def, and_def, def, Module}
use Rattle.erl_term.specs.Ranges.{is_within_128}
use Rattle.beam_table.specs.OperandBounds.{most_arity}
use Rattle.beam_table.specs.ValidModule.{every}

-- the most characters of an atom
abbrev pub most_characters : ℕ
most_characters = 255

-- the most functions of a module
abbrev pub most_functions : ℕ
most_functions = 20000

-- an atom that is written without quotes and not too long
abbrev pub is_plain_atom : Name → Bool
is_plain_atom name = is_plain_name name && nat_le (length name) most_characters

-- Definitions.

-- the function that a definition defines
abbrev pub key_of : Def → FunKey
key_of (def p f e) = f

-- the functions of definitions, in their order
abbrev pub keys_of : Defs → List FunKey
keys_of no_def = []
keys_of (and_def d ds) = key_of d ∷ keys_of ds

-- each key differs from those before it
abbrev pub are_new : (before : List FunKey) → List FunKey → Bool
are_new before [] = true
are_new before (f ∷ fs) = not (is_key f before) && are_new (before ++ f ∷ []) fs

-- each of them is defined
abbrev pub are_known : (known : List FunKey) → List FunName → Bool
are_known known fs = every (λ f. is_key f known) (map (λ f. f.key) fs)

-- a variable among the binders
abbrev pub is_bound : Name → List Binder → Bool
is_bound x [] = false
is_bound x (y ∷ ys) = same_name x y.name || is_bound x ys

-- no variable is bound twice
abbrev pub are_distinct : List Binder → Bool
are_distinct [] = true
are_distinct (x ∷ xs) = not (is_bound x.name xs) && are_distinct xs

-- an integer within 128 signed bits, or an atom
abbrev pub is_plain_literal : Term → Bool
is_plain_literal (int z) = is_within_128 z
is_plain_literal (atom a) = is_plain_atom a
is_plain_literal _ = false

-- the body of a fun with these parameters
abbrev pub is_plain_body : List Binder → Expr → Bool
is_plain_body xs (var p x) = is_bound x xs
is_plain_body xs (literal p t) = is_plain_literal t
is_plain_body xs _ = false

-- a plain function of this name and arity
abbrev pub is_plain_fun : FunKey → Expr → Bool
is_plain_fun f (fun p xs e) =
    nat_le f.arity most_arity && f.arity == length xs && are_distinct xs && is_plain_atom f.name && is_plain_body xs e
is_plain_fun f _ = false

-- the definition of a plain function
abbrev pub is_plain_def : Def → Bool
is_plain_def (def p f e) = is_plain_fun f e

-- all definitions are of plain functions
abbrev pub are_plain : Defs → Bool
are_plain no_def = true
are_plain (and_def d ds) = is_plain_def d && are_plain ds

-- a module that is compiled today
pub record IsPlain (m : Module) : Type 0 where
  pub name : IsTrue (is_plain_atom m.name)
  pub few_functions : IsTrue (nat_le (length (keys_of m.defs)) most_functions)
  pub functions : IsTrue (are_plain m.defs)
  pub distinct_functions : IsTrue (keys_distinct (keys_of m.defs))
  pub known_exports : IsTrue (are_known (keys_of m.defs) m.exports)
  pub no_attributes : m.attributes ≡ []
