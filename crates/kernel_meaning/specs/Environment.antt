-- What the variables of a running function hold, and what is set for a whole module (this project's own).
use Rattle.std.specs.Prelude.{ℕ, List, [], ◌∷◌, Bool, false, ◌||◌, eqb, slice_get, Option, Some, None, if◌then◌else◌}
use Rattle.erl_term.specs.Term as T
use Rattle.erl_term.specs.Term.{Term}
use Rattle.erl_term.specs.Terms.{Values}
use Rattle.world_model.specs.MapUpdate.{Put}
use Rattle.core_meaning.specs.Evaluation as Core
use Rattle.pass_contract.specs.InModule.{Mark}
use Rattle.kernel_form.specs.Kernel.{Value, var, lit, MapPair, Part}

-- the term that each variable holds
abbrev pub Env : Type 0
Env = ℕ → Term

-- before anything is bound
abbrev pub no_values : Env
no_values x = T.nil

-- one variable more
abbrev pub with_value : Env → ℕ → Term → Env
with_value env x t = λ y. if eqb y x then t else env y

-- several variables, from left to right
abbrev pub with_values : Env → List ℕ → Values → Env
with_values env [] vs = env
with_values env (x ∷ xs) [] = env
with_values env (x ∷ xs) (v ∷ vs) = with_values (with_value env x v) xs vs

-- A context is known by the bits that are left in it, a position by the bits from there on. Both live in one tree of a
-- match or receive: guards and bodies see neither.
abbrev pub Rests : Type 0
Rests = ℕ → List Bool

-- before a context is made
abbrev pub no_rests : Rests
no_rests c = []

-- these bits are left in c
abbrev pub with_rest : Rests → ℕ → List Bool → Rests
with_rest r c bs = λ d. if eqb d c then bs else r d

-- the term of a value
abbrev pub read : Env → Value → Term
read env (var x) = env x
read env (lit t) = t

-- the terms of values
abbrev pub read_all : Env → List Value → Values
read_all env [] = []
read_all env (v ∷ vs) = read env v ∷ read_all env vs

-- the pairs that are put into a map
abbrev pub read_pairs : Env → List MapPair → List Put
read_pairs env [] = []
read_pairs env (p ∷ ps) = record { key = read env p.key; value = read env p.value; exact = p.exact } ∷ read_pairs env ps

-- the segments of a new bit string
abbrev pub read_parts : Env → List Part → List Core.BuiltSegment
read_parts env [] = []
read_parts env (p ∷ ps) =
    record { shape = p.shape; value = read env p.value; size = read env p.size } ∷ read_parts env ps

-- what is set for a module: how many parameters each function has, by its site; which receives and let-bound calls are
-- noted as marks; and the variables whose part of a binary is handed on and makes no sub-binary
pub record Setting : Type 0 where
  pub widths : List ℕ
  pub marks : List Mark
  pub handed : List ℕ

-- the number of a function's parameters
abbrev pub width : List ℕ → ℕ → ℕ
width ws site = elim (slice_get ws site) [ None ↦ 0 | Some k ↦ k ]

-- the variable whose reference marks a receive
abbrev pub reference_of : List Mark → ℕ → Option ℕ
reference_of [] n = None
reference_of (m ∷ ms) n = if eqb n m.receive then Some m.reference else reference_of ms n

-- whether a variable's reference marks some receive
abbrev pub is_marking_variable : List Mark → ℕ → Bool
is_marking_variable [] x = false
is_marking_variable (m ∷ ms) x = eqb x m.reference || is_marking_variable ms x
