-- Plain modules: each function gives an integer, an atom, or one of its parameters; and their assembly.
use Rattle.std.specs.Prelude.{◌≡◌, ◌<◌, ◌^◌, ◌&&◌, leb, ℕ, ℤ, zero, suc, ◌+◌, ◌*◌, List, [], ◌∷◌, map, length, eqb, Bool, true, false, Option, Some, None, if◌then◌else◌, IsTrue}
use Rattle.erl_base.specs.Names.{Name, same_name, is_key, keys_distinct}
use Rattle.erl_base.specs.declared.ids.FunKey.{FunKey}
use Rattle.erl_term.specs.Term as T
use Rattle.core_form.specs.declared.tree.Binder.{Binder}
use Rattle.core_form.specs.Core.{Module, Expr, literal, var, fun, Defs, no_def, and_def, def}
use Rattle.beam_table.specs.Code as C
use Rattle.beam_table.specs.Code.{Insn, move, return, x_reg, AsmFun, AsmModule}
use Rattle.erl_term.specs.Ranges.{is_within_128}
use Rattle.beam_table.specs.OperandBounds.{most_arity}
use Rattle.beam_table.specs.ValidModule.{every, attribute_ok, Valid}
use Rattle.behaviour.specs.Called.{export_keys, each_once}
use Rattle.behaviour.specs.SameBehaviour.{SameBehaviour, TailCalls, CheapCalls}

-- what a function gives; parameters count from 0
pub data PlainBody : Type 0 where
  number : ℤ → PlainBody
  atom : Name → PlainBody
  parameter : ℕ → PlainBody

-- a function whose body is a number, an atom or a parameter
pub record PlainFun : Type 0 where
  pub key : FunKey
  pub body : PlainBody

-- the parameter that a variable means: the last one of that name
abbrev pub later_place : Bool → Option ℕ → Option ℕ
later_place b (Some j) = Some (suc j)
later_place true None = Some 0
later_place false None = None

-- the last parameter of this name
abbrev pub parameter_place : Name → List Binder → Option ℕ
parameter_place x [] = None
parameter_place x (b ∷ bs) = later_place (same_name x b.name) (parameter_place x bs)

-- a parameter that is there
abbrev pub as_parameter : Option ℕ → Option PlainBody
as_parameter None = None
as_parameter (Some j) = Some (parameter j)

-- the body of a function, if it is plain
abbrev pub plain_body : List Binder → Expr → Option PlainBody
plain_body bs (literal p (T.int z)) = Some (number z)
plain_body bs (literal p (T.atom a)) = Some (atom a)
plain_body bs (var p x) = as_parameter (parameter_place x bs)
plain_body bs e = None

-- a function, if its body is plain
abbrev pub with_key : FunKey → Option PlainBody → Option PlainFun
with_key f None = None
with_key f (Some b) = Some (record { key = f; body = b })

-- a definition with as many parameters as its arity says
abbrev pub plain_fun : FunKey → Expr → Option PlainFun
plain_fun f (fun p bs e) = if eqb f.arity (length bs) then with_key f (plain_body bs e) else None
plain_fun f e = None

-- all of them, or none
abbrev pub both_plain : Option PlainFun → Option (List PlainFun) → Option (List PlainFun)
both_plain None o = None
both_plain (Some h) None = None
both_plain (Some h) (Some hs) = Some (h ∷ hs)

-- all definitions, if they are plain
abbrev pub plain_funs : Defs → Option (List PlainFun)
plain_funs no_def = Some []
plain_funs (and_def (def p f e) ds) = both_plain (plain_fun f e) (plain_funs ds)

-- a value in x0, and the end
abbrev pub plain_code : PlainBody → List Insn
plain_code (number z) = move (C.integer z) (x_reg 0) ∷ return ∷ []
plain_code (atom a) = move (C.atom a) (x_reg 0) ∷ return ∷ []
plain_code (parameter zero) = return ∷ []
plain_code (parameter (suc j)) = move (C.reg (x_reg (suc j))) (x_reg 0) ∷ return ∷ []

-- function k has the labels 2k + 1 and 2k + 2
abbrev pub plain_asm : ℕ → List PlainFun → List AsmFun
plain_asm k [] = []
plain_asm k (h ∷ hs) =
    record { key = h.key; info = 2 * k + 1; entry = 2 * k + 2; code = plain_code h.body } ∷ plain_asm (suc k) hs

-- the module of plain functions
abbrev pub plain_assembly : Module → List PlainFun → AsmModule
plain_assembly m hs =
    record { name = m.name; exports = each_once (export_keys m); attributes = m.attributes; funs = plain_asm 0 hs }

-- plain definitions with distinct names, and exports that are among them
pub record IsPlainModule (m : Module) (hs : List PlainFun) : Type 0 where
  pub plain : plain_funs m.defs ≡ Some hs
  pub distinct : IsTrue (keys_distinct (map (λ h. h.key) hs))
  pub exports : IsTrue (every (λ f. is_key f (map (λ h. h.key) hs)) (export_keys m))

-- their assembly behaves as they do
abbrev pub PlainModulesBehave : Type 0
PlainModulesBehave = (m : Module) (hs : List PlainFun) → IsPlainModule m hs →
    SameBehaviour m (plain_assembly m hs) × TailCalls m (plain_assembly m hs) × CheapCalls m (plain_assembly m hs)

-- small enough for an assembly text
abbrev pub body_fits : PlainBody → Bool
body_fits (number z) = is_within_128 z
body_fits (atom a) = true
body_fits (parameter j) = true

-- a function that a text can hold
abbrev pub fun_fits : PlainFun → Bool
fun_fits h = leb h.key.arity most_arity && body_fits h.body

-- so few and such functions that a text can hold them
pub record FitsText (m : Module) (hs : List PlainFun) : Type 0 where
  pub few : length hs < 2 ^ 31
  pub functions : IsTrue (every fun_fits hs)
  pub attributes : IsTrue (every attribute_ok m.attributes)

-- then their assembly is a valid module
abbrev pub PlainAssemblyIsValid : Type 0
PlainAssemblyIsValid = (m : Module) (hs : List PlainFun) → IsPlainModule m hs → FitsText m hs
    → Valid (plain_assembly m hs)
