-- The assembly of a plain module: each function gives its value in `{x,0}`.
use Rattle.std.specs.Prelude.{ℕ, zero, suc, ◌+◌, ◌*◌, List, [], ◌∷◌, if◌then◌else◌}
use Rattle.erl_base.specs.Names.{Name, same_name}
use Rattle.erl_term.specs.Term.{Term, int, atom}
use Rattle.core_form.specs.declared.tree.Binder.{Binder}
use Rattle.core_form.specs.Core.{Expr, literal, var, fun, Def, Defs, no_def, and_def, def, Module}
use Rattle.behaviour.specs.Called.{export_keys, each_once}
use Rattle.beam_table.specs.Code.{Source, Insn, x_reg, move, return, AsmFun, AsmModule}

-- the number of a parameter
abbrev pub index_of : Name → List Binder → ℕ
index_of x [] = 0
index_of x (y ∷ ys) = if same_name x y.name then 0 else suc (index_of x ys)

-- gives a source back
abbrev pub gives : Source → List Insn
gives s = move s (x_reg 0) ∷ return ∷ []

-- the first parameter is in `{x,0}` already
abbrev pub gives_parameter : ℕ → List Insn
gives_parameter zero = return ∷ []
gives_parameter (suc k) = gives (Source.reg (x_reg (suc k)))

-- gives a number or an atom back
abbrev pub gives_literal : Term → List Insn
gives_literal (int z) = gives (Source.integer z)
gives_literal (atom a) = gives (Source.atom a)
gives_literal _ = []

-- the value of a plain body, with these parameters
abbrev pub gives_body : List Binder → Expr → List Insn
gives_body xs (var p x) = gives_parameter (index_of x xs)
gives_body xs (literal p t) = gives_literal t
gives_body xs _ = []

-- the instructions of a function's body
abbrev pub code : Expr → List Insn
code (fun p xs e) = gives_body xs e
code _ = []

-- the function of the definition with the number k, and those from there on
abbrev pub function : ℕ → Def → AsmFun
function k (def p f e) = record { key = f; info = 2 * k + 1; entry = 2 * k + 2; code = code e }

-- the functions of definitions, the first of which is the k-th of the module
abbrev pub functions : ℕ → Defs → List AsmFun
functions k no_def = []
functions k (and_def d ds) = function k d ∷ functions (suc k) ds

-- the assembly of a plain module
abbrev pub assembly : Module → AsmModule
assembly m = record {
  name = m.name;
  exports = each_once (export_keys m);
  attributes = m.attributes;
  funs = functions 0 m.defs;
}
