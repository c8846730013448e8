-- One small module from Core Erlang to its assembly, through every form between them.
use Rattle.std.specs.Prelude.{ℕ, suc, List, [], ◌∷◌, None, codes}
use Rattle.erl_base.specs.Names.{Name}
use Rattle.erl_base.specs.declared.ids.FunKey.{FunKey}
use Rattle.erl_base.specs.declared.ids.Place.{Place}
use Rattle.erl_term.specs.Term as T
use Rattle.bif_table.specs.Builtins as B
use Rattle.core_form.specs.declared.tree.Binder.{Binder}
use Rattle.core_form.specs.declared.module.FunName.{FunName}
use Rattle.core_form.specs.Core.{Module, Expr, literal, var, fun_name, fun, let_in, apply, call, and_expr, no_expr, no_def, and_def, def}
use Rattle.beam_table.specs.Code.{Reg, Source, Insn, move, return, call_only, gc_bif, AsmFun, AsmModule}
use Rattle.behaviour.specs.SameBehaviour.{SameBehaviour, TailCalls, CheapCalls}
use Rattle.ssa_form.specs.Spots.{Spots, x_reg}
use Rattle.ssa_form.specs.PlacedRun.{Placed}
use Rattle.ssa_form.specs.FramedRun.{Framed}
use Rattle.pass_contract.specs.InModule.{InModule}
use Rattle.pass_examples.specs.SmallPath.{Small, gives_term, gives_param, goes_to, takes_length, ssa_body}

-- the only place
abbrev pub here_in_text : Place
here_in_text = record { line = 1; column = 1 }

-- functions of one parameter
abbrev pub key : Name → FunKey
key f = record { name = f; arity = 1 }

-- their parameter
abbrev pub x : Binder
x = record { name = codes "X"; place = here_in_text }

-- fun (X) -> E
abbrev pub function : Expr → Expr
function e = fun here_in_text (x ∷ []) e

-- an export
abbrev pub export : Name → FunName
export f = record { key = key f; place = here_in_text }

-- 'same'/1 gives X, 'other'/1 applies 'same'/1 to X, 'size'/1 gives erlang:length(X) by a let, 'none'/1 gives []
abbrev pub core : Module
core = record {
  name = codes "m";
  exports = export (codes "same") ∷ export (codes "other") ∷ export (codes "size") ∷ export (codes "none") ∷ [];
  attributes = [];
  defs =
      and_def (def here_in_text (key (codes "same")) (function (var here_in_text (codes "X"))))
      (and_def (def here_in_text (key (codes "other")) (function
      (apply here_in_text (fun_name here_in_text (key (codes "same")))
      (and_expr (var here_in_text (codes "X")) no_expr))))
      (and_def (def here_in_text (key (codes "size")) (function
      (let_in here_in_text (record { name = codes "Y"; place = here_in_text } ∷ [])
      (call here_in_text (literal here_in_text (T.atom (codes "erlang")))
      (literal here_in_text (T.atom (codes "length")))
      (and_expr (var here_in_text (codes "X")) no_expr))
      (var here_in_text (codes "Y")))))
      (and_def (def here_in_text (key (codes "none")) (function (literal here_in_text T.nil))) no_def)));
  floats = None;
  wide = None;
  long = None;
}

-- what each of them does
abbrev pub bodies : List Small
bodies = gives_param ∷ goes_to 0 ∷ takes_length ∷ gives_term T.nil ∷ []

-- how the module is set
abbrev pub set_so : InModule
set_so = record { widths = 1 ∷ 1 ∷ 1 ∷ 1 ∷ []; marks = []; plan = []; choices = []; uncounted = [] }

-- all variables in one register, and no frame
abbrev pub register : Spots
register = (0, x_reg 0) ∷ (1, x_reg 0) ∷ []

-- a body with spots
abbrev pub in_register : ℕ → Small → Placed
in_register n q = record { body = ssa_body n q; spots = register }

-- and without a frame
abbrev pub without_frame : ℕ → Small → Framed
without_frame n q = record { body = ssa_body n q; spots = register; sizes = [] }

-- a function of the assembly
abbrev pub asm_fun : Name → ℕ → List Insn → AsmFun
asm_fun f n is = record { key = key f; info = n; entry = suc n; code = is }

-- their assembly
abbrev pub asm : AsmModule
asm = record {
  name = codes "m";
  exports = key (codes "same") ∷ key (codes "other") ∷ key (codes "size") ∷ key (codes "none") ∷ [];
  attributes = [];
  funs =
      asm_fun (codes "same") 1 (return ∷ [])
      ∷ asm_fun (codes "other") 3 (call_only 1 2 ∷ [])
      ∷ asm_fun (codes "size") 5
      (gc_bif B.Length None 1 (Source.reg (Reg.x_reg 0) ∷ []) (Reg.x_reg 0) ∷ return ∷ [])
      ∷ asm_fun (codes "none") 7 (move (Source.literal T.nil) (Reg.x_reg 0) ∷ return ∷ []) ∷ [];
}

-- they behave the same, a tail call stays one, and no call costs more: shown function by function, along the forms
abbrev pub WholePath : Type 0
WholePath = SameBehaviour core asm × TailCalls core asm × CheapCalls core asm
