-- Words for small runs.
use Rattle.std.proofs.Common.{◌≡◌, ℕ, suc, List, [], ◌∷◌, ◌++◌, Bool, false, pos, codes, length}
use Rattle.erl_base.specs.Names.{Name}
use Rattle.erl_base.specs.declared.ids.FunKey.{FunKey}
use Rattle.erl_term.specs.Term as T
use Rattle.erl_term.specs.BitString.{bits_of}
use Rattle.erl_term.specs.Term.{Term, more, none}
use Rattle.erl_term.specs.Terms.{terms}
use Rattle.world_model.specs.World as W
use Rattle.world_model.specs.World.{Reply, Script}
use Rattle.step_machine.specs.Steps.{Ran, End, unfinished, is_bad}
use Rattle.beam_table.specs.Code as C
use Rattle.beam_table.specs.Code.{Reg, Source, Insn, Extern, Flags, AsmFun, AsmModule}
use Rattle.beam_table.specs.MachineRun.{asm_run}

abbrev pub key : Name → ℕ → FunKey
key f n = record { name = f; arity = n }

abbrev pub A : Name → Term
A w = T.atom w

abbrev pub I : ℕ → Term
I n = T.int (pos n)

abbrev pub tup : List Term → Term
tup ts = T.tuple (terms ts)

abbrev pub x0 : Reg
x0 = Reg.x_reg 0

abbrev pub x1 : Reg
x1 = Reg.x_reg 1

abbrev pub x2 : Reg
x2 = Reg.x_reg 2

abbrev pub x3 : Reg
x3 = Reg.x_reg 3

abbrev pub y0 : Reg
y0 = Reg.y_reg 0

abbrev pub y1 : Reg
y1 = Reg.y_reg 1

abbrev pub r : Reg → Source
r = C.reg

abbrev pub a : Name → Source
a = C.atom

abbrev pub i : ℕ → Source
i n = C.integer (pos n)

abbrev pub ext : Name → Name → ℕ → Extern
ext m f n = record { mod_name = m; name = f; arity = n }

abbrev pub erl : Name → ℕ → Extern
erl f n = ext (codes "erlang") f n

abbrev pub plain : Flags
plain = record { signed = false; little = false }

-- a module m whose functions have the labels 1 and 2, 3 and 4, ..
abbrev pub functions : List (Name × ℕ × List Insn) → ℕ → List AsmFun
functions [] l = []
functions (f ∷ fs) l = record { key = key f.0 f.1; info = l; entry = suc l; code = f.2 } ∷ functions fs (suc (suc l))

abbrev pub module_of : List (Name × ℕ × List Insn) → AsmModule
module_of fs = record { name = codes "m"; exports = []; attributes = []; funs = functions fs 1 }

abbrev pub script : List Term → List Reply → Script
script ms rs = record { own = T.pid 1; mailbox = ms; replies = rs; choices = [] }

abbrev pub reply : List Term → W.How → Term → Reply
reply ts h t = record { arrivals = ts; how = h; term = t }

abbrev pub ok : List Term → Reply
ok ts = reply ts W.return (A (codes "ok"))

abbrev pub back : Term → Reply
back t = reply [] W.return t

-- a function f of these arguments, alone in its module
abbrev pub runs : List Insn → List Term → Script → Ran
runs is ts s = asm_run (module_of ((codes "f", length ts, is) ∷ [])) (key (codes "f") (length ts)) ts s 60

abbrev pub end_of : List Insn → List Term → End
end_of is ts = (runs is ts (script [] [])).end

abbrev pub with_replies : List Insn → List Term → List Reply → Ran
with_replies is ts rs = runs is ts (script [] rs)

abbrev pub bytes : List ℕ → List Bool
bytes [] = []
bytes (n ∷ ns) = bits_of 8 n ++ bytes ns

-- the end after k steps, with this mailbox
abbrev pub after : ℕ → List Insn → List Term → List Term → End
after k is ts ms = (asm_run (module_of ((codes "f", length ts, is) ∷ [])) (key (codes "f") (length ts)) ts
    (script ms []) k).end

-- the first k steps are good, and the next one isn't
abbrev pub BadAfter : ℕ → List Insn → List Term → List Term → Type 0
BadAfter k is ts ms = (after k is ts ms ≡ unfinished) × (after (suc k) is ts ms ≡ is_bad)
