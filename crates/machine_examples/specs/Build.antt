-- Words for small modules of assembly and for runs of them.
use Prim.Native.String.{String}
use Rattle.std.specs.Prelude.{◌≡◌, ℕ, suc, List, [], ◌∷◌, ◌++◌, length, Bool, false, pos, codes}
use Rattle.erl_base.specs.declared.ids.FunKey.{FunKey}
use Rattle.erl_term.specs.BitString.{bits_of}
use Rattle.erl_term.specs.Term as T
use Rattle.erl_term.specs.Term.{Term}
use Rattle.erl_term.specs.Terms.{Values, terms, pairs, list_of}
use Rattle.world_model.specs.World as W
use Rattle.world_model.specs.World.{Reply, Script, How}
use Rattle.world_model.specs.Run.{gives, raises, waits}
use Rattle.step_machine.specs.Steps.{Ran, End, over, unfinished, is_bad}
use Rattle.beam_table.specs.Code as C
use Rattle.beam_table.specs.Code.{Reg, Source, Insn, Extern, Flags, AsmFun, AsmModule}
use Rattle.beam_table.specs.MachineRun.{asm_run}

-- a function's name and arity
abbrev pub key : String → ℕ → FunKey
key f n = record { name = codes f; arity = n }

-- Terms.

-- an atom
abbrev pub atom : String → Term
atom w = T.atom (codes w)

-- a number
abbrev pub int : ℕ → Term
int n = T.int (pos n)

-- a tuple
abbrev pub tuple_term : Values → Term
tuple_term ts = T.tuple (terms ts)

-- a proper list
abbrev pub list_term : Values → Term
list_term ts = list_of ts T.nil

-- a map, with its keys in their order
abbrev pub map_of : List (Term × Term) → Term
map_of ps = T.map (pairs ps)

-- the bits of bytes
abbrev pub byte_row : List ℕ → List Bool
byte_row [] = []
byte_row (n ∷ ns) = bits_of 8 n ++ byte_row ns

-- a binary
abbrev pub bytes : List ℕ → Term
bytes ns = T.bits (byte_row ns)

-- Operands.

-- the first X register
abbrev pub x0 : Reg
x0 = C.x_reg 0

-- the second X register
abbrev pub x1 : Reg
x1 = C.x_reg 1

-- the third X register
abbrev pub x2 : Reg
x2 = C.x_reg 2

-- the fourth
abbrev pub x3 : Reg
x3 = C.x_reg 3

-- the first slot
abbrev pub y0 : Reg
y0 = C.y_reg 0

-- the second slot
abbrev pub y1 : Reg
y1 = C.y_reg 1

-- a register that is read
abbrev pub r : Reg → Source
r = C.reg

-- an atom that is read
abbrev pub a : String → Source
a w = C.atom (codes w)

-- a number that is read
abbrev pub i : ℕ → Source
i n = C.integer (pos n)

-- a function of module p
abbrev pub outside : String → ℕ → Extern
outside f n = record { mod_name = codes "p"; name = codes f; arity = n }

-- a function of the module erlang
abbrev pub erl : String → ℕ → Extern
erl f n = record { mod_name = codes "erlang"; name = codes f; arity = n }

-- unsigned and big
abbrev pub unsigned_big : Flags
unsigned_big = record { signed = false; little = false }

-- Modules, whose functions have the labels 1 and 2, 3 and 4, ..

-- functions whose first label is this one
abbrev pub functions : List (FunKey × List Insn) → ℕ → List AsmFun
functions [] l = []
functions (f ∷ fs) l = record { key = f.0; info = l; entry = suc l; code = f.1 } ∷ functions fs (suc (suc l))

-- module m with these functions
abbrev pub module_of : List (FunKey × List Insn) → AsmModule
module_of fs = record { name = codes "m"; exports = []; attributes = []; funs = functions fs 1 }

-- Scripts.

-- a mailbox and replies, without choices
abbrev pub script : Values → List Reply → Script
script ms rs = record { own = T.pid 1; mailbox = ms; replies = rs; choices = [] }

-- nothing comes, and nothing is asked
abbrev pub unasked : Script
unasked = script [] []

-- replies alone
abbrev pub replies : List Reply → Script
replies rs = script [] rs

-- a reply in some way
abbrev pub reply : Values → How → Term → Reply
reply ts h t = record { arrivals = ts; how = h; term = t }

-- a call returns
abbrev pub back : Term → Reply
back t = reply [] W.return t

-- Runs.

-- a run of at most k steps of function f, the first of its module
abbrev pub steps : ℕ → List Insn → List (FunKey × List Insn) → Values → Script → Ran
steps k is fs ts s = asm_run (module_of ((key "f" (length ts), is) ∷ fs)) (key "f" (length ts)) ts s k

-- a run of a function that is alone in its module
abbrev pub runs : List Insn → Values → Script → Ran
runs is ts s = steps 40 is [] ts s

-- how a run ends where nothing is asked
abbrev pub end_of : List Insn → Values → End
end_of is ts = (runs is ts unasked).end

-- a value ends a run
abbrev pub returns : Term → End
returns t = over (gives t)

-- a raise of class error ends a run
abbrev pub fails : Term → End
fails t = over (raises T.error t)

-- a request without a reply ends a run
abbrev pub asks_for : W.Request → End
asks_for q = over (waits q)

-- of a run of f, before these other functions, the first k steps are good, and the next one breaks a rule
abbrev pub BadAmong : ℕ → List Insn → List (FunKey × List Insn) → Values → Script → Type 0
BadAmong k is fs ts s = ((steps k is fs ts s).end ≡ unfinished) × ((steps (suc k) is fs ts s).end ≡ is_bad)

-- the same of a function that is alone in its module
abbrev pub BadAfter : ℕ → List Insn → Values → Script → Type 0
BadAfter k is ts s = BadAmong k is [] ts s
