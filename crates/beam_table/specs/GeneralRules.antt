-- The general rules, each once: reading and writing, collecting, leaving, building, raising, asking, returning.
-- (This project's own, after Erlang/OTP 25's BEAM.)
use Rattle.std.specs.Prelude.{ℕ, zero, suc, ◌+◌, ◌-◌, List, [], ◌∷◌, ◌++◌, length, slice_get, get_or, take, Bool, true, false, not, ◌&&◌, eqb, leb, Option, Some, None, if◌then◌else◌}
use Rattle.erl_term.specs.Term as T
use Rattle.erl_term.specs.Term.{Term, Class}
use Rattle.erl_term.specs.Terms.{class_word}
use Rattle.world_model.specs.Run.{gives, raises, numbered}
use Rattle.world_model.specs.World.{Request, Reply}
use Rattle.step_machine.specs.Frames.{is_tag, lowest_tag, with_cell, in_frame}
use Rattle.step_machine.specs.Steps.{Stepped, goes, ends, bad, asks}
use Rattle.beam_table.specs.Code as C
use Rattle.beam_table.specs.Code.{Reg, x_reg, y_reg, Source, reg, Insn, label, func_info, AsmFun, AsmModule}
use Rattle.beam_table.specs.MachineState.{Kind, Cell, Activation, Machine, unset, killed, term, tag}
use Rattle.bif_table.specs.BuiltinAnswer.{Answer, value, raised}

-- what a step does
abbrev pub Effect : Type 0
Effect = Stepped Machine

-- goes on if this holds
abbrev pub needs : Bool → Effect → Effect
needs true a = a
needs false a = bad

-- Cells.

-- set: holds something that can be read or moved, or a tag
abbrev pub is_set : Cell → Bool
is_set unset = false
is_set killed = false
is_set _ = true

-- the handler whose tag a cell holds: its kind, and the label where a raise lands
abbrev pub tag_in : Cell → Option (Kind × ℕ)
tag_in (tag k l) = Some (k, l)
tag_in _ = None

-- the first n cells are there and set
abbrev pub all_set : ℕ → List Cell → Bool
all_set zero cs = true
all_set (suc n) [] = false
all_set (suc n) (c ∷ cs) = is_set c && all_set n cs

-- no cell is unset; killed ones may be there
abbrev pub none_unset : List Cell → Bool
none_unset [] = true
none_unset (unset ∷ cs) = false
none_unset (c ∷ cs) = none_unset cs

-- Reading and writing.

-- this is wanted
abbrev pub if_some : {A : Type 0} → Option A → (A → Effect) → Effect
if_some None k = bad
if_some (Some a) k = k a

-- a Y register needs a frame with that slot
abbrev pub read_reg : Machine → Reg → (Cell → Effect) → Effect
read_reg m (x_reg n) k = k (get_or m.xs n unset)
read_reg m (y_reg n) k = in_frame bad m.frame λ ys. if_some (slice_get ys n) k

-- what an operand holds, of any kind
abbrev pub read_cell : Machine → Source → (Cell → Effect) → Effect
read_cell m (reg r) k = read_reg m r k
read_cell m (C.atom a) k = k (term (T.atom a))
read_cell m (C.integer z) k = k (term (T.int z))
read_cell m C.nil k = k (term T.nil)
read_cell m (C.literal t) k = k (term t)

-- a term is wanted
abbrev pub if_term : Cell → (Term → Effect) → Effect
if_term (term t) k = k t
if_term _ k = bad

-- an operand that is read holds a term
abbrev pub read : Machine → Source → (Term → Effect) → Effect
read m s k = read_cell m s λ c. if_term c k

-- operands in a row
abbrev pub read_all : Machine → List Source → (List Term → Effect) → Effect
read_all m [] k = k []
read_all m (s ∷ ss) k = read m s λ t. read_all m ss λ ts. k (t ∷ ts)

-- the terms in the first n X registers
abbrev pub arguments : ℕ → List Cell → (List Term → Effect) → Effect
arguments zero cs k = k []
arguments (suc n) [] k = bad
arguments (suc n) (c ∷ cs) k = if_term c λ t. arguments n cs λ ts. k (t ∷ ts)

-- terms as cells
abbrev pub cells : List Term → List Cell
cells [] = []
cells (t ∷ ts) = term t ∷ cells ts

-- where no message is looked at
abbrev pub outside_window : Machine → Effect → Effect
outside_window m a = elim m.window [ None ↦ a | Some w ↦ bad ]

-- a slot is written outside the window alone, and never over a tag
abbrev pub write : Machine → Reg → Cell → (Machine → Effect) → Effect
write m (x_reg n) c k = k (record m { xs = with_cell unset n c m.xs })
write m (y_reg n) c k =
    outside_window m (in_frame bad m.frame λ ys. if_some (slice_get ys n) λ old.
    needs (not (is_tag tag_in old)) (k (record m { frame = Some (with_cell unset n c ys) })))

-- the same of a term
abbrev pub write_term : Machine → Reg → Term → (Machine → Effect) → Effect
write_term m r t k = write m r (term t) k

-- a value alone in x0
abbrev pub alone : Term → Machine → Effect
alone t m = goes (record m { xs = term t ∷ [] })

-- General rules.

-- no slot of the frame is unset
abbrev pub frame_set : Option (List Cell) → Bool
frame_set None = true
frame_set (Some ys) = none_unset ys

-- the X registers below Live are set, and no slot of the frame is unset; then the other X registers are unset, and
-- there is no room
abbrev pub collects : ℕ → Machine → (Machine → Effect) → Effect
collects live m k =
    needs (all_set live m.xs && frame_set m.frame)
    (k (record m { xs = take live m.xs; room = 0 }))

-- the first n X registers are set; outside the window; then there is no room
abbrev pub leaves : ℕ → Machine → (Machine → Effect) → Effect
leaves n m k = outside_window m (needs (all_set n m.xs) (k (record m { room = 0 })))

-- takes w words of the room
abbrev pub builds : ℕ → Machine → (Machine → Effect) → Effect
builds w m k = needs (leb w m.room) (k (record m { room = m.room - w }))

-- the lowest tag of a frame, if there is one
abbrev pub tag_of : Option (List Cell) → Option (Kind × ℕ)
tag_of None = None
tag_of (Some ys) = lowest_tag tag_in ys

-- Labels.

-- the code that follows a label
abbrev pub after_label : List Insn → ℕ → Option (List Insn)
after_label [] l = None
after_label (label j ∷ is) l = if eqb j l then Some is else after_label is l
after_label (i ∷ is) l = after_label is l

-- a function with its head
abbrev pub full_code : AsmFun → List Insn
full_code f = label f.info ∷ func_info f.key ∷ label f.entry ∷ f.code

-- the first of two
abbrev pub or_code : Option (List Insn) → Option (List Insn) → Option (List Insn)
or_code None o = o
or_code (Some is) o = Some is

-- the code at a label of any function
abbrev pub code_at : List AsmFun → ℕ → Option (List Insn)
code_at [] l = None
code_at (f ∷ fs) l = or_code (after_label (full_code f) l) (code_at fs l)

-- the function with this entry, and its number
abbrev pub entry_at : List AsmFun → ℕ → ℕ → Option (ℕ × AsmFun)
entry_at [] l n = None
entry_at (f ∷ fs) l n = if eqb f.entry l then Some (n, f) else entry_at fs l (suc n)

module _ (a : AsmModule) where
  -- goes on at a label
  abbrev pub jumps : ℕ → Machine → Effect
  jumps l m = if_some (code_at a.funs l) λ is. goes (record m { code = is })

  -- goes on at a tag: x0, x1 and x2 are class, reason and raw trace
  abbrev pub lands : Kind → ℕ → Class → Term → Machine → Effect
  lands k l c r m = if_some (code_at a.funs l) λ is. goes (record m {
    xs = term (class_word c) ∷ term r ∷ term (T.raw_trace c) ∷ [];
    room = 0;
    code = is;
    landing = Some k;
  })

  -- the innermost activation with a tag
  abbrev pub unwinds : List Activation → Class → Term → Machine → Effect
  unwinds [] c r m = ends (raises c r)
  unwinds (f ∷ fs) c r m = elim (tag_of f.frame) [
    | Some t ↦ lands t.0 t.1 c r (record m { frame = f.frame; callers = fs })
    | None ↦ unwinds fs c r m
  ]

  -- a raise goes to the lowest tag of the innermost activation with one; those inside it are dropped
  abbrev pub raising : Class → Term → Machine → Effect
  raising c r m = outside_window m (elim (tag_of m.frame) [
    | Some t ↦ lands t.0 t.1 c r m
    | None ↦ unwinds m.callers c r m
  ])

  -- goes on if this holds, else jumps
  abbrev pub or_jumps : Bool → ℕ → Machine → Effect
  or_jumps true l m = goes m
  or_jumps false l m = jumps l m

  -- what an answer leads to, where a raise may have a label
  abbrev pub or_raises : Option ℕ → Class → Term → Machine → Effect
  or_raises None c r m = raising c r m
  or_raises (Some l) c r m = jumps l m

  -- an answer's value, or its raise
  abbrev pub answers : Option ℕ → Answer → Reg → Machine → Effect
  answers l (value t) d m = write_term m d t goes
  answers l (raised c r) d m = or_raises l c r m

-- the arrivals of a reply join the mailbox
abbrev pub with_arrivals : Reply → Machine → Machine
with_arrivals r m = record m {
  mailbox = m.mailbox ++ numbered m.next_serial r.arrivals;
  next_serial = m.next_serial + length r.arrivals;
}

-- asks for the next reply, whose arrivals join the mailbox
abbrev pub asking : Request → Machine → (Reply → Machine → Effect) → Effect
asking q m k = asks q λ r. k r (with_arrivals r m)

-- back to the caller, or the end
abbrev pub returns_to : List Activation → Term → Machine → Effect
returns_to [] t m = ends (gives t)
returns_to (f ∷ fs) t m = goes (record m { xs = term t ∷ []; room = 0; frame = f.frame; callers = fs; code = f.back })
