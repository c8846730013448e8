-- How an instruction is read from a term: one function, from the kinds of operands that opcodes have.
use Rattle.std.specs.Prelude.{ℕ, ℤ, pos, List, [], ◌∷◌, Bool, true, false, ◌||◌, eqb, Option, Some, None, if◌then◌else◌, codes}
use Rattle.std.specs.Option.{option_map}
use Rattle.erl_base.specs.Names.{Name, same_name}
use Rattle.erl_term.specs.Term as T
use Rattle.erl_term.specs.Term.{Term}
use Rattle.erl_term.specs.Terms.{listed}
use Rattle.bif_table.specs.declared.term_test.TypeTest.TheVariants as TT
use Rattle.bif_table.specs.declared.term_test.Comparison.TheVariants as CT
use Rattle.term_read.specs.Lexemes.{◌>>=◌}
use Rattle.beam_table.specs.Code as C
use Rattle.beam_table.specs.Code.{Reg, x_reg, y_reg, Source, reg, Extern, Flags, Segment, Insn}
use Rattle.beam_table.specs.declared.opcode.Kind.{Kind}
use Rattle.beam_table.specs.declared.opcode.Kind.TheVariants as K
use Rattle.beam_table.specs.declared.opcode.Opcode.{Opcode}
use Rattle.beam_table.specs.declared.opcode.Opcode.TheVariants as O
use Rattle.beam_table.specs.Opcodes.{opcode_row}
use Rattle.beam_table.specs.Operands as P
use Rattle.beam_table.specs.OperandBounds.{register_ok, label_ok, operand_ok, agrees}
use Rattle.insn_terms.specs.Spelling.{is_flag, flags_named}
use Rattle.insn_terms.specs.Values.{Value, Values, insn_from}

-- Terms taken apart.

-- what passes a test
abbrev pub checked : {A : Type 0} → (A → Bool) → A → Option A
checked ok a = if ok a then Some a else None

-- the number that a term is
abbrev pub number_of : Term → Option ℕ
number_of (T.int (pos n)) = Some n
number_of _ = None

-- the integer that a term is
abbrev pub integer_of : Term → Option ℤ
integer_of (T.int z) = Some z
integer_of _ = None

-- the atom that a term is
abbrev pub atom_of : Term → Option Name
atom_of (T.atom a) = Some a
atom_of _ = None

-- the items of a proper list
abbrev pub items_of : Term → Option (List Term)
items_of T.nil = Some []
items_of (T.cons t u) = items_of u >>= λ ts. Some (t ∷ ts)
items_of _ = None

-- the elements of a tuple
abbrev pub elements_of : Term → Option (List Term)
elements_of (T.tuple ts) = Some (listed ts)
elements_of _ = None

-- the first of terms, and those behind it
abbrev pub first : List Term → Option (Term × List Term)
first [] = None
first (t ∷ ts) = Some (t, ts)

-- nothing more
abbrev pub at_end : List Term → Option (Unit {0})
at_end [] = Some tt
at_end (t ∷ ts) = None

-- the next of a row
abbrev pub next : {A : Type 0} → (Term → Option A) → List Term → Option (A × List Term)
next f ts = first ts >>= λ t. f t.0 >>= λ a. Some (a, t.1)

-- an atom and what stands behind it, where nothing else does
abbrev pub pair_in : List Term → Option (Name × Term)
pair_in ts =
    first ts >>= λ t. first t.1 >>= λ u. at_end u.1 >>= λ e. atom_of t.0 >>= λ a. Some (a, u.0)

-- a pair whose first element is an atom
abbrev pub pair_of : Term → Option (Name × Term)
pair_of t = elements_of t >>= pair_in

-- what stands behind this atom in a pair
abbrev pub behind : Name → Term → Option Term
behind a t = pair_of t >>= λ p. if same_name a p.0 then Some p.1 else None

-- Operands.

-- a register that there is, by its letter
abbrev pub register_named : Name → Term → Option Reg
register_named a u =
    if same_name (codes "x") a then (number_of u >>= λ n. checked register_ok (x_reg n))
    else if same_name (codes "y") a then (number_of u >>= λ n. checked register_ok (y_reg n)) else None

-- a register without a type, behind `tr`
abbrev pub register_behind : Name → Term → Option Reg
register_behind a u = if same_name (codes "tr") a then (pair_of u >>= λ p. register_named p.0 p.1) else None

-- a register by an atom, what stands behind it, and what is left: nothing, or a type
abbrev pub register_by : Name → Term → List Term → Option Reg
register_by a u [] = register_named a u
register_by a u (v ∷ []) = register_behind a u
register_by a u (v ∷ w ∷ ts) = None

-- a register's elements
abbrev pub register_in : List Term → Option Reg
register_in ts = next atom_of ts >>= λ a. first a.1 >>= λ u. register_by a.0 u.0 u.1

-- a register, alone or with a type
abbrev pub register_of : Term → Option Reg
register_of t = elements_of t >>= register_in

-- what is read, by an atom and what stands behind it
abbrev pub source_named : Name → Term → Option Source
source_named a u =
    if same_name (codes "atom") a then option_map C.atom (atom_of u)
    else if same_name (codes "integer") a then option_map C.integer (integer_of u)
    else if same_name (codes "literal") a then Some (C.literal u) else option_map reg (register_named a u)

-- the same, by what is left
abbrev pub source_by : Name → Term → List Term → Option Source
source_by a u [] = source_named a u
source_by a u (v ∷ []) = option_map reg (register_behind a u)
source_by a u (v ∷ w ∷ ts) = None

-- the elements of what is read
abbrev pub source_in : List Term → Option Source
source_in ts = next atom_of ts >>= λ a. first a.1 >>= λ u. source_by a.0 u.0 u.1

-- an atom
abbrev pub nil_source : Name → Option Source
nil_source a = if same_name (codes "nil") a then Some C.nil else None

-- an atom, or else a tuple
abbrev pub source_at : Option Name → Term → Option Source
source_at (Some a) t = nil_source a
source_at None t = elements_of t >>= source_in

-- what is read
abbrev pub source_of : Term → Option Source
source_of t = source_at (atom_of t) t

-- {f,L}, whatever the number
abbrev pub label_of : Term → Option ℕ
label_of t = behind (codes "f") t >>= number_of

-- `{f,0}`, or a label
abbrev pub zero_or_label : ℕ → Option (Option ℕ)
zero_or_label l = if eqb l 0 then Some None else checked label_ok l >>= λ l. Some (Some l)

-- a label, or `no_fail`
abbrev pub no_fail_or_label : Name → Term → Option (Option ℕ)
no_fail_or_label a u =
    if same_name (codes "f") a then (number_of u >>= checked label_ok >>= λ l. Some (Some l))
    else if same_name (codes "atom") a then
    (atom_of u >>= λ b. if same_name (codes "no_fail") b then Some None else None)
    else None

-- the number 0 alone
abbrev pub zero_of : ℕ → Option (Unit {0})
zero_of n = if eqb n 0 then Some tt else None

-- the number of a register of a kind
abbrev pub x_number : Reg → Option ℕ
x_number (x_reg n) = Some n
x_number (y_reg n) = None

-- and that of a slot
abbrev pub y_number : Reg → Option ℕ
y_number (x_reg n) = None
y_number (y_reg n) = Some n

-- flags, and this word too
abbrev pub with_flag : Name → Flags → Flags
with_flag a f =
    record { signed = same_name a (codes "signed") || f.signed; little = same_name a (codes "little") || f.little }

-- Rows.

-- one of each term
abbrev pub singles : {A : Type 0} → (Term → Option A) → List Term → Option (List A)
singles f [] = Some []
singles f (t ∷ ts) = f t >>= λ a. singles f ts >>= λ as'. Some (a ∷ as')

-- one of each two terms
abbrev pub in_pairs : {A : Type 0} → (Term → Term → Option A) → List Term → Option (List A)
in_pairs f [] = Some []
in_pairs f (t ∷ []) = None
in_pairs f (t ∷ u ∷ ts) = f t u >>= λ a. in_pairs f ts >>= λ as'. Some (a ∷ as')

-- the flags of words
abbrev pub words_in : List Term → Option Flags
words_in [] = Some (flags_named [])
words_in (t ∷ ts) = atom_of t >>= checked is_flag >>= λ a. words_in ts >>= λ f. Some (with_flag a f)

-- the flags of a list of words
abbrev pub flags_in : Term → Option Flags
flags_in t = items_of t >>= words_in

-- an atom
abbrev pub nil_flags : Name → Option Flags
nil_flags a = if same_name (codes "nil") a then Some (flags_named []) else None

-- `nil`, or words behind `literal`
abbrev pub flag_list_at : Option Name → Term → Option Flags
flag_list_at (Some a) t = nil_flags a
flag_list_at None t = behind (codes "literal") t >>= flags_in

-- flags of a segment that is built
abbrev pub flag_list_of : Term → Option Flags
flag_list_of t = flag_list_at (atom_of t) t

-- Values: what is read, within its bounds.

-- a label
abbrev pub label_value : Term → Option ℕ
label_value t = label_of t >>= checked label_ok

-- the number of a label's own form
abbrev pub bare_label_value : Term → Option ℕ
bare_label_value t = number_of t >>= checked label_ok

-- a label, or `{f,0}`
abbrev pub label_or_zero_value : Term → Option (Option ℕ)
label_or_zero_value t = label_of t >>= zero_or_label

-- a label, or `{atom,no_fail}`
abbrev pub label_or_no_fail_value : Term → Option (Option ℕ)
label_or_no_fail_value t = pair_of t >>= λ p. no_fail_or_label p.0 p.1

-- `{f,0}`
abbrev pub no_label_value : Term → Option (Unit {0})
no_label_value t = label_of t >>= zero_of

-- the number 0
abbrev pub zero_value : Term → Option (Unit {0})
zero_value t = number_of t >>= zero_of

-- the number of an X register
abbrev pub x_value : Term → Option ℕ
x_value t = register_of t >>= x_number

-- the number of a slot
abbrev pub y_value : Term → Option ℕ
y_value t = register_of t >>= y_number

-- how many X registers are live
abbrev pub live_value : Term → Option ℕ
live_value t = number_of t >>= checked (λ n. operand_ok (P.live n))

-- an arity
abbrev pub arity_value : Term → Option ℕ
arity_value t = number_of t >>= checked (λ n. operand_ok (P.arity n))

-- the number of a function
abbrev pub site_value : Term → Option ℕ
site_value t = number_of t >>= checked (λ n. operand_ok (P.site n))

-- the unit of a segment that is built
abbrev pub unit_value : Term → Option ℕ
unit_value t = number_of t >>= checked (λ n. operand_ok (P.unit n))

-- slots, words and other counts
abbrev pub amount_value : Term → Option ℕ
amount_value t = number_of t >>= checked (λ n. operand_ok (P.amount n))

-- {atom,A}
abbrev pub atom_value : Term → Option Name
atom_value t = behind (codes "atom") t >>= atom_of

-- {extfunc,M,F,A}
abbrev pub extern_in : List Term → Option Extern
extern_in ts =
    next atom_of ts >>= λ w. next atom_of w.1 >>= λ m. next atom_of m.1 >>= λ f. next arity_value f.1
    >>= λ n. at_end n.1
    >>= λ e. if same_name (codes "extfunc") w.0 then
    Some (record { mod_name = m.0; name = f.0; arity = n.0 }) else None

-- a function of any module
abbrev pub extern_value : Term → Option Extern
extern_value t = elements_of t >>= extern_in

-- {field_flags,[..]}
abbrev pub field_flags_value : Term → Option Flags
field_flags_value t = behind (codes "field_flags") t >>= flags_in

-- Rows of values.

-- two values, one behind the other
abbrev pub both : {A B : Type 0} → (Term → Option A) → (Term → Option B) → Term → Term → Option (A × B)
both f g t u = f t >>= λ a. g u >>= λ b. Some (a, b)

-- the type of a segment, by its word
abbrev pub is_binary_word : Name → Option Bool
is_binary_word a =
    if same_name (codes "integer") a then Some false else if same_name (codes "binary") a then Some true else None

-- the type of a segment
abbrev pub kind_value : Term → Option Bool
kind_value t = atom_value t >>= is_binary_word

-- one value and then a row
abbrev pub and_then : {A B : Type 0} → (Term → Option A) → (List Term → Option B) → List Term → Option (A × B)
and_then f g ts = next f ts >>= λ a. g a.1 >>= λ b. Some (a.0, b)

-- one value and nothing more
abbrev pub alone : {A : Type 0} → (Term → Option A) → List Term → Option A
alone f ts = next f ts >>= λ a. at_end a.1 >>= λ e. Some a.0

-- a segment from its six operands
abbrev pub segment_from : Bool × (ℕ × (ℕ × (Flags × (Source × Source)))) → Segment
segment_from v = record {
  is_binary = v.0;
  number = v.1.0;
  unit = v.1.1.0;
  flags = v.1.1.1.0;
  value = v.1.1.1.1.0;
  size = v.1.1.1.1.1;
}

-- the six operands of a segment
abbrev pub segment_in : List Term → Option Segment
segment_in ts =
    and_then kind_value (and_then amount_value (and_then unit_value (and_then flag_list_of
    (and_then source_of (alone source_of))))) ts
    >>= λ v. Some (segment_from v)

-- segments, six operands each
abbrev pub segments_in : List Term → Option (List Segment)
segments_in [] = Some []
segments_in (k ∷ n ∷ u ∷ f ∷ v ∷ s ∷ ts) =
    segment_in (k ∷ n ∷ u ∷ f ∷ v ∷ s ∷ []) >>= λ g. segments_in ts >>= λ gs. Some (g ∷ gs)
segments_in _ = None

-- the items of `{list,[..]}`
abbrev pub list_items : Term → Option (List Term)
list_items t = behind (codes "list") t >>= items_of

-- lists of any length

-- {list,[Y,..]}
abbrev pub slots_value : Term → Option (List ℕ)
slots_value t = list_items t >>= singles y_value

-- {list,[S,..]}
abbrev pub sources_value : Term → Option (List Source)
sources_value t = list_items t >>= singles source_of

-- {list,[S,S,..]}
abbrev pub put_pairs_value : Term → Option (List (Source × Source))
put_pairs_value t = list_items t >>= in_pairs (both source_of source_of)

-- {list,[S,D,..]}
abbrev pub get_pairs_value : Term → Option (List (Source × Reg))
get_pairs_value t = list_items t >>= in_pairs (both source_of register_of)

-- {list,[S,L,..]}
abbrev pub value_choices_value : Term → Option (List (Source × ℕ))
value_choices_value t = list_items t >>= in_pairs (both source_of label_value)

-- {list,[N,L,..]}
abbrev pub size_choices_value : Term → Option (List (ℕ × ℕ))
size_choices_value t = list_items t >>= in_pairs (both amount_value label_value)

-- {list,[..]}, six operands a segment
abbrev pub segments_value : Term → Option (List Segment)
segments_value t = list_items t >>= segments_in

-- [S,..]
abbrev pub arguments_value : Term → Option (List Source)
arguments_value t = items_of t >>= singles source_of

-- what stands in `[..]`, by the kinds of its items

-- two that are read
abbrev pub two_in : List Term → Option (Source × Source)
two_in = and_then source_of (alone source_of)

-- what is read, and a size
abbrev pub sized_in : List Term → Option (Source × ℕ)
sized_in = and_then source_of (alone amount_value)

-- what is read, a size and a tag
abbrev pub tagged_in : List Term → Option (Source × (ℕ × Name))
tagged_in = and_then source_of (and_then amount_value (alone atom_value))

-- a context, with the size, the unit and the flags of what is taken from it
abbrev pub field_in : List Term → Option (Reg × (Source × (ℕ × Flags)))
field_in = and_then register_of (and_then source_of (and_then amount_value (alone field_flags_value)))

-- a context, and a number of bits
abbrev pub counted_in : List Term → Option (Reg × ℕ)
counted_in = and_then register_of (alone amount_value)

-- [S]
abbrev pub one_value : Term → Option Source
one_value t = items_of t >>= alone source_of

-- [S,S]
abbrev pub two_value : Term → Option (Source × Source)
two_value t = items_of t >>= two_in

-- [S,N]
abbrev pub sized_value : Term → Option (Source × ℕ)
sized_value t = items_of t >>= sized_in

-- [S,N,{atom,A}]
abbrev pub tagged_value : Term → Option (Source × (ℕ × Name))
tagged_value t = items_of t >>= tagged_in

-- [C,S,U,{field_flags,..}]
abbrev pub field_value : Term → Option (Reg × (Source × (ℕ × Flags)))
field_value t = items_of t >>= field_in

-- [C,N]
abbrev pub counted_value : Term → Option (Reg × ℕ)
counted_value t = items_of t >>= counted_in

-- the value of a term as an operand of a kind
abbrev pub value_of : (k : Kind) → Term → Option (Value k)
value_of K.Source t = source_of t
value_of K.Register t = register_of t
value_of K.OwnLabel t = label_value t
value_of K.EntryLabel t = label_value t
value_of K.LabelOrZero t = label_or_zero_value t
value_of K.LabelOrNoFail t = label_or_no_fail_value t
value_of K.NoLabel t = no_label_value t
value_of K.XSlot t = x_value t
value_of K.YSlot t = y_value t
value_of K.Live t = live_value t
value_of K.Arity t = arity_value t
value_of K.Site t = site_value t
value_of K.Unit t = unit_value t
value_of K.Amount t = amount_value t
value_of K.Zero t = zero_value t
value_of K.Function t = atom_of t
value_of K.Atom t = atom_value t
value_of K.Extern t = extern_value t
value_of K.FieldFlags t = field_flags_value t
value_of K.FlagList t = flag_list_of t
value_of K.Slots t = slots_value t
value_of K.Sources t = sources_value t
value_of K.PutPairs t = put_pairs_value t
value_of K.GetPairs t = get_pairs_value t
value_of K.ValueChoices t = value_choices_value t
value_of K.SizeChoices t = size_choices_value t
value_of K.Segments t = segments_value t
value_of K.Arguments t = arguments_value t
value_of K.One t = one_value t
value_of K.Two t = two_value t
value_of K.Sized t = sized_value t
value_of K.Tagged t = tagged_value t
value_of K.Field t = field_value t
value_of K.Counted t = counted_value t

-- one value of each kind
abbrev pub values_of : (ks : List Kind) → List Term → Option (Values ks)
values_of [] ts = at_end ts
values_of (k ∷ ks) ts = and_then (value_of k) (values_of ks) ts

-- Instructions.

-- the instruction of an opcode with these operands
abbrev pub insn_by : Opcode → List Term → Option Insn
insn_by o ts = values_of (opcode_row o).kinds ts >>= insn_from o >>= checked agrees

-- the opcodes whose name comes first, but for labels
abbrev pub plain_opcodes : List Opcode
plain_opcodes =
    O.Move ∷ O.Swap ∷ O.InitYregs ∷ O.Allocate ∷ O.AllocateHeap ∷ O.Deallocate ∷ O.Trim ∷ O.TestHeap ∷ O.Return
    ∷ O.PutList ∷ O.PutTuple2 ∷ O.MakeFun3 ∷ O.PutMapAssoc ∷ O.PutMapExact ∷ O.GetList ∷ O.GetHd ∷ O.GetTl
    ∷ O.GetTupleElement ∷ O.GetMapElements ∷ O.Jump ∷ O.SelectVal ∷ O.SelectTupleArity ∷ O.Bif ∷ O.GcBif ∷ O.Call
    ∷ O.CallOnly ∷ O.CallLast ∷ O.CallExt ∷ O.CallExtOnly ∷ O.CallExtLast ∷ O.CallFun ∷ O.Apply ∷ O.ApplyLast ∷ O.Send
    ∷ O.BuildStacktrace ∷ O.Raise ∷ O.Badmatch ∷ O.CaseEnd ∷ O.TryCaseEnd ∷ O.IfEnd ∷ O.Try ∷ O.Catch ∷ O.TryEnd
    ∷ O.TryCase ∷ O.CatchEnd ∷ O.LoopRec ∷ O.RemoveMessage ∷ O.LoopRecEnd ∷ O.Wait ∷ O.WaitTimeout ∷ O.Timeout
    ∷ O.RecvMarkerReserve ∷ O.RecvMarkerBind ∷ O.RecvMarkerUse ∷ O.RecvMarkerClear ∷ O.BsStartMatch4 ∷ O.BsGetTail
    ∷ O.BsGetPosition ∷ O.BsSetPosition ∷ O.BsCreateBin ∷ []

-- those whose name stands behind `test`
abbrev pub test_opcodes : List Opcode
test_opcodes =
    O.HasMapFields ∷ O.Test TT.IsAtom ∷ O.Test TT.IsInteger ∷ O.Test TT.IsNumber ∷ O.Test TT.IsList
    ∷ O.Test TT.IsNonemptyList ∷ O.Test TT.IsNil ∷ O.Test TT.IsTuple ∷ O.Test TT.IsBinary ∷ O.Test TT.IsBitstr
    ∷ O.Test TT.IsBoolean ∷ O.Test TT.IsFunction ∷ O.Test TT.IsMap ∷ O.Test TT.IsPid ∷ O.Test TT.IsPort
    ∷ O.Test TT.IsReference ∷ O.Compare CT.IsEqExact ∷ O.Compare CT.IsNeExact ∷ O.Compare CT.IsEq ∷ O.Compare CT.IsNe
    ∷ O.Compare CT.IsLt ∷ O.Compare CT.IsGe ∷ O.Compare CT.IsFunction2 ∷ O.TestArity ∷ O.IsTaggedTuple
    ∷ O.BsGetInteger2 ∷ O.BsGetBinary2 ∷ O.BsSkipBits2 ∷ O.BsTestTail2 ∷ O.BsTestUnit ∷ []

-- the first of opcodes with this name
abbrev pub named : List Opcode → Name → Option Opcode
named [] a = None
named (o ∷ os) a = if same_name (opcode_row o).name a then Some o else named os a

-- a label
abbrev pub label_in : List Term → Option Insn
label_in ts = next bare_label_value ts >>= λ l. at_end l.1 >>= λ e. Some (C.label l.0)

-- behind `test`
abbrev pub test_in : List Term → Option Insn
test_in ts = next atom_of ts >>= λ a. named test_opcodes a.0 >>= λ o. insn_by o a.1

-- behind an atom
unfoldable pub insn_named : Name → List Term → Option Insn
insn_named a ts =
    if same_name (codes "label") a then label_in ts else if same_name (codes "test") a then test_in ts
    else named plain_opcodes a >>= λ o. insn_by o ts

-- an atom with terms behind it
abbrev pub insn_in : List Term → Option Insn
insn_in ts = next atom_of ts >>= λ a. first a.1 >>= λ u. insn_named a.0 a.1

-- an atom, or else a tuple
abbrev pub insn_at : Option Name → Term → Option Insn
insn_at (Some a) t = insn_named a []
insn_at None t = elements_of t >>= insn_in

-- the instruction that a term stands for
abbrev pub insn_of : Term → Option Insn
insn_of t = insn_at (atom_of t) t
