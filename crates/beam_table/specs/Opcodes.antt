-- The opcodes of instructions, and the kinds of their operands in the text. (Erlang/OTP 25, genop.tab.)
use Rattle.std.specs.Prelude.{List, [], ◌∷◌, Bool, true, false, ◌&&◌, eqb, if◌then◌else◌, codes}
use Rattle.erl_base.specs.Names.{Name, same_name}
use Rattle.bif_table.specs.TermTests.{type_name, comparison_name}
use Rattle.bif_table.specs.View.{type_view, comparison_view}
use Rattle.beam_table.specs.declared.insn.Insn.{Insn}
use Rattle.beam_table.specs.declared.insn.Insn.TheVariants as V
use Rattle.beam_table.specs.declared.opcode.Kind.{Kind}
use Rattle.beam_table.specs.declared.opcode.Kind.TheVariants as K
use Rattle.beam_table.specs.declared.opcode.Opcode.{Opcode}
use Rattle.beam_table.specs.declared.opcode.Opcode.TheVariants as O
use Rattle.beam_table.specs.Operands as P
use Rattle.beam_table.specs.Operands.{Operand, Operands, end, ◌then◌}

-- what the table says of an opcode: its name in the text, whether that stands behind `test`, and the operands that
-- follow
pub record OpcodeRow : Type 0 where
  pub name : Name
  pub is_test : Bool
  pub kinds : List Kind

-- a row whose name comes first
abbrev pub plain_row : Name → List Kind → OpcodeRow
plain_row a ks = record { name = a; is_test = false; kinds = ks }

-- a row whose name stands behind `test`
abbrev pub test_row : Name → List Kind → OpcodeRow
test_row a ks = record { name = a; is_test = true; kinds = ks }

-- the table
abbrev pub opcode_row : Opcode → OpcodeRow
opcode_row O.Label = plain_row (codes "label") (K.OwnLabel ∷ [])
opcode_row O.Move = plain_row (codes "move") (K.Source ∷ K.Register ∷ [])
opcode_row O.Swap = plain_row (codes "swap") (K.Register ∷ K.Register ∷ [])
opcode_row O.InitYregs = plain_row (codes "init_yregs") (K.Slots ∷ [])
opcode_row O.Allocate = plain_row (codes "allocate") (K.Amount ∷ K.Live ∷ [])
opcode_row O.AllocateHeap = plain_row (codes "allocate_heap") (K.Amount ∷ K.Amount ∷ K.Live ∷ [])
opcode_row O.Deallocate = plain_row (codes "deallocate") (K.Amount ∷ [])
opcode_row O.Trim = plain_row (codes "trim") (K.Amount ∷ K.Amount ∷ [])
opcode_row O.TestHeap = plain_row (codes "test_heap") (K.Amount ∷ K.Live ∷ [])
opcode_row O.Return = plain_row (codes "return") []
opcode_row O.PutList = plain_row (codes "put_list") (K.Source ∷ K.Source ∷ K.Register ∷ [])
opcode_row O.PutTuple2 = plain_row (codes "put_tuple2") (K.Register ∷ K.Sources ∷ [])
opcode_row O.MakeFun3 = plain_row (codes "make_fun3") (K.EntryLabel ∷ K.Site ∷ K.Zero ∷ K.Register ∷ K.Sources ∷ [])
opcode_row O.PutMapAssoc =
    plain_row (codes "put_map_assoc") (K.NoLabel ∷ K.Source ∷ K.Register ∷ K.Live ∷ K.PutPairs ∷ [])
opcode_row O.PutMapExact =
    plain_row (codes "put_map_exact") (K.NoLabel ∷ K.Source ∷ K.Register ∷ K.Live ∷ K.PutPairs ∷ [])
opcode_row O.GetList = plain_row (codes "get_list") (K.Source ∷ K.Register ∷ K.Register ∷ [])
opcode_row O.GetHd = plain_row (codes "get_hd") (K.Source ∷ K.Register ∷ [])
opcode_row O.GetTl = plain_row (codes "get_tl") (K.Source ∷ K.Register ∷ [])
opcode_row O.GetTupleElement = plain_row (codes "get_tuple_element") (K.Source ∷ K.Amount ∷ K.Register ∷ [])
opcode_row O.GetMapElements = plain_row (codes "get_map_elements") (K.OwnLabel ∷ K.Source ∷ K.GetPairs ∷ [])
opcode_row O.HasMapFields = test_row (codes "has_map_fields") (K.OwnLabel ∷ K.Source ∷ K.Sources ∷ [])
opcode_row O.Jump = plain_row (codes "jump") (K.OwnLabel ∷ [])
opcode_row (O.Test t) = test_row (type_name (type_view t)) (K.OwnLabel ∷ K.One ∷ [])
opcode_row (O.Compare c) = test_row (comparison_name (comparison_view c)) (K.OwnLabel ∷ K.Two ∷ [])
opcode_row O.TestArity = test_row (codes "test_arity") (K.OwnLabel ∷ K.Sized ∷ [])
opcode_row O.IsTaggedTuple = test_row (codes "is_tagged_tuple") (K.OwnLabel ∷ K.Tagged ∷ [])
opcode_row O.SelectVal = plain_row (codes "select_val") (K.Source ∷ K.OwnLabel ∷ K.ValueChoices ∷ [])
opcode_row O.SelectTupleArity = plain_row (codes "select_tuple_arity") (K.Source ∷ K.OwnLabel ∷ K.SizeChoices ∷ [])
opcode_row O.Bif = plain_row (codes "bif") (K.Function ∷ K.LabelOrZero ∷ K.Arguments ∷ K.Register ∷ [])
opcode_row O.GcBif = plain_row (codes "gc_bif") (K.Function ∷ K.LabelOrZero ∷ K.Live ∷ K.Arguments ∷ K.Register ∷ [])
opcode_row O.Call = plain_row (codes "call") (K.Arity ∷ K.EntryLabel ∷ [])
opcode_row O.CallOnly = plain_row (codes "call_only") (K.Arity ∷ K.EntryLabel ∷ [])
opcode_row O.CallLast = plain_row (codes "call_last") (K.Arity ∷ K.EntryLabel ∷ K.Amount ∷ [])
opcode_row O.CallExt = plain_row (codes "call_ext") (K.Arity ∷ K.Extern ∷ [])
opcode_row O.CallExtOnly = plain_row (codes "call_ext_only") (K.Arity ∷ K.Extern ∷ [])
opcode_row O.CallExtLast = plain_row (codes "call_ext_last") (K.Arity ∷ K.Extern ∷ K.Amount ∷ [])
opcode_row O.CallFun = plain_row (codes "call_fun") (K.Arity ∷ [])
opcode_row O.Apply = plain_row (codes "apply") (K.Arity ∷ [])
opcode_row O.ApplyLast = plain_row (codes "apply_last") (K.Arity ∷ K.Amount ∷ [])
opcode_row O.Send = plain_row (codes "send") []
opcode_row O.BuildStacktrace = plain_row (codes "build_stacktrace") []
opcode_row O.Raise = plain_row (codes "raise") (K.Source ∷ K.Source ∷ [])
opcode_row O.Badmatch = plain_row (codes "badmatch") (K.Source ∷ [])
opcode_row O.CaseEnd = plain_row (codes "case_end") (K.Source ∷ [])
opcode_row O.TryCaseEnd = plain_row (codes "try_case_end") (K.Source ∷ [])
opcode_row O.IfEnd = plain_row (codes "if_end") []
opcode_row O.Try = plain_row (codes "try") (K.YSlot ∷ K.OwnLabel ∷ [])
opcode_row O.Catch = plain_row (codes "catch") (K.YSlot ∷ K.OwnLabel ∷ [])
opcode_row O.TryEnd = plain_row (codes "try_end") (K.YSlot ∷ [])
opcode_row O.TryCase = plain_row (codes "try_case") (K.YSlot ∷ [])
opcode_row O.CatchEnd = plain_row (codes "catch_end") (K.YSlot ∷ [])
opcode_row O.LoopRec = plain_row (codes "loop_rec") (K.OwnLabel ∷ K.XSlot ∷ [])
opcode_row O.RemoveMessage = plain_row (codes "remove_message") []
opcode_row O.LoopRecEnd = plain_row (codes "loop_rec_end") (K.OwnLabel ∷ [])
opcode_row O.Wait = plain_row (codes "wait") (K.OwnLabel ∷ [])
opcode_row O.WaitTimeout = plain_row (codes "wait_timeout") (K.OwnLabel ∷ K.Source ∷ [])
opcode_row O.Timeout = plain_row (codes "timeout") []
opcode_row O.RecvMarkerReserve = plain_row (codes "recv_marker_reserve") (K.Register ∷ [])
opcode_row O.RecvMarkerBind = plain_row (codes "recv_marker_bind") (K.Register ∷ K.Source ∷ [])
opcode_row O.RecvMarkerUse = plain_row (codes "recv_marker_use") (K.Source ∷ [])
opcode_row O.RecvMarkerClear = plain_row (codes "recv_marker_clear") (K.Source ∷ [])
opcode_row O.BsStartMatch4 = plain_row (codes "bs_start_match4") (K.LabelOrNoFail ∷ K.Live ∷ K.Source ∷ K.Register ∷ [])
opcode_row O.BsGetInteger2 = test_row (codes "bs_get_integer2") (K.OwnLabel ∷ K.Live ∷ K.Field ∷ K.Register ∷ [])
opcode_row O.BsGetBinary2 = test_row (codes "bs_get_binary2") (K.OwnLabel ∷ K.Live ∷ K.Field ∷ K.Register ∷ [])
opcode_row O.BsSkipBits2 = test_row (codes "bs_skip_bits2") (K.OwnLabel ∷ K.Field ∷ [])
opcode_row O.BsTestTail2 = test_row (codes "bs_test_tail2") (K.OwnLabel ∷ K.Counted ∷ [])
opcode_row O.BsTestUnit = test_row (codes "bs_test_unit") (K.OwnLabel ∷ K.Counted ∷ [])
opcode_row O.BsGetTail = plain_row (codes "bs_get_tail") (K.Register ∷ K.Register ∷ K.Live ∷ [])
opcode_row O.BsGetPosition = plain_row (codes "bs_get_position") (K.Register ∷ K.Register ∷ K.Live ∷ [])
opcode_row O.BsSetPosition = plain_row (codes "bs_set_position") (K.Register ∷ K.Register ∷ [])
opcode_row O.BsCreateBin =
    plain_row (codes "bs_create_bin") (K.LabelOrZero ∷ K.Zero ∷ K.Live ∷ K.Amount ∷ K.Register ∷ K.Segments ∷ [])

-- an instruction's opcode
abbrev pub opcode_of : Insn → Opcode
opcode_of (V.Label l) = O.Label
opcode_of (V.Move s d) = O.Move
opcode_of (V.Swap r s) = O.Swap
opcode_of (V.InitYregs ns) = O.InitYregs
opcode_of (V.Allocate n k) = O.Allocate
opcode_of (V.AllocateHeap n w k) = O.AllocateHeap
opcode_of (V.Deallocate n) = O.Deallocate
opcode_of (V.Trim n r) = O.Trim
opcode_of (V.TestHeap w k) = O.TestHeap
opcode_of V.Return = O.Return
opcode_of (V.PutList s r d) = O.PutList
opcode_of (V.PutTuple2 d ss) = O.PutTuple2
opcode_of (V.MakeFun3 l s d ss) = O.MakeFun3
opcode_of (V.PutMapAssoc s d k ps) = O.PutMapAssoc
opcode_of (V.PutMapExact s d k ps) = O.PutMapExact
opcode_of (V.GetList s d e) = O.GetList
opcode_of (V.GetHd s d) = O.GetHd
opcode_of (V.GetTl s d) = O.GetTl
opcode_of (V.GetTupleElement s n d) = O.GetTupleElement
opcode_of (V.GetMapElements l s ps) = O.GetMapElements
opcode_of (V.HasMapFields l s ss) = O.HasMapFields
opcode_of (V.Jump l) = O.Jump
opcode_of (V.Test t l s) = O.Test t
opcode_of (V.Compare c l r s) = O.Compare c
opcode_of (V.TestArity l s n) = O.TestArity
opcode_of (V.IsTaggedTuple l s n a) = O.IsTaggedTuple
opcode_of (V.SelectVal s l cs) = O.SelectVal
opcode_of (V.SelectTupleArity s l cs) = O.SelectTupleArity
opcode_of (V.Bif b l ss d) = O.Bif
opcode_of (V.GcBif b l k ss d) = O.GcBif
opcode_of (V.Call n l) = O.Call
opcode_of (V.CallOnly n l) = O.CallOnly
opcode_of (V.CallLast n l k) = O.CallLast
opcode_of (V.CallExt n e) = O.CallExt
opcode_of (V.CallExtOnly n e) = O.CallExtOnly
opcode_of (V.CallExtLast n e k) = O.CallExtLast
opcode_of (V.CallFun n) = O.CallFun
opcode_of (V.Apply n) = O.Apply
opcode_of (V.ApplyLast n k) = O.ApplyLast
opcode_of V.Send = O.Send
opcode_of V.BuildStacktrace = O.BuildStacktrace
opcode_of (V.Raise s r) = O.Raise
opcode_of (V.Badmatch s) = O.Badmatch
opcode_of (V.CaseEnd s) = O.CaseEnd
opcode_of (V.TryCaseEnd s) = O.TryCaseEnd
opcode_of V.IfEnd = O.IfEnd
opcode_of (V.Try n l) = O.Try
opcode_of (V.Catch n l) = O.Catch
opcode_of (V.TryEnd n) = O.TryEnd
opcode_of (V.TryCase n) = O.TryCase
opcode_of (V.CatchEnd n) = O.CatchEnd
opcode_of (V.LoopRec l n) = O.LoopRec
opcode_of V.RemoveMessage = O.RemoveMessage
opcode_of (V.LoopRecEnd l) = O.LoopRecEnd
opcode_of (V.Wait l) = O.Wait
opcode_of (V.WaitTimeout l s) = O.WaitTimeout
opcode_of V.Timeout = O.Timeout
opcode_of (V.RecvMarkerReserve d) = O.RecvMarkerReserve
opcode_of (V.RecvMarkerBind d s) = O.RecvMarkerBind
opcode_of (V.RecvMarkerUse s) = O.RecvMarkerUse
opcode_of (V.RecvMarkerClear s) = O.RecvMarkerClear
opcode_of (V.BsStartMatch4 l k s d) = O.BsStartMatch4
opcode_of (V.BsGetInteger2 l k c s u f d) = O.BsGetInteger2
opcode_of (V.BsGetBinary2 l k c s u f d) = O.BsGetBinary2
opcode_of (V.BsSkipBits2 l c s u f) = O.BsSkipBits2
opcode_of (V.BsTestTail2 l c n) = O.BsTestTail2
opcode_of (V.BsTestUnit l c n) = O.BsTestUnit
opcode_of (V.BsGetTail c d k) = O.BsGetTail
opcode_of (V.BsGetPosition c d k) = O.BsGetPosition
opcode_of (V.BsSetPosition c p) = O.BsSetPosition
opcode_of (V.BsCreateBin l k u d gs) = O.BsCreateBin

-- the kinds of the operands inside one that is a list
abbrev pub inner : Kind → List Kind
inner K.Slots = K.YSlot ∷ []
inner K.Sources = K.Source ∷ []
inner K.PutPairs = K.Source ∷ K.Source ∷ []
inner K.GetPairs = K.Source ∷ K.Register ∷ []
inner K.ValueChoices = K.Source ∷ K.OwnLabel ∷ []
inner K.SizeChoices = K.Amount ∷ K.OwnLabel ∷ []
inner K.Segments = K.Atom ∷ K.Amount ∷ K.Unit ∷ K.FlagList ∷ K.Source ∷ K.Source ∷ []
inner K.Arguments = K.Source ∷ []
inner K.One = K.Source ∷ []
inner K.Two = K.Source ∷ K.Source ∷ []
inner K.Sized = K.Source ∷ K.Amount ∷ []
inner K.Tagged = K.Source ∷ K.Amount ∷ K.Atom ∷ []
inner K.Field = K.Register ∷ K.Source ∷ K.Amount ∷ K.FieldFlags ∷ []
inner K.Counted = K.Register ∷ K.Amount ∷ []
inner _ = []

-- an operand of a kind that is no list
abbrev pub is_single : Kind → Operand → Bool
is_single K.Source (P.source s) = true
is_single K.Register (P.register r) = true
is_single K.OwnLabel (P.own_label l) = true
is_single K.EntryLabel (P.entry_label l) = true
is_single K.LabelOrZero (P.label_or_zero o) = true
is_single K.LabelOrNoFail (P.label_or_no_fail o) = true
is_single K.NoLabel P.no_label = true
is_single K.XSlot (P.x_slot n) = true
is_single K.YSlot (P.y_slot n) = true
is_single K.Live (P.live n) = true
is_single K.Arity (P.arity n) = true
is_single K.Site (P.site n) = true
is_single K.Unit (P.unit n) = true
is_single K.Amount (P.amount n) = true
is_single K.Zero (P.always n) = eqb n 0
is_single K.Function (P.word a) = true
is_single K.Atom (P.atom_operand a) = true
is_single K.Extern (P.extfunc e) = true
is_single K.FieldFlags (P.field_flags f) = true
is_single K.FlagList (P.flag_list f) = true
is_single k o = false

-- these kinds, once
abbrev pub come_once : List Kind → Operands → Bool
come_once [] end = true
come_once (k ∷ ks) (o then os) = is_single k o && come_once ks os
come_once _ _ = false

-- of these kinds in turn, any number of times, those that are left of one time first
abbrev pub come_again : (all left : List Kind) → Operands → Bool
come_again all [] end = true
come_again (k ∷ ks) [] (o then os) = is_single k o && come_again (k ∷ ks) ks os
come_again all (k ∷ ks) (o then os) = is_single k o && come_again all ks os
come_again _ _ _ = false

-- an operand of a kind
abbrev pub is_of : Kind → Operand → Bool
is_of K.Slots (P.list os) = come_again (inner K.Slots) [] os
is_of K.Sources (P.list os) = come_again (inner K.Sources) [] os
is_of K.PutPairs (P.list os) = come_again (inner K.PutPairs) [] os
is_of K.GetPairs (P.list os) = come_again (inner K.GetPairs) [] os
is_of K.ValueChoices (P.list os) = come_again (inner K.ValueChoices) [] os
is_of K.SizeChoices (P.list os) = come_again (inner K.SizeChoices) [] os
is_of K.Segments (P.list os) = come_again (inner K.Segments) [] os
is_of K.Arguments (P.items os) = come_again (inner K.Arguments) [] os
is_of K.One (P.items os) = come_once (inner K.One) os
is_of K.Two (P.items os) = come_once (inner K.Two) os
is_of K.Sized (P.items os) = come_once (inner K.Sized) os
is_of K.Tagged (P.items os) = come_once (inner K.Tagged) os
is_of K.Field (P.items os) = come_once (inner K.Field) os
is_of K.Counted (P.items os) = come_once (inner K.Counted) os
is_of k o = is_single k o

-- operands of these kinds
abbrev pub are_of : List Kind → Operands → Bool
are_of [] end = true
are_of (k ∷ ks) (o then os) = is_of k o && are_of ks os
are_of _ _ = false

-- behind the word of a test
abbrev pub is_behind : Name → List Kind → Operands → Bool
is_behind a ks (P.word b then os) = same_name a b && are_of ks os
is_behind a ks _ = false

-- whether a row has this name and these operands
abbrev pub has_row : OpcodeRow → Name → Operands → Bool
has_row r a os =
    if r.is_test then same_name a (codes "test") && is_behind r.name r.kinds os
    else same_name a r.name && are_of r.kinds os
