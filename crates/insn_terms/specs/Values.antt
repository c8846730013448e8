-- What stands in an instruction, by the kinds of its operands: the values of an opcode's kinds make the instruction.
use Rattle.std.specs.Prelude.{ℕ, List, [], ◌∷◌, length, Option, Some}
use Rattle.erl_base.specs.Names.{Name}
use Rattle.bif_table.specs.Builtins.{lookup}
use Rattle.bif_table.specs.View.{type_view, comparison_view}
use Rattle.term_read.specs.Lexemes.{◌>>=◌}
use Rattle.beam_table.specs.Code as C
use Rattle.beam_table.specs.Code.{Reg, Source, Extern, Flags, Segment, Insn}
use Rattle.beam_table.specs.declared.opcode.Kind.{Kind}
use Rattle.beam_table.specs.declared.opcode.Kind.TheVariants as K
use Rattle.beam_table.specs.declared.opcode.Opcode.{Opcode}
use Rattle.beam_table.specs.declared.opcode.Opcode.TheVariants as O
use Rattle.beam_table.specs.Opcodes.{opcode_row}
use Rattle.beam_table.specs.Operands as P
use Rattle.beam_table.specs.Operands.{Operand, Operands, end, ◌then◌, each, sources, segment, field}

-- what an operand of a kind is
abbrev pub Value : Kind → Type 0
Value K.Source = Source
Value K.Register = Reg
Value K.OwnLabel = ℕ
Value K.EntryLabel = ℕ
Value K.LabelOrZero = Option ℕ
Value K.LabelOrNoFail = Option ℕ
Value K.NoLabel = Unit {0}
Value K.XSlot = ℕ
Value K.YSlot = ℕ
Value K.Live = ℕ
Value K.Arity = ℕ
Value K.Site = ℕ
Value K.Unit = ℕ
Value K.Amount = ℕ
Value K.Zero = Unit {0}
Value K.Function = Name
Value K.Atom = Name
Value K.Extern = Extern
Value K.FieldFlags = Flags
Value K.FlagList = Flags
Value K.Slots = List ℕ
Value K.Sources = List Source
Value K.PutPairs = List (Source × Source)
Value K.GetPairs = List (Source × Reg)
Value K.ValueChoices = List (Source × ℕ)
Value K.SizeChoices = List (ℕ × ℕ)
Value K.Segments = List Segment
Value K.Arguments = List Source
Value K.One = Source
Value K.Two = Source × Source
Value K.Sized = Source × ℕ
Value K.Tagged = Source × (ℕ × Name)
Value K.Field = Reg × (Source × (ℕ × Flags))
Value K.Counted = Reg × ℕ

-- the operand that a value is
abbrev pub operand_from : (k : Kind) → Value k → Operand
operand_from K.Source s = P.source s
operand_from K.Register r = P.register r
operand_from K.OwnLabel l = P.own_label l
operand_from K.EntryLabel l = P.entry_label l
operand_from K.LabelOrZero o = P.label_or_zero o
operand_from K.LabelOrNoFail o = P.label_or_no_fail o
operand_from K.NoLabel v = P.no_label
operand_from K.XSlot n = P.x_slot n
operand_from K.YSlot n = P.y_slot n
operand_from K.Live n = P.live n
operand_from K.Arity n = P.arity n
operand_from K.Site n = P.site n
operand_from K.Unit n = P.unit n
operand_from K.Amount n = P.amount n
operand_from K.Zero v = P.always 0
operand_from K.Function a = P.word a
operand_from K.Atom a = P.atom_operand a
operand_from K.Extern e = P.extfunc e
operand_from K.FieldFlags f = P.field_flags f
operand_from K.FlagList f = P.flag_list f
operand_from K.Slots ns = P.list (each (λ n r. P.y_slot n then r) ns)
operand_from K.Sources ss = P.list (sources ss)
operand_from K.PutPairs ps = P.list (each (λ p r. P.source p.0 then P.source p.1 then r) ps)
operand_from K.GetPairs ps = P.list (each (λ p r. P.source p.0 then P.register p.1 then r) ps)
operand_from K.ValueChoices cs = P.list (each (λ c r. P.source c.0 then P.own_label c.1 then r) cs)
operand_from K.SizeChoices cs = P.list (each (λ c r. P.amount c.0 then P.own_label c.1 then r) cs)
operand_from K.Segments gs = P.list (each segment gs)
operand_from K.Arguments ss = P.items (sources ss)
operand_from K.One s = P.items (P.source s then end)
operand_from K.Two v = P.items (P.source v.0 then P.source v.1 then end)
operand_from K.Sized v = P.items (P.source v.0 then P.amount v.1 then end)
operand_from K.Tagged v = P.items (P.source v.0 then P.amount v.1.0 then P.atom_operand v.1.1 then end)
operand_from K.Field v = P.items (field v.0 v.1.0 v.1.1.0 v.1.1.1)
operand_from K.Counted v = P.items (P.register v.0 then P.amount v.1 then end)

-- values in a row, one of each kind
abbrev pub Values : List Kind → Type 0
Values [] = Unit {0}
Values (k ∷ ks) = Value k × Values ks

-- the operands that they are
abbrev pub operands_from : (ks : List Kind) → Values ks → Operands
operands_from [] vs = end
operands_from (k ∷ ks) vs = operand_from k vs.0 then operands_from ks vs.1

-- the instruction of an opcode with these operands; a function must be listed with as many arguments
abbrev pub insn_from : (o : Opcode) → Values (opcode_row o).kinds → Option Insn
insn_from O.Label v = Some (C.label v.0)
insn_from O.Move v = Some (C.move v.0 v.1.0)
insn_from O.Swap v = Some (C.swap v.0 v.1.0)
insn_from O.InitYregs v = Some (C.init_yregs v.0)
insn_from O.Allocate v = Some (C.allocate v.0 v.1.0)
insn_from O.AllocateHeap v = Some (C.allocate_heap v.0 v.1.0 v.1.1.0)
insn_from O.Deallocate v = Some (C.deallocate v.0)
insn_from O.Trim v = Some (C.trim v.0 v.1.0)
insn_from O.TestHeap v = Some (C.test_heap v.0 v.1.0)
insn_from O.Return v = Some C.return
insn_from O.PutList v = Some (C.put_list v.0 v.1.0 v.1.1.0)
insn_from O.PutTuple2 v = Some (C.put_tuple2 v.0 v.1.0)
insn_from O.MakeFun3 v = Some (C.make_fun3 v.0 v.1.0 v.1.1.1.0 v.1.1.1.1.0)
insn_from O.PutMapAssoc v = Some (C.put_map_assoc v.1.0 v.1.1.0 v.1.1.1.0 v.1.1.1.1.0)
insn_from O.PutMapExact v = Some (C.put_map_exact v.1.0 v.1.1.0 v.1.1.1.0 v.1.1.1.1.0)
insn_from O.GetList v = Some (C.get_list v.0 v.1.0 v.1.1.0)
insn_from O.GetHd v = Some (C.get_hd v.0 v.1.0)
insn_from O.GetTl v = Some (C.get_tl v.0 v.1.0)
insn_from O.GetTupleElement v = Some (C.get_tuple_element v.0 v.1.0 v.1.1.0)
insn_from O.GetMapElements v = Some (C.get_map_elements v.0 v.1.0 v.1.1.0)
insn_from O.HasMapFields v = Some (C.has_map_fields v.0 v.1.0 v.1.1.0)
insn_from O.Jump v = Some (C.jump v.0)
insn_from (O.Test t) v = Some (C.test (type_view t) v.0 v.1.0)
insn_from (O.Compare c) v = Some (C.compares (comparison_view c) v.0 v.1.0.0 v.1.0.1)
insn_from O.TestArity v = Some (C.test_arity v.0 v.1.0.0 v.1.0.1)
insn_from O.IsTaggedTuple v = Some (C.is_tagged_tuple v.0 v.1.0.0 v.1.0.1.0 v.1.0.1.1)
insn_from O.SelectVal v = Some (C.select_val v.0 v.1.0 v.1.1.0)
insn_from O.SelectTupleArity v = Some (C.select_tuple_arity v.0 v.1.0 v.1.1.0)
insn_from O.Bif v = lookup v.0 (length v.1.1.0) >>= λ b. Some (C.bif b v.1.0 v.1.1.0 v.1.1.1.0)
insn_from O.GcBif v = lookup v.0 (length v.1.1.1.0) >>= λ b. Some (C.gc_bif b v.1.0 v.1.1.0 v.1.1.1.0 v.1.1.1.1.0)
insn_from O.Call v = Some (C.call v.0 v.1.0)
insn_from O.CallOnly v = Some (C.call_only v.0 v.1.0)
insn_from O.CallLast v = Some (C.call_last v.0 v.1.0 v.1.1.0)
insn_from O.CallExt v = Some (C.call_ext v.0 v.1.0)
insn_from O.CallExtOnly v = Some (C.call_ext_only v.0 v.1.0)
insn_from O.CallExtLast v = Some (C.call_ext_last v.0 v.1.0 v.1.1.0)
insn_from O.CallFun v = Some (C.call_fun v.0)
insn_from O.Apply v = Some (C.apply v.0)
insn_from O.ApplyLast v = Some (C.apply_last v.0 v.1.0)
insn_from O.Send v = Some C.send
insn_from O.BuildStacktrace v = Some C.build_stacktrace
insn_from O.Raise v = Some (C.raise v.0 v.1.0)
insn_from O.Badmatch v = Some (C.badmatch v.0)
insn_from O.CaseEnd v = Some (C.case_end v.0)
insn_from O.TryCaseEnd v = Some (C.try_case_end v.0)
insn_from O.IfEnd v = Some C.if_end
insn_from O.Try v = Some (C.try v.0 v.1.0)
insn_from O.Catch v = Some (C.catch v.0 v.1.0)
insn_from O.TryEnd v = Some (C.try_end v.0)
insn_from O.TryCase v = Some (C.try_case v.0)
insn_from O.CatchEnd v = Some (C.catch_end v.0)
insn_from O.LoopRec v = Some (C.loop_rec v.0 v.1.0)
insn_from O.RemoveMessage v = Some C.remove_message
insn_from O.LoopRecEnd v = Some (C.loop_rec_end v.0)
insn_from O.Wait v = Some (C.wait v.0)
insn_from O.WaitTimeout v = Some (C.wait_timeout v.0 v.1.0)
insn_from O.Timeout v = Some C.timeout
insn_from O.RecvMarkerReserve v = Some (C.recv_marker_reserve v.0)
insn_from O.RecvMarkerBind v = Some (C.recv_marker_bind v.0 v.1.0)
insn_from O.RecvMarkerUse v = Some (C.recv_marker_use v.0)
insn_from O.RecvMarkerClear v = Some (C.recv_marker_clear v.0)
insn_from O.BsStartMatch4 v = Some (C.bs_start_match4 v.0 v.1.0 v.1.1.0 v.1.1.1.0)
insn_from O.BsGetInteger2 v =
    Some (C.bs_get_integer2 v.0 v.1.0 v.1.1.0.0 v.1.1.0.1.0 v.1.1.0.1.1.0 v.1.1.0.1.1.1 v.1.1.1.0)
insn_from O.BsGetBinary2 v =
    Some (C.bs_get_binary2 v.0 v.1.0 v.1.1.0.0 v.1.1.0.1.0 v.1.1.0.1.1.0 v.1.1.0.1.1.1 v.1.1.1.0)
insn_from O.BsSkipBits2 v = Some (C.bs_skip_bits2 v.0 v.1.0.0 v.1.0.1.0 v.1.0.1.1.0 v.1.0.1.1.1)
insn_from O.BsTestTail2 v = Some (C.bs_test_tail2 v.0 v.1.0.0 v.1.0.1)
insn_from O.BsTestUnit v = Some (C.bs_test_unit v.0 v.1.0.0 v.1.0.1)
insn_from O.BsGetTail v = Some (C.bs_get_tail v.0 v.1.0 v.1.1.0)
insn_from O.BsGetPosition v = Some (C.bs_get_position v.0 v.1.0 v.1.1.0)
insn_from O.BsSetPosition v = Some (C.bs_set_position v.0 v.1.0)
insn_from O.BsCreateBin v = Some (C.bs_create_bin v.0 v.1.1.0 v.1.1.1.0 v.1.1.1.1.0 v.1.1.1.1.1.0)
