-- The plain module that an `AsmModule` of the program stands for.
use Rattle.std.specs.Prelude.{Bool, true, false, ℕ, map, Option, Some, None}
use Rattle.erl_base.specs.declared.ids.LabelId.{LabelId}
use Rattle.erl_term.specs.View.{view, attribute_view}
use Rattle.bif_table.specs.View.{bif_view, type_view, comparison_view}
use Rattle.beam_table.specs.declared.operand.Reg.{Reg}
use Rattle.beam_table.specs.declared.operand.Reg.TheVariants as R
use Rattle.beam_table.specs.declared.operand.Source.{Source}
use Rattle.beam_table.specs.declared.operand.Source.TheVariants as S
use Rattle.beam_table.specs.declared.operand.SegmentKind.{SegmentKind}
use Rattle.beam_table.specs.declared.operand.SegmentKind.TheVariants as SK
use Rattle.beam_table.specs.declared.operand.Extern.{Extern}
use Rattle.beam_table.specs.declared.operand.Flags.{Flags}
use Rattle.beam_table.specs.declared.operand.Segment.{Segment}
use Rattle.beam_table.specs.declared.operand.PutPair.{PutPair}
use Rattle.beam_table.specs.declared.operand.GetPair.{GetPair}
use Rattle.beam_table.specs.declared.operand.ValueChoice.{ValueChoice}
use Rattle.beam_table.specs.declared.operand.SizeChoice.{SizeChoice}
use Rattle.beam_table.specs.declared.insn.Insn.{Insn}
use Rattle.beam_table.specs.declared.insn.Insn.TheVariants as V
use Rattle.beam_table.specs.declared.asm.AsmFun.{AsmFun}
use Rattle.beam_table.specs.declared.asm.AsmModule.{AsmModule}
use Rattle.beam_table.specs.Code as Plain

-- registers
abbrev pub reg_view : Reg → Plain.Reg
reg_view (R.X n) = Plain.x_reg n
reg_view (R.Y n) = Plain.y_reg n

-- operands that are read
abbrev pub source_view : Source → Plain.Source
source_view (S.Reg r) = Plain.reg (reg_view r)
source_view (S.Atom a) = Plain.atom (a)
source_view (S.Integer z) = Plain.integer z
source_view S.Nil = Plain.nil
source_view (S.Literal t) = Plain.literal (view t)

-- the type of a segment
abbrev pub is_binary : SegmentKind → Bool
is_binary SK.Integer = false
is_binary SK.Binary = true

-- functions of any module
abbrev pub extern_view : Extern → Plain.Extern
extern_view e = record { mod_name = e.«module»; name = e.name; arity = e.arity }

-- how bits are read
abbrev pub flags_view : Flags → Plain.Flags
flags_view f = record { signed = f.signed; little = f.little }

-- segments that are built
abbrev pub segment_view : Segment → Plain.Segment
segment_view g =
    record {
      is_binary = is_binary g.kind;
      number = g.number;
      unit = g.unit;
      flags = flags_view g.flags;
      value = source_view g.value;
      size = source_view g.size;
    }

-- labels that may be missing
abbrev pub label_view : Option LabelId → Option ℕ
label_view None = None
label_view (Some l) = Some l.0

-- pairs that are put
abbrev pub put_view : PutPair → Plain.Source × Plain.Source
put_view p = (source_view p.key, source_view p.value)

-- keys with registers
abbrev pub get_view : GetPair → Plain.Source × Plain.Reg
get_view p = (source_view p.key, reg_view p.to)

-- values with labels
abbrev pub choice_view : ValueChoice → Plain.Source × ℕ
choice_view c = (source_view c.value, c.label.0)

-- sizes with labels
abbrev pub size_choice_view : SizeChoice → ℕ × ℕ
size_choice_view c = (c.size, c.label.0)

-- instructions
abbrev pub insn_view : Insn → Plain.Insn
insn_view (V.Label l) = Plain.label l.0
insn_view (V.Move s d) = Plain.move (source_view s) (reg_view d)
insn_view (V.Swap r s) = Plain.swap (reg_view r) (reg_view s)
insn_view (V.InitYregs ns) = Plain.init_yregs ns
insn_view (V.Allocate n k) = Plain.allocate n k
insn_view (V.AllocateHeap n w k) = Plain.allocate_heap n w k
insn_view (V.Deallocate n) = Plain.deallocate n
insn_view (V.Trim n r) = Plain.trim n r
insn_view (V.TestHeap w k) = Plain.test_heap w k
insn_view V.Return = Plain.return
insn_view (V.PutList s r d) = Plain.put_list (source_view s) (source_view r) (reg_view d)
insn_view (V.PutTuple2 d ss) = Plain.put_tuple2 (reg_view d) (map source_view ss)
insn_view (V.MakeFun3 l s d ss) = Plain.make_fun3 l.0 s.0 (reg_view d) (map source_view ss)
insn_view (V.PutMapAssoc s d k ps) = Plain.put_map_assoc (source_view s) (reg_view d) k (map put_view ps)
insn_view (V.PutMapExact s d k ps) = Plain.put_map_exact (source_view s) (reg_view d) k (map put_view ps)
insn_view (V.GetList s d e) = Plain.get_list (source_view s) (reg_view d) (reg_view e)
insn_view (V.GetHd s d) = Plain.get_hd (source_view s) (reg_view d)
insn_view (V.GetTl s d) = Plain.get_tl (source_view s) (reg_view d)
insn_view (V.GetTupleElement s n d) = Plain.get_tuple_element (source_view s) n (reg_view d)
insn_view (V.GetMapElements l s ps) = Plain.get_map_elements l.0 (source_view s) (map get_view ps)
insn_view (V.HasMapFields l s ss) = Plain.has_map_fields l.0 (source_view s) (map source_view ss)
insn_view (V.Jump l) = Plain.jump l.0
insn_view (V.Test t l s) = Plain.test (type_view t) l.0 (source_view s)
insn_view (V.Compare t l r s) = Plain.compares (comparison_view t) l.0 (source_view r) (source_view s)
insn_view (V.TestArity l s n) = Plain.test_arity l.0 (source_view s) n
insn_view (V.IsTaggedTuple l s n a) = Plain.is_tagged_tuple l.0 (source_view s) n (a)
insn_view (V.SelectVal s l cs) = Plain.select_val (source_view s) l.0 (map choice_view cs)
insn_view (V.SelectTupleArity s l cs) = Plain.select_tuple_arity (source_view s) l.0 (map size_choice_view cs)
insn_view (V.Bif b l ss d) = Plain.bif (bif_view b) (label_view l) (map source_view ss) (reg_view d)
insn_view (V.GcBif b l k ss d) = Plain.gc_bif (bif_view b) (label_view l) k (map source_view ss) (reg_view d)
insn_view (V.Call n l) = Plain.call n l.0
insn_view (V.CallOnly n l) = Plain.call_only n l.0
insn_view (V.CallLast n l k) = Plain.call_last n l.0 k
insn_view (V.CallExt n e) = Plain.call_ext n (extern_view e)
insn_view (V.CallExtOnly n e) = Plain.call_ext_only n (extern_view e)
insn_view (V.CallExtLast n e k) = Plain.call_ext_last n (extern_view e) k
insn_view (V.CallFun n) = Plain.call_fun n
insn_view (V.Apply n) = Plain.apply n
insn_view (V.ApplyLast n k) = Plain.apply_last n k
insn_view V.Send = Plain.send
insn_view V.BuildStacktrace = Plain.build_stacktrace
insn_view (V.Raise s r) = Plain.raise (source_view s) (source_view r)
insn_view (V.Badmatch s) = Plain.badmatch (source_view s)
insn_view (V.CaseEnd s) = Plain.case_end (source_view s)
insn_view (V.TryCaseEnd s) = Plain.try_case_end (source_view s)
insn_view V.IfEnd = Plain.if_end
insn_view (V.Try n l) = Plain.try n l.0
insn_view (V.Catch n l) = Plain.catch n l.0
insn_view (V.TryEnd n) = Plain.try_end n
insn_view (V.TryCase n) = Plain.try_case n
insn_view (V.CatchEnd n) = Plain.catch_end n
insn_view (V.LoopRec l n) = Plain.loop_rec l.0 n
insn_view V.RemoveMessage = Plain.remove_message
insn_view (V.LoopRecEnd l) = Plain.loop_rec_end l.0
insn_view (V.Wait l) = Plain.wait l.0
insn_view (V.WaitTimeout l s) = Plain.wait_timeout l.0 (source_view s)
insn_view V.Timeout = Plain.timeout
insn_view (V.RecvMarkerReserve d) = Plain.recv_marker_reserve (reg_view d)
insn_view (V.RecvMarkerBind d s) = Plain.recv_marker_bind (reg_view d) (source_view s)
insn_view (V.RecvMarkerUse s) = Plain.recv_marker_use (source_view s)
insn_view (V.RecvMarkerClear s) = Plain.recv_marker_clear (source_view s)
insn_view (V.BsStartMatch4 l k s d) = Plain.bs_start_match4 (label_view l) k (source_view s) (reg_view d)
insn_view (V.BsGetInteger2 l k c s u f d) =
    Plain.bs_get_integer2 l.0 k (reg_view c) (source_view s) u (flags_view f) (reg_view d)
insn_view (V.BsGetBinary2 l k c s u f d) =
    Plain.bs_get_binary2 l.0 k (reg_view c) (source_view s) u (flags_view f) (reg_view d)
insn_view (V.BsSkipBits2 l c s u f) = Plain.bs_skip_bits2 l.0 (reg_view c) (source_view s) u (flags_view f)
insn_view (V.BsTestTail2 l c n) = Plain.bs_test_tail2 l.0 (reg_view c) n
insn_view (V.BsTestUnit l c n) = Plain.bs_test_unit l.0 (reg_view c) n
insn_view (V.BsGetTail c d k) = Plain.bs_get_tail (reg_view c) (reg_view d) k
insn_view (V.BsGetPosition c d k) = Plain.bs_get_position (reg_view c) (reg_view d) k
insn_view (V.BsSetPosition c p) = Plain.bs_set_position (reg_view c) (reg_view p)
insn_view (V.BsCreateBin l k u d gs) = Plain.bs_create_bin (label_view l) k u (reg_view d) (map segment_view gs)

-- functions
abbrev pub fun_view : AsmFun → Plain.AsmFun
fun_view f = record { key = f.key; info = f.info.0; entry = f.entry.0; code = map insn_view f.code }

-- modules
abbrev pub module_view : AsmModule → Plain.AsmModule
module_view m = record {
  name = m.name;
  exports = m.exports;
  attributes = map attribute_view m.attributes;
  funs = map fun_view m.funs;
}
