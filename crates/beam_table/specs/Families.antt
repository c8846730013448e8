-- The family of each instruction. A function over all instructions is one function for each family.
use Rattle.beam_table.specs.declared.insn.Insn.{Insn}
use Rattle.beam_table.specs.declared.insn.Insn.TheVariants as V
use Rattle.beam_table.specs.declared.family.Family.{Family}
use Rattle.beam_table.specs.declared.family.Family.TheVariants as F

-- an instruction's family
abbrev pub family : Insn → Family
family (V.Label l) = F.Frames
family (V.Move s d) = F.Frames
family (V.Swap r s) = F.Frames
family (V.InitYregs ns) = F.Frames
family (V.Allocate n k) = F.Frames
family (V.AllocateHeap n w k) = F.Frames
family (V.Deallocate n) = F.Frames
family (V.Trim n r) = F.Frames
family (V.TestHeap w k) = F.Frames
family (V.PutList s r d) = F.Building
family (V.PutTuple2 d ss) = F.Building
family (V.MakeFun3 l s d ss) = F.Building
family (V.PutMapAssoc s d k ps) = F.Building
family (V.PutMapExact s d k ps) = F.Building
family (V.GetList s d e) = F.TakingApart
family (V.GetHd s d) = F.TakingApart
family (V.GetTl s d) = F.TakingApart
family (V.GetTupleElement s n d) = F.TakingApart
family (V.GetMapElements l s ps) = F.TakingApart
family (V.HasMapFields l s ss) = F.Tests
family (V.Jump l) = F.Tests
family (V.Test t l s) = F.Tests
family (V.Compare t l r s) = F.Tests
family (V.TestArity l s n) = F.Tests
family (V.IsTaggedTuple l s n a) = F.Tests
family (V.SelectVal s l cs) = F.Choices
family (V.SelectTupleArity s l cs) = F.Choices
family (V.Bif b l ss d) = F.Choices
family (V.GcBif b l k ss d) = F.Choices
family V.Return = F.Calls
family (V.Call n l) = F.Calls
family (V.CallOnly n l) = F.Calls
family (V.CallLast n l k) = F.Calls
family (V.CallExt n e) = F.Calls
family (V.CallExtOnly n e) = F.Calls
family (V.CallExtLast n e k) = F.Calls
family (V.CallFun n) = F.Calls
family (V.Apply n) = F.Calls
family (V.ApplyLast n k) = F.Calls
family V.Send = F.Calls
family V.BuildStacktrace = F.Handlers
family (V.Raise s r) = F.Handlers
family (V.Badmatch s) = F.Handlers
family (V.CaseEnd s) = F.Handlers
family (V.TryCaseEnd s) = F.Handlers
family V.IfEnd = F.Handlers
family (V.Try n l) = F.Handlers
family (V.Catch n l) = F.Handlers
family (V.TryEnd n) = F.Handlers
family (V.TryCase n) = F.Handlers
family (V.CatchEnd n) = F.Handlers
family (V.LoopRec l n) = F.Receives
family V.RemoveMessage = F.Receives
family (V.LoopRecEnd l) = F.Receives
family (V.Wait l) = F.Receives
family (V.WaitTimeout l s) = F.Receives
family V.Timeout = F.Receives
family (V.RecvMarkerReserve d) = F.Receives
family (V.RecvMarkerBind d s) = F.Receives
family (V.RecvMarkerUse s) = F.Receives
family (V.RecvMarkerClear s) = F.Receives
family (V.BsStartMatch4 l k s d) = F.Contexts
family (V.BsGetInteger2 l k c s u f d) = F.Segments
family (V.BsGetBinary2 l k c s u f d) = F.Segments
family (V.BsSkipBits2 l c s u f) = F.Segments
family (V.BsTestTail2 l c n) = F.Contexts
family (V.BsTestUnit l c n) = F.Contexts
family (V.BsGetTail c d k) = F.Contexts
family (V.BsGetPosition c d k) = F.Contexts
family (V.BsSetPosition c p) = F.Contexts
family (V.BsCreateBin l k u d gs) = F.Segments
