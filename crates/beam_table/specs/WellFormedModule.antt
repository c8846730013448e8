-- The terms that a module holds are well formed: so each plain term has one value, and maps have rising keys.
use Rattle.std.specs.Prelude.{List, [], ◌∷◌, map, flat_map, Contains}
use Rattle.erl_term.specs.WellFormed.{IsWellFormed}
use Rattle.erl_term.specs.declared.term.Term.{Term}
use Rattle.erl_term.specs.declared.term.Attribute.{Attribute}
use Rattle.beam_table.specs.declared.operand.Source.{Source}
use Rattle.beam_table.specs.declared.operand.Source.TheVariants.{Literal}
use Rattle.beam_table.specs.declared.operand.Segment.{Segment}
use Rattle.beam_table.specs.declared.operand.PutPair.{PutPair}
use Rattle.beam_table.specs.declared.insn.Insn.{Insn}
use Rattle.beam_table.specs.declared.insn.Insn.TheVariants as V
use Rattle.beam_table.specs.declared.asm.AsmFun.{AsmFun}
use Rattle.beam_table.specs.declared.asm.AsmModule.{AsmModule}

-- of pairs that are put
abbrev pub put_sources : List PutPair → List Source
put_sources ps = flat_map (λ p. p.key ∷ p.value ∷ []) ps

-- of segments that are built
abbrev pub segment_sources : List Segment → List Source
segment_sources gs = flat_map (λ g. g.value ∷ g.size ∷ []) gs

-- what an instruction reads; the others read registers alone
abbrev pub sources_in : Insn → List Source
sources_in (V.Move s d) = s ∷ []
sources_in (V.PutList s r d) = s ∷ r ∷ []
sources_in (V.PutTuple2 d ss) = ss
sources_in (V.MakeFun3 l n d ss) = ss
sources_in (V.PutMapAssoc s d k ps) = s ∷ put_sources ps
sources_in (V.PutMapExact s d k ps) = s ∷ put_sources ps
sources_in (V.GetList s d e) = s ∷ []
sources_in (V.GetHd s d) = s ∷ []
sources_in (V.GetTl s d) = s ∷ []
sources_in (V.GetTupleElement s n d) = s ∷ []
sources_in (V.GetMapElements l s ps) = s ∷ map (λ p. p.key) ps
sources_in (V.HasMapFields l s ss) = s ∷ ss
sources_in (V.Test t l s) = s ∷ []
sources_in (V.Compare t l r s) = r ∷ s ∷ []
sources_in (V.TestArity l s n) = s ∷ []
sources_in (V.IsTaggedTuple l s n a) = s ∷ []
sources_in (V.SelectVal s l cs) = s ∷ map (λ c. c.value) cs
sources_in (V.SelectTupleArity s l cs) = s ∷ []
sources_in (V.Bif b l ss d) = ss
sources_in (V.GcBif b l k ss d) = ss
sources_in (V.Raise s r) = s ∷ r ∷ []
sources_in (V.Badmatch s) = s ∷ []
sources_in (V.CaseEnd s) = s ∷ []
sources_in (V.TryCaseEnd s) = s ∷ []
sources_in (V.WaitTimeout l s) = s ∷ []
sources_in (V.RecvMarkerBind d s) = s ∷ []
sources_in (V.RecvMarkerUse s) = s ∷ []
sources_in (V.RecvMarkerClear s) = s ∷ []
sources_in (V.BsStartMatch4 l k s d) = s ∷ []
sources_in (V.BsGetInteger2 l k c s u f d) = s ∷ []
sources_in (V.BsGetBinary2 l k c s u f d) = s ∷ []
sources_in (V.BsSkipBits2 l c s u f) = s ∷ []
sources_in (V.BsCreateBin l k u d gs) = segment_sources gs
sources_in _ = []

-- the literals of the code, and the attributes' values
pub record IsWellFormedModule (a : AsmModule) : Type 0 where
  pub literals : (f : AsmFun) (i : Insn) (t : Term) → Contains a.funs f → Contains f.code i
      → Contains (sources_in i) (Literal t) → IsWellFormed t
  pub attributes : (p : Attribute) → Contains a.attributes p → IsWellFormed p.value
