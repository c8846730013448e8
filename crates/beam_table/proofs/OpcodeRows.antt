-- The operands of each instruction are of the kinds that the table of opcodes has.
use Rattle.std.proofs.Common.{◌≡◌, List, [], ◌∷◌, Bool, true, ◌&&◌, IsTrue, map, refl, ap, ◌∙◌}
use Rattle.erl_base.specs.Names.{same_name}
use Rattle.bif_table.specs.declared.term_test.TypeTest.{TypeTest}
use Rattle.bif_table.specs.declared.term_test.TypeTest.TheVariants as TT
use Rattle.bif_table.specs.declared.term_test.Comparison.{Comparison}
use Rattle.bif_table.specs.declared.term_test.Comparison.TheVariants as CT
use Rattle.bif_table.specs.TermTests.{type_name, comparison_name}
use Rattle.bif_table.specs.View.{type_view, comparison_view}
use Rattle.beam_table.specs.declared.insn.Insn.{Insn}
use Rattle.beam_table.specs.declared.insn.Insn.TheVariants as V
use Rattle.beam_table.specs.declared.opcode.Kind.{Kind}
use Rattle.beam_table.specs.declared.opcode.Kind.TheVariants as K
use Rattle.beam_table.specs.Operands.{Operands, operands, each}
use Rattle.beam_table.specs.Opcodes.{opcode_row, opcode_of, has_row, come_again, inner}
use Rattle.beam_table.specs.View.{insn_view, source_view, put_view, get_view, choice_view, size_choice_view, segment_view}

and_true : (b : Bool) → b ≡ true → (b && true) ≡ true
and_true b e = ap (λ c. c && true) e

-- operands that each item gives are of the kinds that one item gives
each_again : {A : Type 0} (ks : List Kind) (f : A → Operands → Operands)
    → ((a : A) (r : Operands) → come_again ks [] (f a r) ≡ come_again ks [] r) → (as' : List A)
    → come_again ks [] (each f as') ≡ true
each_again ks f h [] = refl
each_again ks f h (a ∷ as') = h a (each f as') ∙ each_again ks f h as'

listed : {A : Type 0} (k : Kind) (f : A → Operands → Operands)
    → ((a : A) (r : Operands) → come_again (inner k) [] (f a r) ≡ come_again (inner k) [] r) → (as' : List A)
    → (come_again (inner k) [] (each f as') && true) ≡ true
listed k f h as' = and_true _ (each_again (inner k) f h as')

type_named : (t : TypeTest) → same_name (type_name (type_view t)) (type_name (type_view t)) ≡ true
type_named TT.IsAtom = refl
type_named t = refl

comparison_named : (c : Comparison)
    → same_name (comparison_name (comparison_view c)) (comparison_name (comparison_view c)) ≡ true
comparison_named CT.IsEq = refl
comparison_named c = refl

pub has_its_row : (i : Insn)
    → IsTrue (has_row (opcode_row (opcode_of i)) (operands (insn_view i)).0 (operands (insn_view i)).1)
has_its_row (V.InitYregs ns) = listed K.Slots _ (λ a r. refl) ns
has_its_row (V.PutTuple2 d ss) = listed K.Sources _ (λ a r. refl) (map source_view ss)
has_its_row (V.MakeFun3 l s d ss) = listed K.Sources _ (λ a r. refl) (map source_view ss)
has_its_row (V.PutMapAssoc s d k ps) = listed K.PutPairs _ (λ a r. refl) (map put_view ps)
has_its_row (V.PutMapExact s d k ps) = listed K.PutPairs _ (λ a r. refl) (map put_view ps)
has_its_row (V.GetMapElements l s ps) = listed K.GetPairs _ (λ a r. refl) (map get_view ps)
has_its_row (V.HasMapFields l s ss) = listed K.Sources _ (λ a r. refl) (map source_view ss)
has_its_row (V.Test t l s) = and_true _ (type_named t)
has_its_row (V.Compare c l r s) = and_true _ (comparison_named c)
has_its_row (V.SelectVal s l cs) = listed K.ValueChoices _ (λ a r. refl) (map choice_view cs)
has_its_row (V.SelectTupleArity s l cs) = listed K.SizeChoices _ (λ a r. refl) (map size_choice_view cs)
has_its_row (V.Bif b l ss d) = listed K.Arguments _ (λ a r. refl) (map source_view ss)
has_its_row (V.GcBif b l k ss d) = listed K.Arguments _ (λ a r. refl) (map source_view ss)
has_its_row (V.BsCreateBin l k u d gs) = listed K.Segments _ (λ a r. refl) (map segment_view gs)
has_its_row (V.Label l) = refl
has_its_row i = refl
