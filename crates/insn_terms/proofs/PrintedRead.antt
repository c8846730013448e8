-- The term that is printed of an instruction spells it.
use Rattle.std.proofs.Common.{◌≡◌, refl, [], ◌∷◌, Bool, true, false, Some, IsTrue, codes}
use Rattle.erl_base.specs.Names.{Name}
use Rattle.erl_term.specs.Term as T
use Rattle.erl_term.specs.Terms.{tagged, list_of}
use Rattle.beam_table.specs.Code as C
use Rattle.beam_table.specs.Code.{Source, reg, x_reg, y_reg, Flags, Insn}
use Rattle.beam_table.specs.Operands.{Operand, Operands, operands, source, register, x_slot, y_slot, field_flags, flag_list, items, list, end, ◌then◌}
use Rattle.beam_table.specs.OperandBounds.{insn_ok}
use Rattle.beam_table.specs.InstructionText.{source_term, flag_words, operand_term, operand_terms, form}
use Rattle.insn_terms.specs.Spelling.{SpellsSource, bare, SpellsFlags, words, some_words, SpellsOperand, AreSpelled, Spells}
use Rattle.insn_terms.specs.Reading.{insn_of}
use Rattle.insn_terms.proofs.InsnsRead.{insn_complete}

printed_source : (s : Source) → SpellsSource (source_term s) s
printed_source (reg r) = bare r
printed_source s = refl

printed_flags : (tag : Name) (f : Flags) → SpellsFlags tag (tagged tag (list_of (flag_words f) T.nil)) f
printed_flags tag f = by f.signed f.little
  where
    by : (s l : Bool)
        → SpellsFlags tag (tagged tag (list_of (flag_words (record { signed = s; little = l })) T.nil))
        (record { signed = s; little = l })
    by true true = words (codes "signed" ∷ codes "little" ∷ []) refl
    by true false = words (codes "signed" ∷ codes "big" ∷ []) refl
    by false true = words (codes "unsigned" ∷ codes "little" ∷ []) refl
    by false false = words (codes "unsigned" ∷ codes "big" ∷ []) refl

mutual
  printed_operand : (o : Operand) → SpellsOperand (operand_term o) o
  printed_operand (source s) = printed_source s
  printed_operand (register r) = bare r
  printed_operand (x_slot n) = bare (x_reg n)
  printed_operand (y_slot n) = bare (y_reg n)
  printed_operand (field_flags f) = printed_flags (codes "field_flags") f
  printed_operand (flag_list f) = some_words _ f (printed_flags (codes "literal") f)
  printed_operand (items os) = (operand_terms os, refl, printed_operands os)
  printed_operand (list os) = (operand_terms os, refl, printed_operands os)
  printed_operand o = refl

  printed_operands : (os : Operands) → AreSpelled (operand_terms os) os
  printed_operands end = tt
  printed_operands (o then os) = (printed_operand o, printed_operands os)

printed_spells : (i : Insn) → Spells (form i) i
printed_spells (C.label l) = refl
printed_spells i = record {
  terms = operand_terms (operands i).1;
  form = refl;
  operands = printed_operands (operands i).1;
}

pub printed_is_read : (i : Insn) → IsTrue (insn_ok i) → insn_of (form i) ≡ Some i
printed_is_read i h = insn_complete (form i) i (record { spelled = printed_spells i; bounded = h })
