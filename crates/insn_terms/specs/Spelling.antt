-- Which terms of a text stand for an instruction: the one that is printed, and other spellings of registers and flags.
use Rattle.std.specs.Prelude.{◌≡◌, List, [], ◌∷◌, map, Bool, false, ◌||◌, IsTrue, codes}
use Rattle.std.specs.List.{list_all}
use Rattle.erl_base.specs.Names.{Name, same_name}
use Rattle.erl_term.specs.Term as T
use Rattle.erl_term.specs.Term.{Term}
use Rattle.erl_term.specs.Terms.{terms, tagged, list_of}
use Rattle.beam_table.specs.Code as C
use Rattle.beam_table.specs.Code.{Reg, x_reg, y_reg, Source, reg, Flags, Insn}
use Rattle.beam_table.specs.Operands.{Operand, Operands, operands, source, register, x_slot, y_slot, field_flags, flag_list, items, list, end, ◌then◌}
use Rattle.beam_table.specs.OperandBounds.{insn_ok}
use Rattle.beam_table.specs.InstructionText.{register_term, source_term, operand_term, form_with, form}

-- {tr,R,_}: a register with what is known of its values, which is any term
abbrev pub typed_register : Reg → Term → Term
typed_register r u = T.tuple (terms (T.atom (codes "tr") ∷ register_term r ∷ u ∷ []))

-- a register, alone or with a type
pub data SpellsRegister : Term → Reg → Type 0 where
  bare : (r : Reg) → SpellsRegister (register_term r) r
  typed : (r : Reg) (u : Term) → SpellsRegister (typed_register r u) r

-- what is read: a register so, all else as it is printed
abbrev pub SpellsSource : Term → Source → Type 0
SpellsSource t (reg r) = SpellsRegister t r
SpellsSource t s = t ≡ source_term s

-- the words that flags are written with
abbrev pub is_flag : Name → Bool
is_flag a =
    same_name a (codes "signed") || same_name a (codes "little") || same_name a (codes "unsigned")
    || same_name a (codes "big")

-- whether a name is one of these
abbrev pub is_there : Name → List Name → Bool
is_there a [] = false
is_there a (b ∷ bs) = same_name b a || is_there a bs

-- flags hold where their words stand; the other two words say nothing
abbrev pub flags_named : List Name → Flags
flags_named as' = record { signed = is_there (codes "signed") as'; little = is_there (codes "little") as' }

-- the list of these words
abbrev pub words_term : List Name → Term
words_term as' = list_of (map T.atom as') T.nil

-- flags behind a tag, by any list of their words
pub data SpellsFlags (tag : Name) : Term → Flags → Type 0 where
  words : (as' : List Name) → IsTrue (list_all is_flag as')
      → SpellsFlags tag (tagged tag (words_term as')) (flags_named as')

-- flags of a segment that is built: `nil` says none
pub data SpellsFlagList : Term → Flags → Type 0 where
  no_words : SpellsFlagList (T.atom (codes "nil")) (flags_named [])
  some_words : (t : Term) (f : Flags) → SpellsFlags (codes "literal") t f → SpellsFlagList t f

abbrev mutual
  -- an operand: registers, flags and lists of operands so, all else as it is printed
  pub SpellsOperand : Term → Operand → Type 0
  SpellsOperand t (source s) = SpellsSource t s
  SpellsOperand t (register r) = SpellsRegister t r
  SpellsOperand t (x_slot n) = SpellsRegister t (x_reg n)
  SpellsOperand t (y_slot n) = SpellsRegister t (y_reg n)
  SpellsOperand t (field_flags f) = SpellsFlags (codes "field_flags") t f
  SpellsOperand t (flag_list f) = SpellsFlagList t f
  SpellsOperand t (items os) = (ts : List Term) × (t ≡ list_of ts T.nil) × AreSpelled ts os
  SpellsOperand t (list os) = (ts : List Term) × (t ≡ tagged (codes "list") (list_of ts T.nil)) × AreSpelled ts os
  SpellsOperand t o = t ≡ operand_term o

  -- terms in a row, each an operand
  pub AreSpelled : List Term → Operands → Type 0
  AreSpelled [] end = Unit {0}
  AreSpelled (t ∷ ts) (o then os) = SpellsOperand t o × AreSpelled ts os
  AreSpelled _ _ = ⊥

-- an instruction's name with terms that are its operands
pub record SpellsForm (t : Term) (i : Insn) : Type 0 where
  pub terms : List Term
  pub form : t ≡ form_with (operands i).0 terms
  pub operands : AreSpelled terms (operands i).1

-- the terms of an instruction; that of a label is as it is printed
abbrev pub Spells : Term → Insn → Type 0
Spells t (C.label l) = t ≡ form (C.label l)
Spells t i = SpellsForm t i

-- a term that a text may have for this instruction: its operands are within their bounds, too
pub record IsInsnTerm (t : Term) (i : Insn) : Type 0 where
  pub spelled : Spells t i
  pub bounded : IsTrue (insn_ok i)
