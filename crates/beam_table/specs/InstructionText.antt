-- An instruction as a term of the assembly text.
use Rattle.std.specs.Prelude.{ℕ, pos, List, [], ◌∷◌, Some, None, if◌then◌else◌, codes}
use Rattle.erl_base.specs.Names.{Name}
use Rattle.erl_term.specs.Term as T
use Rattle.erl_term.specs.Term.{Term}
use Rattle.erl_term.specs.Terms.{terms, tagged, list_of}
use Rattle.beam_table.specs.Code as C
use Rattle.beam_table.specs.Code.{Reg, x_reg, y_reg, Source, reg, Flags, Insn}
use Rattle.beam_table.specs.Operands.{Operand, Operands, operands, source, register, own_label, entry_label, label_or_zero, label_or_no_fail, no_label, x_slot, y_slot, live, arity, site, unit, amount, always, word, atom_operand, extfunc, field_flags, flag_list, items, list, end, ◌then◌}

-- a bare number
abbrev pub number_term : ℕ → Term
number_term n = T.int (pos n)

-- {f,L}
abbrev pub label_term : ℕ → Term
label_term n = tagged (codes "f") (number_term n)

-- {x,N}, {y,N}
abbrev pub register_term : Reg → Term
register_term (x_reg n) = tagged (codes "x") (number_term n)
register_term (y_reg n) = tagged (codes "y") (number_term n)

-- a register, {atom,A}, {integer,Z}, nil, {literal,T}
abbrev pub source_term : Source → Term
source_term (reg r) = register_term r
source_term (C.atom a) = tagged (codes "atom") (T.atom a)
source_term (C.integer z) = tagged (codes "integer") (T.int z)
source_term C.nil = T.atom (codes "nil")
source_term (C.literal t) = tagged (codes "literal") t

-- both are written, in this order
abbrev pub flag_words : Flags → List Term
flag_words f =
    (if f.signed then T.atom (codes "signed") else T.atom (codes "unsigned"))
    ∷ (if f.little then T.atom (codes "little") else T.atom (codes "big")) ∷ []

abbrev mutual
  pub operand_term : Operand → Term
  operand_term (source s) = source_term s
  operand_term (register r) = register_term r
  operand_term (own_label l) = label_term l
  operand_term (entry_label l) = label_term l
  operand_term (label_or_zero None) = label_term 0
  operand_term (label_or_zero (Some l)) = label_term l
  operand_term (label_or_no_fail None) = tagged (codes "atom") (T.atom (codes "no_fail"))
  operand_term (label_or_no_fail (Some l)) = label_term l
  operand_term no_label = label_term 0
  operand_term (x_slot n) = register_term (x_reg n)
  operand_term (y_slot n) = register_term (y_reg n)
  operand_term (live n) = number_term n
  operand_term (arity n) = number_term n
  operand_term (site n) = number_term n
  operand_term (unit n) = number_term n
  operand_term (amount n) = number_term n
  operand_term (always n) = number_term n
  operand_term (word a) = T.atom a
  operand_term (atom_operand a) = tagged (codes "atom") (T.atom a)
  operand_term (extfunc e) =
      T.tuple (terms (T.atom (codes "extfunc") ∷ T.atom e.mod_name ∷ T.atom e.name ∷ number_term e.arity ∷ []))
  operand_term (field_flags f) = tagged (codes "field_flags") (list_of (flag_words f) T.nil)
  operand_term (flag_list f) = tagged (codes "literal") (list_of (flag_words f) T.nil)
  operand_term (items os) = list_of (operand_terms os) T.nil
  operand_term (list os) = tagged (codes "list") (list_of (operand_terms os) T.nil)

  pub operand_terms : Operands → List Term
  operand_terms end = []
  operand_terms (o then os) = operand_term o ∷ operand_terms os

-- a name with operands
abbrev pub form_with : Name → List Term → Term
form_with a [] = T.atom a
form_with a (t ∷ ts) = T.tuple (terms (T.atom a ∷ t ∷ ts))

-- the form of a label has a bare number_term
abbrev pub form : Insn → Term
form (Insn.label l) = tagged (codes "label") (number_term l)
form i = form_with (operands i).0 (operand_terms (operands i).1)
