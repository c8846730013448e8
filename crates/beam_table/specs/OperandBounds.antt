-- Bounds on operands, and the labels that an instruction names.
use Rattle.std.specs.Prelude.{ℕ, ◌+◌, ◌^◌, List, [], ◌∷◌, ◌++◌, length, Bool, true, false, not, ◌&&◌, eqb, leb, ltb, Option, Some, None}
use Rattle.beam_table.specs.Code as C
use Rattle.beam_table.specs.Code.{Reg, x_reg, y_reg, Source, reg, Insn, func_info, bif, gc_bif, call_ext, call_ext_only, call_ext_last}
use Rattle.erl_term.specs.WellFormed.{maps_rise}
use Rattle.erl_term.specs.Ranges.{is_within_128, fits}
use Rattle.bif_table.specs.Builtins.{is_guard, is_collecting, arity_of}
use Rattle.beam_table.specs.Operands.{Operand, Operands, operands, source, register, own_label, entry_label, label_or_zero, label_or_no_fail, x_slot, y_slot, live, arity, site, unit, amount, extfunc, items, list, end, ◌then◌}

-- Bounds.

-- The limits of the machine and of its text.

-- the greatest number of an x register
abbrev pub most_x_register : ℕ
most_x_register = 1022

-- the most arguments that a function has
abbrev pub most_arity : ℕ
most_arity = 255

-- the most bits that a segment's unit has
abbrev pub most_unit : ℕ
most_unit = 256

-- slots and other counts stay below
abbrev pub count_limit : ℕ
count_limit = 2 ^ 24

-- labels and numbers of functions stay below
abbrev pub label_limit : ℕ
label_limit = 2 ^ 32

-- a register that the machine has
abbrev pub register_ok : Reg → Bool
register_ok (x_reg n) = leb n most_x_register
register_ok (y_reg n) = ltb n count_limit

-- an operand that a text can hold
unfoldable pub source_ok : Source → Bool
unfolding maps_rise
source_ok (reg r) = register_ok r
source_ok (C.integer z) = is_within_128 z
source_ok (C.literal t) = maps_rise t && fits t
source_ok _ = true

-- a label
abbrev pub label_ok : ℕ → Bool
label_ok l = ltb 0 l && ltb l label_limit

-- a label, if there is one
abbrev pub option_ok : Option ℕ → Bool
option_ok None = true
option_ok (Some l) = label_ok l

unfoldable mutual
  unfolding source_ok

  pub operand_ok : Operand → Bool
  operand_ok (source s) = source_ok s
  operand_ok (register r) = register_ok r
  operand_ok (own_label l) = label_ok l
  operand_ok (entry_label l) = label_ok l
  operand_ok (label_or_zero o) = option_ok o
  operand_ok (label_or_no_fail o) = option_ok o
  operand_ok (x_slot n) = leb n most_x_register
  operand_ok (y_slot n) = ltb n count_limit
  operand_ok (live n) = leb n (most_x_register + 1)
  operand_ok (arity n) = leb n most_arity
  operand_ok (site n) = ltb n label_limit
  operand_ok (unit n) = ltb 0 n && leb n most_unit
  operand_ok (amount n) = ltb n count_limit
  operand_ok (extfunc e) = leb e.arity most_arity
  operand_ok (items os) = operands_ok os
  operand_ok (list os) = operands_ok os
  operand_ok _ = true

  pub operands_ok : Operands → Bool
  operands_ok end = true
  operands_ok (o then os) = operand_ok o && operands_ok os

-- what no single operand shows: a listed function stands in the instruction of its group, with its arguments; a call
-- has as many arguments as its function
abbrev pub agrees : Insn → Bool
agrees (func_info f) = false
agrees (bif b l ss d) = is_guard b && not (is_collecting b) && eqb (length ss) (arity_of b)
agrees (gc_bif b l k ss d) = is_collecting b && eqb (length ss) (arity_of b)
agrees (call_ext n e) = eqb n e.arity
agrees (call_ext_only n e) = eqb n e.arity
agrees (call_ext_last n e k) = eqb n e.arity
agrees _ = true

-- an instruction whose operands are in their bounds and agree
unfoldable pub insn_ok : Insn → Bool
unfolding operand_ok
insn_ok i = agrees i && operands_ok (operands i).1

-- Labels that are named.

-- the label, if there is one
abbrev pub option_list : Option ℕ → List ℕ
option_list None = []
option_list (Some l) = l ∷ []

abbrev mutual
  pub own_labels : Operand → List ℕ
  own_labels (own_label l) = l ∷ []
  own_labels (label_or_zero o) = option_list o
  own_labels (label_or_no_fail o) = option_list o
  own_labels (items os) = all_own_labels os
  own_labels (list os) = all_own_labels os
  own_labels _ = []

  pub all_own_labels : Operands → List ℕ
  all_own_labels end = []
  all_own_labels (o then os) = own_labels o ++ all_own_labels os

-- labels of any function's entry
abbrev pub entry_labels : Operands → List ℕ
entry_labels end = []
entry_labels (entry_label l then os) = l ∷ entry_labels os
entry_labels (o then os) = entry_labels os
