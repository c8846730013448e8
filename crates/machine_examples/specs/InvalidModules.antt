-- Modules that no assembly text may hold, and one that it may (OTP 25, genop.tab).
use Rattle.std.specs.Prelude.{ℕ, ◌^◌, List, [], ◌∷◌, false, negsuc, pos, None, codes}
use Rattle.erl_base.specs.declared.ids.FunKey.{FunKey}
use Rattle.erl_term.specs.Term.{Term}
use Rattle.bif_table.specs.Builtins.{Add, Element, Error1}
use Rattle.beam_table.specs.Code as C
use Rattle.beam_table.specs.Code.{Insn, func_info, label, move, return, jump, call_only, call_ext_only, bif, gc_bif, bs_create_bin, AsmModule}
use Rattle.beam_table.specs.ValidModule.{Valid}
use Rattle.machine_examples.specs.Build.{key, int, map_of, x0, r, i, outside, unsigned_big, module_of}

-- module m with f/1, which has this code, and g/1, whose labels are 3 and 4
abbrev pub two_functions : List Insn → AsmModule
two_functions is = module_of ((key "f" 1, is) ∷ (key "g" 1, return ∷ []) ∷ [])

-- the same, which exports these functions
abbrev pub exporting : List FunKey → AsmModule
exporting fs = record (two_functions (return ∷ [])) { exports = fs }

-- the same with an attribute of this value
abbrev pub attributed : Term → AsmModule
attributed t = record (two_functions (return ∷ [])) { attributes = (codes "k", t) ∷ [] }

-- a byte that is built in units of n
abbrev pub in_units : ℕ → Insn
in_units n = bs_create_bin None 1 1 x0 (record {
  is_binary = false;
  number = 0;
  unit = n;
  flags = unsigned_big;
  value = r x0;
  size = i 8;
} ∷ [])

-- no valid module has this code in its function f/1
abbrev pub Refused : Insn → Type 0
Refused j = Valid (two_functions (j ∷ return ∷ [])) → ⊥

-- what makes a module invalid
pub record InvalidModules : Type 0 where
  -- a valid module
  pub valid : Valid (exporting (key "f" 1 ∷ key "g" 1 ∷ []))
  -- each label stands once, also among functions, and none is 0
  pub label_twice : Refused (label 4)
  pub label_zero : Refused (label 0)
  -- a jump stays in its function
  pub jump_to_another_function : Refused (jump 4)
  pub jump_to_no_label : Refused (jump 9)
  -- a call names an entry
  pub call_of_no_entry : Refused (call_only 1 3)
  -- a function's head stands at its head alone
  pub head_in_the_code : Refused (func_info (key "f" 1))
  -- registers, arities, units and integers have bounds
  pub high_register : Refused (move (r x0) (C.x_reg 1023))
  pub high_arity : Refused (call_ext_only 256 (outside "g" 256))
  pub unit_zero : Refused (in_units 0)
  pub unit_too_large : Refused (in_units 257)
  pub wide_integer : Refused (move (C.integer (pos (2 ^ 127))) x0)
  pub wide_negative : Refused (move (C.integer (negsuc (2 ^ 127))) x0)
  -- a call has as many arguments as its function
  pub other_number_of_arguments : Refused (call_ext_only 1 (outside "g" 2))
  -- a listed function stands in the instruction of its group, with its arguments
  pub too_few_arguments : Refused (bif Element None (i 1 ∷ []) x0)
  pub without_collecting : Refused (bif Add None (i 1 ∷ i 2 ∷ []) x0)
  pub collecting : Refused (gc_bif Element None 1 (i 1 ∷ r x0 ∷ []) x0)
  pub always_raising : Refused (bif Error1 None (i 1 ∷ []) x0)
  -- an export is a function of the module, and stands once
  pub export_of_no_function : Valid (exporting (key "h" 1 ∷ [])) → ⊥
  pub export_twice : Valid (exporting (key "f" 1 ∷ key "f" 1 ∷ [])) → ⊥
  -- the keys of a map that is an attribute are in their order, and its integers have bounds
  pub attribute_out_of_order : Valid (attributed (map_of ((int 2, int 0) ∷ (int 1, int 0) ∷ []))) → ⊥
  pub wide_attribute : Valid (attributed (int (2 ^ 127))) → ⊥
