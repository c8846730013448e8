-- Small texts, form by form, computed.
use Rattle.std.proofs.Common.{◌≡◌, ℕ, refl, List, [], ◌∷◌, ◌++◌, false, Option, Some, None, codes}
use Rattle.erl_base.specs.Names.{Name}
use Rattle.erl_base.specs.declared.ids.FunKey.{FunKey}
use Rattle.erl_term.specs.Term as T
use Rattle.erl_term.specs.Term.{Term}
use Rattle.erl_term.specs.Terms.{terms, tagged}
use Rattle.term_read.specs.Lexemes.{◌>>=◌}
use Rattle.beam_table.specs.Code as C
use Rattle.beam_table.specs.Code.{reg, x_reg, y_reg, Insn}
use Rattle.beam_table.specs.InstructionText.{number_term, form}
use Rattle.beam_table.specs.OperandBounds.{operand_ok}
use Rattle.beam_table.specs.ModuleForms.{module_form, exports_form, attributes_form, func_info_form}
use Rattle.insn_terms.specs.Reading.{insn_named}
use Rattle.asm_forms.specs.Stages.{FunForms, Head, at_start, stage_behind_all, whole_head}
use Rattle.asm_forms.specs.ModuleOfText.{forms_agree}

abbrev m : Name
m = codes "m"

abbrev f : FunKey
f = record { name = codes "f"; arity = 1 }

abbrev function : ℕ → Term
function l = T.tuple (terms (T.atom (codes "function") ∷ T.atom f.name ∷ number_term f.arity ∷ number_term l ∷ []))

abbrev label : ℕ → Term
label l = form (C.label l)

abbrev labels : ℕ → Term
labels n = tagged (codes "labels") (number_term n)

-- {line,[]} and {'%',[]}
abbrev line : Term
line = tagged (codes "line") T.nil

abbrev remark : Term
remark = tagged (codes "%") T.nil

-- {move,{tr,{y,0},any},{x,0}}
abbrev typed_move : Term
typed_move = T.tuple (terms (
    T.atom (codes "move")
    ∷ T.tuple (terms (T.atom (codes "tr") ∷ tagged (codes "y") (number_term 0) ∷ T.atom (codes "any") ∷ []))
    ∷ tagged (codes "x") (number_term 0) ∷ []
    ))

-- what comes before the functions
abbrev front : ℕ → List Term
front n = module_form m ∷ exports_form (f ∷ []) ∷ attributes_form [] ∷ labels n ∷ []

abbrev read : List Term → Option Head
read ts = stage_behind_all at_start ts >>= whole_head

-- the head of a module with one function
abbrev head : ℕ → FunForms → Head
head n g = record { name = m; exports = f ∷ []; attributes = []; limit = n; funs = g ∷ [] }

abbrev fun_forms : FunKey → List Insn → FunForms
fun_forms k is = record { fun = record { key = f; info = 1; entry = 2; code = is }; home = m; named = k }

-- forms that say nothing stand anywhere behind {labels,N}, and types of registers are dropped
whole : read (front 3 ++ line ∷ function 2 ∷ remark ∷ label 1 ∷ line ∷ func_info_form m f ∷ line ∷ label 2
    ∷ typed_move ∷ line ∷ T.atom (codes "return") ∷ remark ∷ [])
    ≡ Some (head 3 (fun_forms f (C.move (reg (y_reg 0)) (x_reg 0) ∷ C.return ∷ [])))
unfolding insn_named operand_ok
whole = refl

-- no function is a module, too
no_functions : read (front 1)
    ≡ Some (record { name = m; exports = f ∷ []; attributes = []; limit = 1; funs = [] })
unfolding operand_ok
no_functions = refl

-- a form that says nothing does not stand before {labels,N}
line_before_labels : stage_behind_all at_start (module_form m ∷ line ∷ []) ≡ None
line_before_labels = refl

-- forms in another order
labels_first : stage_behind_all at_start (labels 3 ∷ []) ≡ None
labels_first = refl

code_first : stage_behind_all at_start (front 3 ++ T.atom (codes "return") ∷ []) ≡ None
unfolding operand_ok
code_first = refl

func_info_first : stage_behind_all at_start (front 3 ++ function 2 ∷ func_info_form m f ∷ []) ≡ None
unfolding insn_named operand_ok
func_info_first = refl

-- behind func_info stands the label that the function says
another_entry : stage_behind_all at_start (front 4 ++ function 2 ∷ label 1 ∷ func_info_form m f ∷ label 3 ∷ []) ≡ None
unfolding insn_named operand_ok
another_entry = refl

-- no label is 0
no_label : stage_behind_all at_start (front 4 ++ function 0 ∷ []) ≡ None
unfolding operand_ok
no_label = refl

-- an export twice
twice : stage_behind_all at_start (module_form m ∷ exports_form (f ∷ f ∷ []) ∷ []) ≡ None
unfolding operand_ok
twice = refl

-- a form is missing
no_entry : read (front 3 ++ function 2 ∷ label 1 ∷ func_info_form m f ∷ []) ≡ None
unfolding insn_named operand_ok
no_entry = refl

no_labels : read (module_form m ∷ exports_form [] ∷ attributes_form [] ∷ []) ≡ None
unfolding operand_ok
no_labels = refl

-- func_info says another function; a label is not below N
another_function : forms_agree (head 3 (fun_forms (record { name = codes "g"; arity = 1 }) (C.return ∷ []))) ≡ false
another_function = refl

label_too_great : forms_agree (head 2 (fun_forms f (C.return ∷ []))) ≡ false
label_too_great = refl
