-- The forms of a module's text, each a term, in their order.
use Rattle.std.specs.Prelude.{ℕ, ◌+◌, max, List, [], ◌∷◌, map, flat_map, codes}
use Rattle.erl_base.specs.Names.{Name}
use Rattle.erl_base.specs.declared.ids.FunKey.{FunKey}
use Rattle.erl_term.specs.Term as T
use Rattle.erl_term.specs.Term.{Term}
use Rattle.erl_term.specs.Terms.{tagged, terms, list_of}
use Rattle.beam_table.specs.Code as C
use Rattle.beam_table.specs.Code.{AsmFun, AsmModule}
use Rattle.beam_table.specs.InstructionText.{number_term, source_term, form}
use Rattle.beam_table.specs.ValidModule.{all_labels}

-- a tuple of terms in a row
abbrev pub tuple_of : List Term → Term
tuple_of ts = T.tuple (terms ts)

-- {F,A}
abbrev pub key_term : FunKey → Term
key_term f = tuple_of (T.atom f.name ∷ number_term f.arity ∷ [])

-- {Key,Value}
abbrev pub attribute_term : Name × Term → Term
attribute_term p = tuple_of (T.atom p.0 ∷ p.1 ∷ [])

-- the greatest of numbers, 0 of none
abbrev pub greatest : List ℕ → ℕ
greatest [] = 0
greatest (l ∷ ls) = max l (greatest ls)

-- {module,M}
abbrev pub module_form : Name → Term
module_form m = tagged (codes "module") (T.atom m)

-- {exports,[{F,A},..]}
abbrev pub exports_form : List FunKey → Term
exports_form fs = tagged (codes "exports") (list_of (map key_term fs) T.nil)

-- {attributes,[{Key,Value},..]}
abbrev pub attributes_form : List (Name × Term) → Term
attributes_form ps = tagged (codes "attributes") (list_of (map attribute_term ps) T.nil)

-- {labels,N}: N is above all labels
abbrev pub labels_form : List AsmFun → Term
labels_form fs = tagged (codes "labels") (number_term (greatest (all_labels fs) + 1))

-- {function,F,A,Entry}
abbrev pub function_form : AsmFun → Term
function_form f =
    tuple_of (T.atom (codes "function") ∷ T.atom f.key.name ∷ number_term f.key.arity ∷ number_term f.entry ∷ [])

-- {func_info,{atom,M},{atom,F},A}
abbrev pub func_info_form : Name → FunKey → Term
func_info_form m f =
    tuple_of (T.atom (codes "func_info") ∷ source_term (C.atom m) ∷ source_term (C.atom f.name) ∷ number_term f.arity
    ∷ [])

-- a function's head, and its code
abbrev pub function_forms : Name → AsmFun → List Term
function_forms m f =
    function_form f ∷ form (C.label f.info) ∷ func_info_form m f.key ∷ form (C.label f.entry) ∷ map form f.code

-- all of them
abbrev pub forms : AsmModule → List Term
forms a =
    module_form a.name ∷ exports_form a.exports ∷ attributes_form a.attributes ∷ labels_form a.funs
    ∷ flat_map (function_forms a.name) a.funs
