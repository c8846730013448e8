-- The forms of an assembly text that are no instruction, read from their terms.
use Rattle.std.specs.Prelude.{ℕ, List, Bool, ◌||◌, is_some, Option, Some, None, if◌then◌else◌, codes}
use Rattle.erl_base.specs.Names.{Name, same_name, keys_distinct}
use Rattle.erl_base.specs.declared.ids.FunKey.{FunKey}
use Rattle.erl_term.specs.Term.{Term}
use Rattle.term_read.specs.Lexemes.{◌>>=◌}
use Rattle.beam_table.specs.Code as C
use Rattle.beam_table.specs.Code.{Insn}
use Rattle.insn_terms.specs.Reading.{checked, number_of, atom_of, items_of, elements_of, at_end, next, and_then, alone, pair_of, behind, singles, bare_label_value, arity_value, atom_value, insn_of}

-- {module,M}
abbrev pub module_form_of : Term → Option Name
module_form_of t = behind (codes "module") t >>= atom_of

-- {F,A}
abbrev pub key_in : List Term → Option FunKey
key_in ts =
    next atom_of ts >>= λ f. next arity_value f.1 >>= λ n. at_end n.1
    >>= λ e. Some (record { name = f.0; arity = n.0 })

-- the same, in a tuple
abbrev pub key_term_of : Term → Option FunKey
key_term_of t = elements_of t >>= key_in

-- {exports,[{F,A},..]}, each function once
abbrev pub exports_form_of : Term → Option (List FunKey)
exports_form_of t = behind (codes "exports") t >>= items_of >>= singles key_term_of >>= checked keys_distinct

-- {attributes,[{Key,Value},..]}
abbrev pub attributes_form_of : Term → Option (List (Name × Term))
attributes_form_of t = behind (codes "attributes") t >>= items_of >>= singles pair_of

-- {labels,N}
abbrev pub labels_form_of : Term → Option ℕ
labels_form_of t = behind (codes "labels") t >>= number_of

-- what stands in {function,F,A,Entry}: the function, and its entry label
abbrev pub function_in : List Term → Option (FunKey × ℕ)
function_in ts =
    next atom_of ts >>= λ w. next atom_of w.1 >>= λ f. next arity_value f.1 >>= λ n. next bare_label_value n.1
    >>= λ l. at_end l.1
    >>= λ e. if same_name (codes "function") w.0 then
    Some (record { name = f.0; arity = n.0 }, l.0) else None

-- {function,F,A,Entry}
abbrev pub function_form_of : Term → Option (FunKey × ℕ)
function_form_of t = elements_of t >>= function_in

-- what stands in {func_info,{atom,M},{atom,F},A}: the module, and the function
abbrev pub func_info_in : List Term → Option (Name × FunKey)
func_info_in ts =
    next atom_of ts >>= λ w. and_then atom_value (and_then atom_value (alone arity_value)) w.1
    >>= λ v. if same_name (codes "func_info") w.0 then
    Some (v.0, record { name = v.1.0; arity = v.1.1 }) else None

-- {func_info,{atom,M},{atom,F},A}
abbrev pub func_info_form_of : Term → Option (Name × FunKey)
func_info_form_of t = elements_of t >>= func_info_in

-- the label that an instruction is
abbrev pub label_only : Insn → Option ℕ
label_only (C.label l) = Some l
label_only i = None

-- {label,L}
abbrev pub label_form_of : Term → Option ℕ
label_form_of t = insn_of t >>= label_only

-- a form that says nothing of the module: `{line,_}` and `{'%',_}`
abbrev pub is_dropped : Term → Bool
is_dropped t = is_some (behind (codes "line") t) || is_some (behind (codes "%") t)
