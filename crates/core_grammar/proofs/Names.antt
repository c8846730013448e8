-- Variables, names of functions and funs where they alone may stand.
use Rattle.std.proofs.Common.{◌≡◌, refl, ap, suc, true, length}
use Rattle.core_form.specs.SourceTree.{is_variable_name, are_variables, is_arity, is_function, are_functions}
use Rattle.core_grammar.specs.WrittenTree.{Tree, variable, function_name, noted, fun, Row, none, more, Group, single, angled, Definitions, no_definition, definition}
use Rattle.core_grammar.specs.Standing.{a_variable, a_name, a_fun, Stands, RowStands, GroupStands, DefinitionsStand}
use Rattle.core_grammar.specs.Signs.{row_count, group_count}
use Rattle.core_grammar.specs.ModuleOf.{variable_name, name_key, binders_of, group_binders, expr_of, defs_of}
use Rattle.core_grammar.proofs.Truths.{never, and_in}

pub variable_named : (t : Tree) → Stands a_variable t → is_variable_name (variable_name t) ≡ true
variable_named (variable p x) h = h.1
variable_named (noted p t n) h = variable_named t h.0
variable_named _ h = never (assumption h)

pub row_named : (ts : Row) → RowStands a_variable ts → are_variables (binders_of ts) ≡ true
row_named none h = refl
row_named (more t ts) h = and_in _ _ (variable_named t h.0) (row_named ts h.1)

pub group_named : (ts : Group) → GroupStands a_variable ts → are_variables (group_binders ts) ≡ true
group_named (single t) h = and_in _ _ (variable_named t h) refl
group_named (angled p ts) h = row_named ts h

row_length : (ts : Row) → length (binders_of ts) ≡ row_count ts
row_length none = refl
row_length (more t ts) = ap suc (row_length ts)

pub group_length : (ts : Group) → length (group_binders ts) ≡ group_count ts
group_length (single t) = refl
group_length (angled p ts) = row_length ts

pub name_short : (t : Tree) → Stands a_name t → is_arity (name_key t).arity ≡ true
name_short (function_name p a n) h = h.1
name_short (noted p t n) h = name_short t h.0
name_short _ h = never (assumption h)

pub fun_read : (t : Tree) → Stands a_fun t → is_function (expr_of t) ≡ true
fun_read (fun p xs t) h = refl
fun_read (noted p t n) h = fun_read t h.0
fun_read _ h = never (assumption h)

pub all_functions : (ds : Definitions) → DefinitionsStand ds → are_functions (defs_of ds) ≡ true
all_functions no_definition h = refl
all_functions (definition x t ds) h =
    and_in _ _ (and_in _ _ (name_short x h.0) (fun_read t h.1)) (all_functions ds h.2)
