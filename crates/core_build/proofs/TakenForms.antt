-- What stands somewhere is of a form that may stand there.
use Rattle.std.proofs.Common.{◌≡◌, refl, Bool, true, false}
use Rattle.core_grammar.specs.WrittenTree.{Tree, variable, atom, number, wide, float, character, string, function_name, external, noted, alias, list, list_on, tuple, values, new_map, map_on, binary, fun}
use Rattle.core_grammar.specs.Standing.{Sort, expression, pattern, constant, note, key, segment_value, a_variable, a_name, an_atom, a_fun, takes_variable, takes_constant, takes_integer, takes_atom, takes_list, takes_name, takes_fun, takes_expression, takes_alias, takes_binary, inner_sort, item_sort, key_sort, value_sort, Stands}
use Rattle.core_build.proofs.Fronts.{never}

abbrev pub takes : Sort → Tree → Bool
takes s (variable p x) = takes_variable s
takes s (atom p a) = takes_atom s
takes s (number p g z) = takes_integer s
takes s (wide p n) = takes_integer s
takes s (float p) = takes_constant s
takes s (character p c) = takes_constant s
takes s (string p cs) = takes_list s
takes s (function_name p a n) = takes_name s
takes s (external p m f n) = takes_constant s
takes s (noted p t n) = true
takes s (alias x t) = takes_alias s
takes s (list p ts) = takes_list s
takes s (list_on p t ts u) = takes_list s
takes s (tuple p ts) = takes_constant s
takes s (values p ts) = takes_expression s
takes s (new_map p ps) = takes_constant s
takes s (map_on p ps t) = takes_expression s
takes s (binary p gs) = takes_binary s gs
takes s (fun p xs t) = takes_fun s
takes s _ = takes_expression s

pub stands_taken : (s : Sort) (t : Tree) → Stands s t → takes s t ≡ true
stands_taken s (atom p a) h = h
stands_taken s (wide p n) h = h
stands_taken s (float p) h = h
stands_taken s (noted p t n) h = refl
stands_taken s _ h = h.0

-- what is read as an expression, since nothing else may stand where it does
abbrev pub is_expression : Sort → Bool
is_expression pattern = false
is_expression segment_value = false
is_expression _ = true

pub no_alias_there : {A : Type 0} (s : Sort) → is_expression s ≡ true → takes_alias s ≡ true → A
no_alias_there pattern e h = never e
no_alias_there _ e h = never h

pub inner_same : (s : Sort) → is_expression s ≡ true → inner_sort s ≡ s
inner_same segment_value e = never e
inner_same _ e = refl

pub item_expression : (s : Sort) → is_expression s ≡ true → is_expression (item_sort s) ≡ true
item_expression pattern e = never e
item_expression _ e = refl

pub key_expression : (s : Sort) → is_expression (key_sort s) ≡ true
key_expression expression = refl
key_expression pattern = refl
key_expression constant = refl
key_expression note = refl
key_expression key = refl
key_expression segment_value = refl
key_expression a_variable = refl
key_expression a_name = refl
key_expression an_atom = refl
key_expression a_fun = refl

pub value_expression : (s : Sort) → is_expression s ≡ true → is_expression (value_sort s) ≡ true
value_expression pattern e = never e
value_expression _ e = refl
