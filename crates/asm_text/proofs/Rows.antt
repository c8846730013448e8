-- The text of what is printed in a loop, item by item, and that of the forms before the functions.
use Rattle.std.proofs.Common.{◌≡◌, refl, ap, ◌∙◌, List, ◌++◌, map, flat_map, ℕ, true, codes, ◌+◌}
use Rattle.erl_base.specs.Names.{Name}
use Rattle.erl_term.specs.Terms.{terms}
use Rattle.erl_term.specs.View.{attribute_view}
use Rattle.erl_term.specs.declared.term.Attribute.{Attribute}
use Rattle.term_text.specs.Atoms.{atom_text}
use Rattle.term_text.specs.Decimal.{decimal_on}
use Rattle.term_text.specs.TermText.{texts, term_on, row_on, comma}
use Rattle.beam_table.specs.Code.{AsmModule}
use Rattle.beam_table.specs.ModuleForms.{key_term, attribute_term, greatest}
use Rattle.beam_table.specs.ValidModule.{all_labels}
use Rattle.beam_table.specs.View.{insn_view, fun_view}
use Rattle.beam_table.specs.declared.asm.AsmFun.{AsmFun}
use Rattle.beam_table.specs.declared.insn.Insn.{Insn}
use Rattle.insn_text.proofs.Loops.{Row, Item, Steps, list_text}
use Rattle.asm_text.specs.PrintedModule.{insn_line, function_lines, first_lines, line_on, lines_on}
use Rattle.asm_text.proofs.ModuleLines.{lines_joined}

abbrev pub attribute_row : Row Attribute
attribute_row b xs r = row_on b (terms (map attribute_term (map attribute_view xs))) r

abbrev pub attribute_item : Item Attribute
attribute_item b x r = comma b ++ term_on (attribute_term (attribute_view x)) r

pub attribute_steps : Steps attribute_row attribute_item
unfolding texts
attribute_steps = record { none = λ b r. refl; some = λ b x xs r. refl }

abbrev pub code_row : Row Insn
code_row b xs r = lines_on (map insn_line (map insn_view xs)) r

abbrev pub code_item : Item Insn
code_item b x r = line_on (insn_line (insn_view x)) r

pub code_steps : Steps code_row code_item
code_steps = record { none = λ b r. refl; some = λ b x xs r. refl }

abbrev pub fun_row : Name → Row AsmFun
fun_row m b xs r = lines_on (flat_map (function_lines m) (map fun_view xs)) r

abbrev pub fun_item : Name → Item AsmFun
fun_item m b x r = lines_on (function_lines m (fun_view x)) r

pub fun_steps : (m : Name) → Steps (fun_row m) (fun_item m)
fun_steps m = record {
  none = λ b r. refl;
  some = λ b x xs r. lines_joined (function_lines m (fun_view x)) (flat_map (function_lines m) (map fun_view xs)) r;
}

abbrev from_labels : AsmModule → List ℕ → List ℕ
from_labels a r = codes "}.\n{labels," ++ decimal_on (greatest (all_labels a.funs) + 1) (codes "}.\n" ++ r)

pub first_text : (a : AsmModule) (r : List ℕ) → lines_on (first_lines a) r
    ≡ codes "{module," ++ (atom_text a.name ++ (codes "}.\n{exports,[" ++ row_on true (terms (map key_term a.exports))
    (codes "]}.\n{attributes,[" ++ row_on true (terms (map attribute_term a.attributes))
    (codes "]" ++ from_labels a r))))
unfolding texts
first_text a r =
    ap (λ x. codes "{module," ++ (atom_text a.name ++ (codes "}.\n{exports," ++ x)))
    (list_text (map key_term a.exports) _
    ∙ ap (λ x. codes "[" ++ row_on true (terms (map key_term a.exports)) (codes "]}.\n{attributes," ++ x))
    (list_text (map attribute_term a.attributes) (from_labels a r)))
