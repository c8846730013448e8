-- The printed text of an assembly module: each of its forms on a line of its own. What ends in `_on` gives the
-- characters of its subject, and then `r`.
use Rattle.std.specs.Prelude.{ℕ, List, [], ◌∷◌, ◌++◌, map, flat_map, codes}
use Rattle.erl_base.specs.Names.{Name}
use Rattle.erl_term.specs.Term.{Term}
use Rattle.term_text.specs.TermText.{term_on}
use Rattle.beam_table.specs.Code.{Insn, label, AsmFun, AsmModule}
use Rattle.beam_table.specs.InstructionText.{form}
use Rattle.beam_table.specs.ModuleForms.{module_form, exports_form, attributes_form, labels_form, function_form, func_info_form}
use Rattle.asm_forms.specs.Lines.{Line, lines}

-- what stands before an instruction: labels stand further left
abbrev pub indent_of : Insn → List ℕ
indent_of (label l) = codes "  "
indent_of i = codes "    "

-- a form on a line
abbrev pub line : List ℕ → Term → Line
line indent t = record { indent = indent; form = t }

-- an instruction on one
abbrev pub insn_line : Insn → Line
insn_line i = line (indent_of i) (form i)

-- a function's head behind an empty line, and its code
abbrev pub function_lines : Name → AsmFun → List Line
function_lines m f =
    line (codes "\n") (function_form f) ∷ insn_line (label f.info) ∷ line (codes "    ") (func_info_form m f.key)
    ∷ insn_line (label f.entry) ∷ map insn_line f.code

-- what comes before the functions
abbrev pub first_lines : AsmModule → List Line
first_lines a =
    line [] (module_form a.name) ∷ line [] (exports_form a.exports) ∷ line [] (attributes_form a.attributes)
    ∷ line [] (labels_form a.funs) ∷ []

-- the lines of a module
abbrev pub module_lines : AsmModule → List Line
module_lines a = first_lines a ++ flat_map (function_lines a.name) a.funs

-- the printed text
unfoldable pub module_text : AsmModule → List ℕ
module_text a = lines (module_lines a)

-- a line
abbrev pub line_on : Line → List ℕ → List ℕ
line_on l r = l.indent ++ term_on l.form (codes ".\n" ++ r)

-- lines in their order
abbrev pub lines_on : List Line → List ℕ → List ℕ
lines_on [] r = r
lines_on (l ∷ ls) r = line_on l (lines_on ls r)
