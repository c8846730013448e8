-- The lines of a printed module: their forms are those of the module, and they can be read.
use Rattle.std.proofs.Common.{◌≡◌, refl, sym, ap, ◌∙◌, subst, List, [], ◌∷◌, ◌++◌, map, flat_map, ℕ, Bool, true, ◌&&◌, leb, IsTrue, IsUtf8, chars, codes, encode_utf8_all}
use Rattle.std.specs.List.{list_all}
use lib.Utf8.{scalar, scalars}
use Rattle.std.proofs.lemmas.Str.{encodes-chars, encodes_same}
use Rattle.erl_base.specs.Names.{Name}
use Rattle.erl_base.specs.declared.ids.LabelId.{LabelId}
use Rattle.erl_term.specs.Depth.{depth}
use Rattle.erl_term.specs.Ranges.{fits}
use Rattle.erl_term.specs.WellFormed.{maps_rise}
use Rattle.erl_term.proofs.Forms.{left_true, right_true, both_true}
use Rattle.term_text.specs.TermText.{term_on}
use Rattle.term_read.specs.Lexemes.{is_space}
use Rattle.term_read.specs.TermGrammar.{most_nesting}
use Rattle.beam_table.specs.Code as C
use Rattle.beam_table.specs.Code.{Insn, AsmFun, AsmModule}
use Rattle.beam_table.specs.FormBounds.{FormsNest, is_text}
use Rattle.beam_table.specs.InstructionText.{form}
use Rattle.beam_table.specs.ModuleForms.{function_form, func_info_form, function_forms, forms}
use Rattle.beam_table.specs.ValidModule.{every, Valid}
use Rattle.beam_table.specs.View.{insn_view}
use Rattle.beam_table.specs.declared.insn.Insn.{Insn as Written}
use Rattle.beam_table.specs.declared.insn.Insn.TheVariants as V
use Rattle.asm_forms.specs.Lines.{Line, lines, is_line, is_sane}
use Rattle.asm_forms.specs.ModuleOfText.{CharactersOf, AssemblyText}
use Rattle.asm_text.specs.PrintedModule.{indent_of, insn_line, function_lines, first_lines, module_lines, module_text, lines_on}

-- Their text.

pub lines_printed : (ls : List Line) → lines_on ls [] ≡ lines ls
lines_printed [] = refl
lines_printed (l ∷ ls) = ap (λ x. l.indent ++ term_on l.form (codes ".\n" ++ x)) (lines_printed ls)

pub lines_joined : (ls ks : List Line) (r : List ℕ) → lines_on (ls ++ ks) r ≡ lines_on ls (lines_on ks r)
lines_joined [] ks r = refl
lines_joined (l ∷ ls) ks r = ap (λ x. l.indent ++ term_on l.form (codes ".\n" ++ x)) (lines_joined ls ks r)

-- Their forms.

code_forms : (is : List Insn) → map (λ (l : Line). l.form) (map insn_line is) ≡ map form is
code_forms [] = refl
code_forms (i ∷ is) = ap (λ ts. form i ∷ ts) (code_forms is)

forms_joined : (ls ks : List Line) → map (λ (l : Line). l.form) (ls ++ ks)
    ≡ map (λ (l : Line). l.form) ls ++ map (λ (l : Line). l.form) ks
forms_joined [] ks = refl
forms_joined (l ∷ ls) ks = ap (λ ts. l.form ∷ ts) (forms_joined ls ks)

fun_forms : (m : Name) (f : AsmFun) → map (λ (l : Line). l.form) (function_lines m f) ≡ function_forms m f
fun_forms m f = ap (λ ts. function_form f ∷ form (C.label f.info) ∷ func_info_form m f.key
    ∷ form (C.label f.entry) ∷ ts)
    (code_forms f.code)

funs_forms : (m : Name) (fs : List AsmFun)
    → map (λ (l : Line). l.form) (flat_map (function_lines m) fs) ≡ flat_map (function_forms m) fs
funs_forms m [] = refl
funs_forms m (f ∷ fs) =
    forms_joined (function_lines m f) (flat_map (function_lines m) fs)
    ∙ ap (λ ts. ts ++ map (λ (l : Line). l.form) (flat_map (function_lines m) fs)) (fun_forms m f)
    ∙ ap (λ ts. function_forms m f ++ ts) (funs_forms m fs)

module_forms : (a : AsmModule) → map (λ (l : Line). l.form) (module_lines a) ≡ forms a
module_forms a = ap (λ ts. map (λ (l : Line). l.form) (first_lines a) ++ ts) (funs_forms a.name a.funs)

-- What stands before them.

abbrev blank : Line → Bool
blank l = list_all is_space l.indent

insn_blank : (i : Insn) → list_all is_space (indent_of i) ≡ true
insn_blank (C.label l) = refl
insn_blank i = refl

code_blank : (is : List Insn) → every blank (map insn_line is) ≡ true
code_blank [] = refl
code_blank (i ∷ is) =
    both_true (list_all is_space (indent_of i)) (every blank (map insn_line is)) (insn_blank i) (code_blank is)

blanks_joined : (ls ks : List Line) → every blank ls ≡ true → every blank ks ≡ true → every blank (ls ++ ks) ≡ true
blanks_joined [] ks h k = k
blanks_joined (l ∷ ls) ks h k =
    both_true (blank l) (every blank (ls ++ ks)) (left_true (blank l) (every blank ls) h)
    (blanks_joined ls ks (right_true (blank l) (every blank ls) h) k)

funs_blank : (m : Name) (fs : List AsmFun) → every blank (flat_map (function_lines m) fs) ≡ true
funs_blank m [] = refl
funs_blank m (f ∷ fs) =
    blanks_joined (function_lines m f) (flat_map (function_lines m) fs) (code_blank f.code) (funs_blank m fs)

-- Lines that can be read.

are_lines : (ls : List Line) → every blank ls ≡ true
    → list_all (λ t. leb (depth t) most_nesting) (map (λ (l : Line). l.form) ls) ≡ true
    → every is_sane (map (λ (l : Line). l.form) ls) ≡ true → every is_line ls ≡ true
are_lines [] b d s = refl
are_lines (l ∷ ls) b d s =
    let deep = leb (depth l.form) most_nesting in
    let others = list_all (λ t. leb (depth t) most_nesting) (map (λ (l : Line). l.form) ls) in
    let sane = left_true (is_sane l.form) (every is_sane (map (λ (l : Line). l.form) ls)) s in
    both_true (is_line l) (every is_line ls)
    (both_true (blank l && deep && fits l.form) (maps_rise l.form)
    (both_true (blank l && deep) (fits l.form)
    (both_true (blank l) deep (left_true (blank l) (every blank ls) b) (left_true deep others d))
    (left_true (fits l.form) (maps_rise l.form) sane))
    (right_true (fits l.form) (maps_rise l.form) sane))
    (are_lines ls (right_true (blank l) (every blank ls) b) (right_true deep others d)
    (right_true (is_sane l.form) (every is_sane (map (λ (l : Line). l.form) ls)) s))

-- what is used of the forms of a text
pub record Laws : Type 0 where
  pub read : (ls : List Line) (a : AsmModule) → Valid a → IsTrue (every is_line ls)
      → map (λ (l : Line). l.form) ls ≡ forms a → CharactersOf (lines ls) a
  pub sane : (a : AsmModule) → Valid a → IsTrue (every is_sane (forms a))

pub printed_is_read : Laws → (a : AsmModule) → Valid a → FormsNest most_nesting a → CharactersOf (module_text a) a
unfolding module_text FormsNest
printed_is_read w a v n =
    let e = sym (module_forms a) in
    w.read (module_lines a) a v
    (are_lines (module_lines a)
    (blanks_joined (first_lines a) (flat_map (function_lines a.name) a.funs) refl (funs_blank a.name a.funs))
    (subst (λ ts. list_all (λ t. leb (depth t) most_nesting) ts ≡ true) e n)
    (subst (λ ts. every is_sane ts ≡ true) e (w.sane a v)))
    (module_forms a)

-- characters have bytes that are UTF-8
pub has_bytes : (text : List ℕ) → IsTrue (is_text text) → IsUtf8 (encode_utf8_all text)
has_bytes text h = (text, (all_scalars text h, refl))
  where
    all_scalars : (cs : List ℕ) → list_all scalar cs ≡ true → scalars cs ≡ true
    all_scalars [] h = refl
    all_scalars (c ∷ cs) h =
        both_true (scalar c) (scalars cs) (left_true (scalar c) (list_all scalar cs) h)
        (all_scalars cs (right_true (scalar c) (list_all scalar cs) h))

-- characters of this text, as bytes
pub has_text : (text : List ℕ) (a : AsmModule) → IsUtf8 (encode_utf8_all text) → text ≡ module_text a
    → CharactersOf (module_text a) a → AssemblyText (encode_utf8_all text) a
has_text text a u e h = record {
  utf8 = u;
  characters = subst (λ cs. CharactersOf cs a) (sym (encodes_same (chars (encode_utf8_all text)) text
      (encodes-chars (encode_utf8_all text) u) ∙ e)) h;
}

-- an instruction that is no label
pub other_indent : (i : Written) → ((l : LabelId) → i ≡ V.Label l → ⊥) → codes "    " ≡ indent_of (insn_view i)
other_indent (V.Label l) h = absurd (h l refl)
other_indent i h = refl
