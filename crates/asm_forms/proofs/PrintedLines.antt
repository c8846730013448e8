-- Forms on lines of their own are the forms of a text.
use Rattle.std.proofs.Common.{◌≡◌, ℕ, ◌≤◌, refl, sym, ap, ◌∙◌, subst, List, [], ◌∷◌, ◌++◌, map, length, append_assoc, true, ◌&&◌, leb, codes}
use Rattle.std.specs.List.{list_all}
use Rattle.std.proofs.lemmas.Bool.{leb-true}
use Rattle.erl_term.specs.Term.{Term}
use Rattle.erl_term.specs.Depth.{depth}
use Rattle.erl_term.specs.Ranges.{fits}
use Rattle.erl_term.specs.WellFormed.{maps_rise}
use Rattle.erl_term.proofs.Forms.{left_true, right_true, both_true}
use Rattle.term_text.specs.TermText.{term_on}
use Rattle.term_read.specs.Lexemes.{is_space, behind_blanks}
use Rattle.term_read.specs.TermGrammar.{most_nesting}
use Rattle.form_read.specs.Forms.{TextForm, IsForm, AreForms, no_forms, some_forms, form_start}
use Rattle.form_read.proofs.FormsRead.{indent_skipped, printed_is_form}
use Rattle.beam_table.specs.Code.{AsmModule}
use Rattle.beam_table.specs.ModuleForms.{forms}
use Rattle.beam_table.specs.ValidModule.{every}
use Rattle.asm_forms.specs.Lines.{Line, lines, is_line}
use Rattle.asm_forms.specs.ModuleOfText.{FormsOf, CharactersOf}

-- forms of characters, with these terms
pub record Spelled (total : ℕ) (cs : List ℕ) (ts : List Term) : Type 0 where
  pub forms : List TextForm
  pub spelled : AreForms total cs forms
  pub terms : map (λ f. f.term) forms ≡ ts

spaces_both : (a b : List ℕ) → list_all is_space a ≡ true → list_all is_space b ≡ true
    → list_all is_space (a ++ b) ≡ true
spaces_both [] b h k = k
spaces_both (c ∷ a) b h k =
    both_true (is_space c) (list_all is_space (a ++ b)) (left_true (is_space c) (list_all is_space a) h)
    (spaces_both a b (right_true (is_space c) (list_all is_space a) h) k)

lines_read : (total : ℕ) (before : List ℕ) (ls : List Line) → list_all is_space before ≡ true
    → every is_line ls ≡ true → Spelled total (before ++ lines ls) (map (λ l. l.form) ls)
unfolding behind_blanks
lines_read total before [] b g = record {
  forms = [];
  spelled = no_forms (before ++ []) (indent_skipped before [] b);
  terms = refl;
}
lines_read total before (l ∷ ls) b g =
    let first = left_true (is_line l) (every is_line ls) g in
    let front = left_true (list_all is_space l.indent && leb (depth l.form) most_nesting && fits l.form)
    (maps_rise l.form) first in
    let nest = left_true (list_all is_space l.indent && leb (depth l.form) most_nesting) (fits l.form) front in
    let indent = before ++ l.indent in
    let blank = spaces_both before l.indent b
    (left_true (list_all is_space l.indent) (leb (depth l.form) most_nesting) nest) in
    let deep : depth l.form ≤ most_nesting =
    leb-true (depth l.form) most_nesting
    (right_true (list_all is_space l.indent) (leb (depth l.form) most_nesting) nest) in
    let rest = 10 ∷ lines ls in
    let f : IsForm (indent ++ term_on l.form (codes "." ++ rest)) l.form rest =
    printed_is_form indent l.form rest blank deep
    (right_true (list_all is_space l.indent && leb (depth l.form) most_nesting) (fits l.form) front)
    (right_true (list_all is_space l.indent && leb (depth l.form) most_nesting && fits l.form) (maps_rise l.form) first)
    refl in
    let r = lines_read total (10 ∷ []) ls refl (right_true (is_line l) (every is_line ls) g) in
    let whole : indent ++ term_on l.form (codes "." ++ rest) ≡ before ++ lines (l ∷ ls) =
    append_assoc before l.indent (term_on l.form (codes "." ++ rest)) in
    subst (λ cs. Spelled total cs (map (λ k. k.form) (l ∷ ls))) whole (record {
      forms =
          record { start = form_start total (indent ++ term_on l.form (codes "." ++ rest)); term = l.form } ∷ r.forms;
      spelled = some_forms (indent ++ term_on l.form (codes "." ++ rest)) rest l.form r.forms f r.spelled;
      terms = ap (λ ts. l.form ∷ ts) r.terms;
    })

pub printed_lines : (ls : List Line) (a : AsmModule) → every is_line ls ≡ true → map (λ l. l.form) ls ≡ forms a
    → FormsOf (forms a) a → CharactersOf (lines ls) a
printed_lines ls a g e f =
    let s = lines_read (length (lines ls)) [] ls refl g in
    record {
      forms = s.forms;
      spelled = s.spelled;
      read = subst (λ ts. FormsOf ts a) (sym (s.terms ∙ e)) f;
    }
