-- The function that finds the first fault of a text finds none exactly where the text has a module.
use Rattle.std.proofs.Common.{◌≡◌, ℕ, zero, suc, ◌<◌, ◌≤◌, refl, ap, ◌∙◌, List, [], ◌∷◌, map, length, take, Bool, true, false, codes, Option, Some, None, if◌then◌else◌, IsUtf8, chars, arith}
use Rattle.std.proofs.lemmas.Str.{IsUtf8-from_is_utf8, is_utf8-from_IsUtf8}
use Rattle.std.specs.Str.{is_utf8}
use Rattle.std.specs.Str.Lossy.{utf8_valid_len}
use Rattle.erl_term.specs.Term.{Term}
use Rattle.erl_term.proofs.Forms.{left_true, right_true, both_true}
use Rattle.term_read.specs.Lexemes.{◌>>=◌}
use Rattle.term_read.specs.TermGrammar.{most_nesting}
use Rattle.term_read.proofs.Consuming.{terms_shorten}
use Rattle.term_read.proofs.Shorter.{mark_shorter}
use Rattle.form_read.specs.Forms.{IsForm, TextForm, AreForms, no_forms, some_forms, form_start, next_form}
use Rattle.form_read.proofs.FormsRead.{end_sound, end_complete, form_sound, form_complete}
use Rattle.beam_table.specs.Code.{AsmModule}
use Rattle.beam_table.specs.ValidModule.{every, attribute_ok, Valid}
use Rattle.asm_forms.specs.Stages.{Head, Stage, at_start, stage_behind, stage_behind_all, whole_head}
use Rattle.asm_forms.specs.ModuleOfText.{module_of_head, FormsAgree, AssemblyText, is_valid, forms_agree, fault_at_end, fault_by_stage, fault_by_form, fault_behind, fault_in, fault_at}

-- Tests and facts.

valid_told : (a : AsmModule) → is_valid a ≡ true → Valid a
unfolding is_valid
valid_told a h =
    let front = left_true _ (every attribute_ok a.attributes) h in
    let funs = left_true _ _ front in
    record {
      labels = left_true _ _ funs;
      functions = right_true _ _ funs;
      exports = right_true _ _ front;
      attributes = right_true _ _ h;
    }

valid_tested : (a : AsmModule) → Valid a → is_valid a ≡ true
unfolding is_valid
valid_tested a v =
    both_true _ _ (both_true _ _ (both_true _ _ v.labels v.functions) v.exports) v.attributes

agree_told : (h : Head) → forms_agree h ≡ true → FormsAgree h
agree_told h e =
    let front = left_true _ (is_valid (module_of_head h)) e in
    record {
      infos = left_true _ _ front;
      below = right_true _ _ front;
      valid = valid_told (module_of_head h) (right_true _ (is_valid (module_of_head h)) e);
    }

agree_tested : (h : Head) → FormsAgree h → forms_agree h ≡ true
agree_tested h f = both_true _ _ (both_true _ _ f.infos f.below) (valid_tested (module_of_head h) f.valid)

-- Forms that are left of a text, from a stage on.

pub record Rest (total : ℕ) (s : Stage) (cs : List ℕ) : Type 0 where
  pub forms : List TextForm
  pub spelled : AreForms total cs forms
  pub head : Head
  pub ordered : (stage_behind_all s (map (λ f. f.term) forms) >>= whole_head) ≡ Some head
  pub agree : FormsAgree head

end_told : (total : ℕ) (o : Option Head) → fault_at_end total o ≡ None → (h : Head) × (o ≡ Some h) × FormsAgree h
end_told total None e = absurd cc
end_told total (Some h) e = (h, refl, agree_told h (by (forms_agree h) e))
  where
    by : (b : Bool) → (if b then None else Some total) ≡ None → b ≡ true
    by true g = refl
    by false g = absurd cc

end_tested : (total : ℕ) (o : Option Head) (h : Head) → o ≡ Some h → FormsAgree h → fault_at_end total o ≡ None
end_tested total o h e f =
    ap (fault_at_end total) e ∙ ap (λ (b : Bool). if b then None else Some total) (agree_tested h f)

pub no_fault : (n total : ℕ) (s : Stage) (cs : List ℕ) → fault_behind n total s cs ≡ None → Rest total s cs
no_fault zero total s cs e = absurd cc
no_fault (suc n) total s cs e = by (next_form cs) refl e (λ u ds h. no_fault n total u ds h)
  where
    step : (t : Term) (ds : List ℕ) (o : Option Stage) → IsForm cs t ds → stage_behind s t ≡ o
        → fault_by_stage (form_start total cs) (λ u. fault_behind n total u ds) o ≡ None
        → ((u : Stage) (es : List ℕ) → fault_behind n total u es ≡ None → Rest total u es) → Rest total s cs
    step t ds None f w h k = absurd cc
    step t ds (Some u) f w h k =
        let r = k u ds h in
        record {
          forms = record { start = form_start total cs; term = t } ∷ r.forms;
          spelled = some_forms cs ds t r.forms f r.spelled;
          head = r.head;
          ordered = ap (λ o. (o >>= λ v. stage_behind_all v (map (λ g. g.term) r.forms)) >>= whole_head) w ∙ r.ordered;
          agree = r.agree;
        }

    by : (o : Option (Option (Term × List ℕ))) → next_form cs ≡ o
        → fault_by_form (form_start total cs) (fault_at_end total (whole_head s))
        (λ f. fault_by_stage (form_start total cs) (λ u. fault_behind n total u f.1) (stage_behind s f.0)) o ≡ None
        → ((u : Stage) (es : List ℕ) → fault_behind n total u es ≡ None → Rest total u es) → Rest total s cs
    by None w h k = absurd cc
    by (Some None) w h k =
        let x = end_told total (whole_head s) h in
        record {
          forms = [];
          spelled = no_forms cs (end_sound cs w);
          head = x.0;
          ordered = x.1;
          agree = x.2;
        }
    by (Some (Some f)) w h k = step f.0 f.1 (stage_behind s f.0) (form_sound cs f.1 f.0 w) refl h k

-- A form has a character at least.
form_shorter : (cs ds : List ℕ) (t : Term) → IsForm cs t ds → length ds < length cs
form_shorter cs ds t f =
    let a = (terms_shorten most_nesting).shorter cs f.between t f.reads in
    let b = mark_shorter (codes ".") f.between ds f.stop in
    omega (arith, a, b)

few_forms : (total : ℕ) (cs : List ℕ) (fs : List TextForm) → AreForms total cs fs → length fs ≤ length cs
few_forms total _ _ (no_forms cs b) = omega arith
few_forms total _ _ (some_forms cs ds t fs f r) =
    let a = few_forms total ds fs r in let b = form_shorter cs ds t f in omega (arith, a, b)

pub fault_free : (n total : ℕ) (s : Stage) (cs : List ℕ) (fs : List TextForm) (h : Head) → AreForms total cs fs
    → (stage_behind_all s (map (λ f. f.term) fs) >>= whole_head) ≡ Some h → FormsAgree h → length fs < n
    → fault_behind n total s cs ≡ None
fault_free zero total s cs fs h r e g k = absurd (omega (arith, k))
fault_free (suc n) total s _ _ h (no_forms cs b) e g k =
    ap (fault_by_form (form_start total cs) (fault_at_end total (whole_head s))
    (λ f. fault_by_stage (form_start total cs) (λ u. fault_behind n total u f.1) (stage_behind s f.0)))
    (end_complete cs b)
    ∙ end_tested total (whole_head s) h e g
fault_free (suc n) total s _ _ h (some_forms cs ds t fs f r) e g k =
    ap (fault_by_form (form_start total cs) (fault_at_end total (whole_head s))
    (λ f. fault_by_stage (form_start total cs) (λ u. fault_behind n total u f.1) (stage_behind s f.0)))
    (form_complete cs ds t f)
    ∙ by (stage_behind s t) e (λ u d. fault_free n total u ds fs h r d g (omega (arith, k)))
  where
    by : (o : Option Stage) → ((o >>= λ u. stage_behind_all u (map (λ f. f.term) fs)) >>= whole_head) ≡ Some h
        → ((u : Stage) → (stage_behind_all u (map (λ f. f.term) fs) >>= whole_head) ≡ Some h
        → fault_behind n total u ds ≡ None)
        → fault_by_stage (form_start total cs) (λ u. fault_behind n total u ds) o ≡ None
    by None d later = absurd cc
    by (Some u) d later = later u d

-- Whole texts.

text_told : (bytes : List ℕ) → IsUtf8 bytes → fault_in (chars bytes) ≡ None → (a : AsmModule) × AssemblyText bytes a
unfolding fault_in
text_told bytes u e =
    let r = no_fault (suc (length (chars bytes))) (length (chars bytes)) at_start (chars bytes) e in (
      module_of_head r.head,
      record {
        utf8 = u;
        characters = record {
          forms = r.forms;
          spelled = r.spelled;
          read = record { head = r.head; ordered = r.ordered; agree = r.agree; whole = refl };
        };
      },
    )

text_tested : (bytes : List ℕ) (a : AsmModule) → AssemblyText bytes a → fault_in (chars bytes) ≡ None
unfolding fault_in
text_tested bytes a x =
    let c = x.characters in
    let k = few_forms (length (chars bytes)) (chars bytes) c.forms c.spelled in
    fault_free (suc (length (chars bytes))) (length (chars bytes)) at_start (chars bytes) c.forms c.read.head c.spelled
    c.read.ordered c.read.agree (omega (arith, k))

pub faultless : (bytes : List ℕ) → fault_at bytes ≡ None → (a : AsmModule) × AssemblyText bytes a
unfolding fault_at
faultless bytes e = by (is_utf8 bytes) refl e
  where
    by : (b : Bool) → is_utf8 bytes ≡ b
        → (if b then fault_in (chars bytes) else Some (length (chars (take (utf8_valid_len bytes) bytes)))) ≡ None
        → (a : AsmModule) × AssemblyText bytes a
    by true w h = text_told bytes (IsUtf8-from_is_utf8 bytes w) h
    by false w h = absurd cc

pub faultless_texts : (bytes : List ℕ) (a : AsmModule) → AssemblyText bytes a → fault_at bytes ≡ None
unfolding fault_at
faultless_texts bytes a x =
    ap (λ b. if b then fault_in (chars bytes) else Some (length (chars (take (utf8_valid_len bytes) bytes))))
    (is_utf8-from_IsUtf8 bytes x.utf8)
    ∙ text_tested bytes a x
