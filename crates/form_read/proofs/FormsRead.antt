-- The function that reads forms decides which characters are forms, and printed terms with full stops are some.
use Rattle.std.proofs.Common.{◌≡◌, ℕ, zero, suc, ◌≤◌, refl, sym, ap, ◌∙◌, subst, List, [], ◌∷◌, ◌++◌, codes, Option, Some, None, true, false, ◌==◌, if◌then◌else◌, IsTrue}
use Rattle.std.specs.List.{list_all}
use Rattle.erl_term.specs.Term.{Term}
use Rattle.erl_term.specs.Depth.{depth}
use Rattle.erl_term.specs.Ranges.{fits}
use Rattle.erl_term.specs.WellFormed.{maps_rise}
use Rattle.erl_term.proofs.Forms.{left_true, right_true}
use Rattle.term_text.specs.TermText.{term_on}
use Rattle.term_read.specs.Lexemes.{◌>>=◌, is_space, blanks_skipped, behind_blanks, mark_at}
use Rattle.term_read.specs.TermGrammar.{Form, ReadsTerm, most_nesting}
use Rattle.term_read.specs.Reading.{form_by, read_by}
use Rattle.term_read.proofs.Shorter.{bound, some_same, chosen}
use Rattle.term_read.proofs.Deciding.{never_some}
use Rattle.term_read.proofs.FormSound.{reads_sound}
use Rattle.term_read.proofs.FormComplete.{reads_complete}
use Rattle.term_read.proofs.TermsRead.{printed_is_read}
use Rattle.form_read.specs.Forms.{is_apart, full_stop, form_front, form_start, end_or_form, next_form, IsForm, TextForm, AreForms, no_forms, some_forms}

-- A form.

abbrev kept : List ℕ → Option (List ℕ)
kept ds = if is_apart ds then Some ds else None

abbrev given : Term → List ℕ → Option (Term × List ℕ)
given t ds = Some (t, ds)

abbrev stopped : Term × List ℕ → Option (Term × List ℕ)
stopped t = full_stop t.1 >>= given t.0

stop_sound : (cs ds : List ℕ) → full_stop cs ≡ Some ds → (mark_at (codes ".") cs ≡ Some ds) × IsTrue (is_apart ds)
unfolding full_stop
stop_sound cs ds e =
    let x = bound (mark_at (codes ".") cs) kept ds e in
    let k = chosen (is_apart x.0) x.0 ds x.2 in
    (x.1 ∙ ap (λ (es : List ℕ). Some es) k.1, subst (λ es. IsTrue (is_apart es)) k.1 k.0)

stop_complete : (cs ds : List ℕ) → mark_at (codes ".") cs ≡ Some ds → IsTrue (is_apart ds) → full_stop cs ≡ Some ds
unfolding full_stop
stop_complete cs ds e k = ap (λ r. r >>= kept) e ∙ ap (λ b. if b then Some ds else None) k

front_sound : (cs ds : List ℕ) (t : Term) → form_front cs ≡ Some (t, ds) → IsForm cs t ds
unfolding form_front
front_sound cs ds t e =
    let x = bound (read_by most_nesting cs) stopped (t, ds) e in
    let y = bound (full_stop (x.0).1) (given (x.0).0) (t, ds) x.2 in
    let s = stop_sound (x.0).1 y.0 y.1 in
    subst (λ (f : Term × List ℕ). IsForm cs f.0 f.1) (some_same ((x.0).0, y.0) (t, ds) y.2)
    (record {
      between = (x.0).1;
      reads = (reads_sound most_nesting).reads cs (x.0).1 (x.0).0 x.1;
      stop = s.0;
      apart = s.1;
    })

front_complete : (cs ds : List ℕ) (t : Term) → IsForm cs t ds → form_front cs ≡ Some (t, ds)
unfolding form_front
front_complete cs ds t h =
    ap (λ r. r >>= stopped) ((reads_complete most_nesting).read cs h.between t h.reads)
    ∙ ap (λ r. r >>= given t) (stop_complete h.between ds h.stop h.apart)

-- where nothing is left, no term is read
no_term : (d : ℕ) (cs : List ℕ) → behind_blanks cs ≡ [] → read_by d cs ≡ None
unfolding form_by
no_term zero cs e = refl
no_term (suc d) cs e = ap (form_by d (read_by d)) e

no_form : (cs : List ℕ) → behind_blanks cs ≡ [] → form_front cs ≡ None
unfolding form_front
no_form cs e = ap (λ r. r >>= stopped) (no_term most_nesting cs e)

-- The end, or the next form.

is_end : (left : List ℕ) (form : Option (Term × List ℕ)) → end_or_form left form ≡ Some None → left ≡ []
is_end [] form e = refl
is_end (c ∷ cs) None e = absurd cc
is_end (c ∷ cs) (Some x) e = absurd cc

pub end_sound : (cs : List ℕ) → next_form cs ≡ Some None → behind_blanks cs ≡ []
unfolding next_form
end_sound cs e = is_end (behind_blanks cs) (form_front cs) e

pub end_complete : (cs : List ℕ) → behind_blanks cs ≡ [] → next_form cs ≡ Some None
unfolding next_form
end_complete cs e = ap (λ left. end_or_form left (form_front cs)) e

is_form : (left : List ℕ) (form : Option (Term × List ℕ)) (x : Term × List ℕ) → end_or_form left form ≡ Some (Some x)
    → form ≡ Some x
is_form [] form x e = absurd cc
is_form (c ∷ cs) None x e = absurd cc
is_form (c ∷ cs) (Some y) x e = some_same (Some y) (Some x) e

pub form_sound : (cs ds : List ℕ) (t : Term) → next_form cs ≡ Some (Some (t, ds)) → IsForm cs t ds
unfolding next_form
form_sound cs ds t e = front_sound cs ds t (is_form (behind_blanks cs) (form_front cs) (t, ds) e)

form_there : (cs left : List ℕ) (x : Term × List ℕ) → behind_blanks cs ≡ left → form_front cs ≡ Some x
    → end_or_form left (form_front cs) ≡ Some (Some x)
form_there cs [] x e f = absurd (never_some x (sym (no_form cs e) ∙ f))
form_there cs (c ∷ left) x e f = ap (end_or_form (c ∷ left)) f

pub form_complete : (cs ds : List ℕ) (t : Term) → IsForm cs t ds → next_form cs ≡ Some (Some (t, ds))
unfolding next_form
form_complete cs ds t h = form_there cs (behind_blanks cs) (t, ds) refl (front_complete cs ds t h)

-- Rows of forms.

abbrev found : Term → List ℕ → Term × List ℕ
found t ds = (t, ds)

same_form : (cs ds es : List ℕ) (t u : Term) → IsForm cs t ds → IsForm cs u es → found t ds ≡ found u es
same_form cs ds es t u h k =
    some_same (found t ds) (found u es) (sym (front_complete cs ds t h) ∙ front_complete cs es u k)

not_at_end : (cs ds : List ℕ) (t : Term) → IsForm cs t ds → behind_blanks cs ≡ [] → ⊥
not_at_end cs ds t h e = never_some (found t ds) (sym (no_form cs e) ∙ front_complete cs ds t h)

end_alone : (total : ℕ) (cs : List ℕ) (fs : List TextForm) → AreForms total cs fs → behind_blanks cs ≡ [] → fs ≡ []
end_alone total _ _ (no_forms cs e) h = refl
end_alone total _ _ (some_forms cs ds t fs f r) h = absurd (not_at_end cs ds t f h)

-- the form, and then the same forms as behind it
first_alone : (total : ℕ) (cs ds : List ℕ) (t : Term) (fs gs : List TextForm) → IsForm cs t ds
    → ((hs : List TextForm) → AreForms total ds hs → fs ≡ hs) → AreForms total cs gs
    → record { start = form_start total cs; term = t } ∷ fs ≡ gs
first_alone total _ ds t fs _ f same (no_forms cs e) = absurd (not_at_end cs ds t f e)
first_alone total _ ds t fs _ f same (some_forms cs es u gs g r) =
    let both = same_form cs ds es t u f g in
    let again : AreForms total ds gs =
    subst (λ left. AreForms total left gs) (sym (ap (λ (x : Term × List ℕ). x.1) both)) r in
    ap (λ v. record { start = form_start total cs; term = v } ∷ fs) (ap (λ (x : Term × List ℕ). x.0) both)
    ∙ ap (λ hs. record { start = form_start total cs; term = u } ∷ hs) (same gs again)

pub same_forms : (total : ℕ) (cs : List ℕ) (fs : List TextForm) → AreForms total cs fs → (gs : List TextForm)
    → AreForms total cs gs → fs ≡ gs
same_forms total _ _ (no_forms cs e) gs k = sym (end_alone total cs gs k e)
same_forms total _ _ (some_forms cs ds t fs f r) gs k =
    first_alone total cs ds t fs gs f (λ hs m. same_forms total ds fs r hs m) k

-- Printed terms.

-- blanks are skipped
pub indent_skipped : (indent cs : List ℕ) → IsTrue (list_all is_space indent)
    → behind_blanks (indent ++ cs) ≡ behind_blanks cs
unfolding behind_blanks
indent_skipped [] cs h = refl
indent_skipped (c ∷ indent) cs h =
    ap (λ b. if b then blanks_skipped false (indent ++ cs) else
    if c == 37 then blanks_skipped true (indent ++ cs) else c ∷ (indent ++ cs))
    (left_true (is_space c) (list_all is_space indent) h)
    ∙ indent_skipped indent cs (right_true (is_space c) (list_all is_space indent) h)

reads_behind : (d : ℕ) (cs ds es : List ℕ) (t : Term) → behind_blanks cs ≡ behind_blanks ds → ReadsTerm d ds t es
    → ReadsTerm d cs t es
reads_behind zero cs ds es t e h = h
reads_behind (suc d) cs ds es t e h = subst (λ left. Form d (ReadsTerm d) left t es) (sym e) h

stop_there : (r : List ℕ) → mark_at (codes ".") (codes "." ++ r) ≡ Some r
unfolding mark_at behind_blanks
stop_there r = refl

pub printed_is_form : (indent : List ℕ) (t : Term) (r : List ℕ) → IsTrue (list_all is_space indent)
    → depth t ≤ most_nesting → IsTrue (fits t) → IsTrue (maps_rise t) → IsTrue (is_apart r)
    → IsForm (indent ++ term_on t (codes "." ++ r)) t r
printed_is_form indent t r b l f g k = record {
  between = codes "." ++ r;
  reads = reads_behind most_nesting (indent ++ term_on t (codes "." ++ r)) (term_on t (codes "." ++ r))
      (codes "." ++ r) t (indent_skipped indent (term_on t (codes "." ++ r)) b)
      (printed_is_read t (codes "." ++ r) l f g refl);
  stop = stop_there r;
  apart = k;
}
