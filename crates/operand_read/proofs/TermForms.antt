-- Terms of the program by their forms: what each form is read as, and what reads as nothing.
use Rattle.std.proofs.Common.{◌≡◌, refl, sym, ap, ◌∙◌, subst, List, [], ◌∷◌, map, Some, None, IsTrue, not}
use Rattle.erl_term.specs.declared.term.Term.{Term, out-Term}
use Rattle.erl_term.specs.declared.term.Term.TheVariants as V
use Rattle.erl_term.specs.declared.term.Term.TheViews.{roll-Term, roll-out-Term}
use Rattle.erl_term.specs.declared.term.Term.TheOpen.{Term-F}
use Rattle.erl_term.specs.declared.term.Term.TheOpen as form
use Rattle.erl_term.specs.declared.term.Pair.{Pair}
use Rattle.erl_term.specs.Term as T
use Rattle.erl_term.specs.Terms.{list_of}
use Rattle.erl_term.specs.View.{view}
use Rattle.erl_term.specs.WellFormed.{layout, IsNormal}
use Rattle.erl_term.specs.Comparing.{AllNormal}
use Rattle.erl_term.proofs.Forms.{seen, laid, view_as, layout-out, left_true, right_true}
use Rattle.term_read.specs.Lexemes.{◌>>=◌}
use Rattle.insn_terms.specs.Reading.{integer_of, atom_of, items_of, elements_of}
use Rattle.insn_terms.proofs.Apart.{items_there, listed-terms}

normal_form : (t : Term) (f : Term-F Term Pair) → out-Term t ≡ f → IsNormal t → IsTrue (laid f).normal
normal_form t f e n = subst (λ g. IsTrue (laid g).normal) e (subst (λ l. IsTrue l.normal) (layout-out t) n)

no_int_form : (f : Term-F Term Pair) → IsTrue (laid f).normal → ((z : _) → f ≡ form.Int z → ⊥)
    → integer_of (seen f) ≡ None
no_int_form (form.Int z) n h = absurd (h z refl)
no_int_form (form.List [] t) n h = absurd cc
no_int_form (form.List (x ∷ xs) t) n h = refl
no_int_form f n h = refl

pub no_int : (t : Term) → IsNormal t → ((z : _) → t ≡ V.Int z → ⊥) → integer_of (view t) ≡ None
no_int t n h =
    ap integer_of (view_as t (out-Term t) refl)
    ∙ no_int_form (out-Term t) (normal_form t (out-Term t) refl n)
    (λ z e. h z (sym (roll-out-Term t) ∙ ap roll-Term e ∙ V.rolls-Int z))

no_atom_form : (f : Term-F Term Pair) → IsTrue (laid f).normal → ((a : _) → f ≡ form.Atom a → ⊥)
    → atom_of (seen f) ≡ None
no_atom_form (form.Atom a) n h = absurd (h a refl)
no_atom_form (form.List [] t) n h = absurd cc
no_atom_form (form.List (x ∷ xs) t) n h = refl
no_atom_form f n h = refl

pub no_atom : (t : Term) → IsNormal t → ((a : _) → t ≡ V.Atom a → ⊥) → atom_of (view t) ≡ None
no_atom t n h =
    ap atom_of (view_as t (out-Term t) refl)
    ∙ no_atom_form (out-Term t) (normal_form t (out-Term t) refl n)
    (λ a e. h a (sym (roll-out-Term t) ∙ ap roll-Term e ∙ V.rolls-Atom a))

no_tuple_form : (f : Term-F Term Pair) → IsTrue (laid f).normal → ((ts : _) → f ≡ form.Tuple ts → ⊥)
    → elements_of (seen f) ≡ None
no_tuple_form (form.Tuple ts) n h = absurd (h ts refl)
no_tuple_form (form.List [] t) n h = absurd cc
no_tuple_form (form.List (x ∷ xs) t) n h = refl
no_tuple_form f n h = refl

pub no_tuple : (t : Term) → IsNormal t → ((ts : _) → t ≡ V.Tuple ts → ⊥) → elements_of (view t) ≡ None
no_tuple t n h =
    ap elements_of (view_as t (out-Term t) refl)
    ∙ no_tuple_form (out-Term t) (normal_form t (out-Term t) refl n)
    (λ ts e. h ts (sym (roll-out-Term t) ∙ ap roll-Term e ∙ V.rolls-Tuple ts))

pub tuple_elements : (t : Term) (ts : List Term) → t ≡ V.Tuple ts → elements_of (view t) ≡ Some (map view ts)
tuple_elements t ts e =
    ap elements_of (view_as t (form.Tuple ts) (ap out-Term e ∙ V.outs-Tuple ts)) ∙ ap Some (listed-terms (map view ts))

pub tuple_normal : (t : Term) (ts : List Term) → t ≡ V.Tuple ts → IsNormal t → AllNormal ts
tuple_normal t ts e n = normal_form t (form.Tuple ts) (ap out-Term e ∙ V.outs-Tuple ts) n

items_none : (ts : List T.Term) (u : T.Term) → items_of u ≡ None → items_of (list_of ts u) ≡ None
items_none [] u e = e
items_none (t ∷ ts) u e = ap (λ r. r >>= λ us. Some (t ∷ us)) (items_none ts u e)

view_list : (t u : Term) (ts : List Term) → t ≡ V.List ts u → view t ≡ list_of (map view ts) (view u)
view_list t u ts e = view_as t (form.List ts u) (ap out-Term e ∙ V.outs-List ts u)

pub list_items_read : (t u : Term) (ts : List Term) → t ≡ V.List ts u → u ≡ V.Nil
    → items_of (view t) ≡ Some (map view ts)
list_items_read t u ts e k =
    ap items_of (view_list t u ts e ∙ ap (list_of (map view ts)) (view_as u form.Nil (ap out-Term k ∙ V.outs-Nil)))
    ∙ items_there (map view ts)

no_tail_form : (f : Term-F Term Pair) → IsTrue (not (laid f).listed) → (f ≡ form.Nil → ⊥) → items_of (seen f) ≡ None
no_tail_form form.Nil n h = absurd (h refl)
no_tail_form (form.List xs t) n h = absurd cc
no_tail_form f n h = refl

pub list_without_end : (t u : Term) (ts : List Term) → t ≡ V.List ts u → IsNormal t → (u ≡ V.Nil → ⊥)
    → items_of (view t) ≡ None
list_without_end t u ts e n h =
    let k : IsTrue (laid (form.List ts u)).normal = normal_form t _ (ap out-Term e ∙ V.outs-List ts u) n in
    let l : IsTrue (not (layout u).listed) = right_true _ (not (layout u).listed) k in
    ap items_of (view_list t u ts e)
    ∙ items_none (map view ts) (view u)
    (ap items_of (view_as u (out-Term u) refl)
    ∙ no_tail_form (out-Term u) (subst (λ m. IsTrue (not m.listed)) (layout-out u) l)
    (λ f. h (sym (roll-out-Term u) ∙ ap roll-Term f ∙ V.rolls-Nil)))

no_list_form : (f : Term-F Term Pair) → (f ≡ form.Nil → ⊥) → ((ts : _) (u : _) → f ≡ form.List ts u → ⊥)
    → items_of (seen f) ≡ None
no_list_form form.Nil h k = absurd (h refl)
no_list_form (form.List xs t) h k = absurd (k xs t refl)
no_list_form f h k = refl

pub no_list : (t : Term) → (t ≡ V.Nil → ⊥) → ((ts : _) (u : _) → t ≡ V.List ts u → ⊥) → items_of (view t) ≡ None
no_list t h k =
    ap items_of (view_as t (out-Term t) refl)
    ∙ no_list_form (out-Term t) (λ e. h (sym (roll-out-Term t) ∙ ap roll-Term e ∙ V.rolls-Nil))
    (λ ts u e. k ts u (sym (roll-out-Term t) ∙ ap roll-Term e ∙ V.rolls-List ts u))

pub list_normal : (t u : Term) (ts : List Term) → t ≡ V.List ts u → IsNormal t → AllNormal ts
list_normal t u ts e n =
    let k : IsTrue (laid (form.List ts u)).normal = normal_form t _ (ap out-Term e ∙ V.outs-List ts u) n in
    right_true _ _ (left_true _ (layout u).normal (left_true _ (not (layout u).listed) k))
