-- Terms of the program by their forms: how they read, and what normal form says of their parts.
use Rattle.std.proofs.Common.{◌≡◌, refl, sym, ap, ◌∙◌, subst, List, IsTrue, Bool, true, false, not, ◌&&◌}
use Rattle.erl_term.specs.declared.term.Term.{Term, List as ListTerm, out-Term, map-Term, fold_out-Term}
use Rattle.erl_term.specs.declared.term.Term.TheVariants.{outs-List}
use Rattle.erl_term.specs.declared.term.Term.TheOpen.{Term-F}
use Rattle.erl_term.specs.declared.term.Term.TheOpen as form
use Rattle.erl_term.specs.declared.term.Pair.{Pair, fold_out-Pair}
use Rattle.erl_term.specs.Term as Plain
use Rattle.erl_term.specs.TermOrder.{rank}
use Rattle.erl_term.specs.View.{view, pair_view, view_step, pair_step}
use Rattle.erl_term.specs.WellFormed.{Layout, layout, pair_normal, layout_step, pair_layout_step, IsNormal}

-- the reading and the layout of a term, by its form
abbrev pub seen : Term-F Term Pair → Plain.Term
seen f = view_step (map-Term Term Pair Plain.Term (Plain.Term × Plain.Term) view pair_view f)

abbrev pub laid : Term-F Term Pair → Layout
laid f = layout_step (map-Term Term Pair Layout Bool layout pair_normal f)

pub view-out : (t : Term) → view t ≡ seen (out-Term t)
view-out t = fold_out-Term Plain.Term (Plain.Term × Plain.Term) view_step pair_step t

pub layout-out : (t : Term) → layout t ≡ laid (out-Term t)
layout-out t = fold_out-Term Layout Bool layout_step pair_layout_step t

pub view_as : (a : Term) (f : Term-F Term Pair) → out-Term a ≡ f → view a ≡ seen f
view_as a f e = view-out a ∙ ap seen e

abbrev pub NoCell : Plain.Term → Type 0
NoCell t = (rank t ≡ 10) → ⊥

pub left_true : (a b : Bool) → IsTrue (a && b) → IsTrue a
left_true true b h = refl
left_true false b h = cc

pub right_true : (a b : Bool) → IsTrue (a && b) → IsTrue b
right_true true b h = h
right_true false b h = cc

pub both_true : (a b : Bool) → IsTrue a → IsTrue b → IsTrue (a && b)
both_true true b g h = h
both_true false b g h = cc

-- a form in normal form that is no list reads as no cell
no_cell : (f : Term-F Term Pair) → IsTrue (not (laid f).listed) → NoCell (seen f)
no_cell (form.List xs t) h = λ e. cc
no_cell (form.Int z) h = λ e. cc
no_cell (form.Atom a) h = λ e. cc
no_cell form.Nil h = λ e. cc
no_cell (form.Tuple xs) h = λ e. cc
no_cell (form.Map ps) h = λ e. cc
no_cell (form.Bits b) h = λ e. cc
no_cell (form.Fun m s a xs) h = λ e. cc
no_cell (form.Extern m f a) h = λ e. cc
no_cell (form.Pid k) h = λ e. cc
no_cell (form.Reference k) h = λ e. cc
no_cell (form.Port k) h = λ e. cc
no_cell (form.RawTrace c) h = λ e. cc

pub tail_no_cell : (t : Term) → IsTrue (not (layout t).listed) → NoCell (view t)
tail_no_cell t h =
    subst NoCell (sym (view-out t))
    (no_cell (out-Term t) (subst (λ (l : Layout). IsTrue (not l.listed)) (layout-out t) h))

list_form : (a : Term) (xs : List Term) (t : Term) → a ≡ ListTerm xs t → layout a ≡ laid (form.List xs t)
list_form a xs t e = layout-out a ∙ ap laid (ap out-Term e ∙ outs-List xs t)

pub tail_normal : (a : Term) (xs : List Term) (t u : Term) → a ≡ ListTerm xs t → u ≡ t → IsNormal a → IsNormal u
tail_normal a xs t u e f n =
    let h : IsTrue (laid (form.List xs t)).normal = subst (λ (l : Layout). IsTrue l.normal) (list_form a xs t e) n in
    subst IsNormal (sym f) (right_true _ (layout t).normal (left_true _ (not (layout t).listed) h))

pub tail_not_listed : (a : Term) (xs : List Term) (t u : Term) → a ≡ ListTerm xs t → u ≡ t → IsNormal a
    → IsTrue (not (layout u).listed)
tail_not_listed a xs t u e f n =
    let h : IsTrue (laid (form.List xs t)).normal =
    subst (λ (l : Layout). IsTrue l.normal) (layout-out a ∙ ap laid (ap out-Term e ∙ outs-List xs t)) n in
    subst (λ w. IsTrue (not (layout w).listed)) (sym f) (right_true _ (not (layout t).listed) h)

pub value_normal : (p : Pair) → IsTrue (pair_normal p) → IsNormal p.value
value_normal p h = right_true (layout p.key).normal (layout p.value).normal
    (subst IsTrue (fold_out-Pair Layout Bool layout_step pair_layout_step p) h)
