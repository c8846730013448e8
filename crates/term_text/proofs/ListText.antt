-- The text of a list by its items and its tail.
use Rattle.std.proofs.Common.{◌≡◌, ◌≢◌, ℕ, ℤ, refl, sym, ap, ap₂, ◌∙◌, subst, List, [], ◌∷◌, ◌++◌, map, IsTrue, Bool, true, false, not, codes}
use Rattle.erl_base.specs.declared.ids.SiteId.{SiteId}
use Rattle.erl_term.specs.declared.term.Term.{Term, out-Term}
use Rattle.erl_term.specs.declared.term.Term.TheVariants as V
use Rattle.erl_term.specs.declared.term.Term.TheOpen.{Term-F}
use Rattle.erl_term.specs.declared.term.Term.TheOpen as form
use Rattle.erl_term.specs.declared.term.Pair.{Pair, fold_out-Pair}
use Rattle.erl_term.specs.Term as Plain
use Rattle.erl_term.specs.TermOrder.{rank}
use Rattle.erl_term.specs.Terms.{list_of}
use Rattle.term_text.specs.Decimal.{decimal_on, integer_on}
use Rattle.term_text.specs.Atoms.{atom_text}
use Rattle.term_text.specs.TermText.{texts, term_on, rest_on, row_on, pairs_on, comma}
use Rattle.term_text.specs.Printing.{Adds}
use Rattle.term_text.proofs.Growth.{adds}
use Rattle.erl_term.specs.View.{view, pair_view, view_step, pair_step}
use Rattle.erl_term.specs.WellFormed.{Layout, layout, IsNormal}
use Rattle.erl_term.specs.Comparing.{row, pair_row}
use Rattle.erl_term.proofs.Forms.{tail_no_cell, laid, layout-out, view_as}

rest_nil : (t : Plain.Term) → rank t ≡ 9 → (r : List ℕ) → rest_on t r ≡ codes "]" ++ r
unfolding texts
rest_nil Plain.nil e r = refl
rest_nil t e r = absurd cc

rest_other : (t : Plain.Term) → ((rank t ≡ 10) → ⊥) → ((rank t ≡ 9) → ⊥) → (r : List ℕ)
    → rest_on t r ≡ codes "|" ++ term_on t (codes "]" ++ r)
unfolding texts
rest_other Plain.nil n m r = absurd (m refl)
rest_other (Plain.cons x y) n m r = absurd (n refl)
rest_other t n m r = refl

pub nil_rest : (t : Term) (k : ℕ) → k ≡ rank (view t) → k ≡ 9 → (r : List ℕ) → rest_on (view t) r ≡ codes "]" ++ r
nil_rest t k e h = rest_nil (view t) (sym e ∙ h)

pub other_rest : (t : Term) (k : ℕ) → IsTrue (not (layout t).listed) → k ≡ rank (view t) → k ≢ 9
    → (r : List ℕ) → rest_on (view t) r ≡ codes "|" ++ term_on (view t) (codes "]" ++ r)
other_rest t k h e n = rest_other (view t) (tail_no_cell t h) (λ d. n (e ∙ d))

items_rest : (xs : List Term) (u : Plain.Term) (r : List ℕ)
    → rest_on (list_of (map view xs) u) r ≡ row_on false (row xs) (rest_on u r)
unfolding texts
items_rest [] u r = refl
items_rest (x ∷ xs) u r = ap (λ q. codes "," ++ term_on (view x) q) (items_rest xs u r)

list_text : (x : Term) (xs : List Term) (u : Plain.Term) (r : List ℕ)
    → term_on (list_of (map view (x ∷ xs)) u) r ≡ codes "[" ++ row_on true (row (x ∷ xs)) (rest_on u r)
unfolding texts
list_text x xs u r = ap (λ q. codes "[" ++ term_on (view x) q) (items_rest xs u r)

list_as : (a : Term) (xs : List Term) (t : Term) → out-Term a ≡ form.List xs t → IsNormal a
    → (r : List ℕ) → term_on (view a) r ≡ codes "[" ++ row_on true (row xs) (rest_on (view t) r)
list_as a [] t e n r = let h : false ≡ true = subst (λ (l : Layout). IsTrue l.normal) (layout-out a ∙ ap laid e) n in cc
list_as a (x ∷ xs) t e n r = ap (λ u. term_on u r) (view_as a (form.List (x ∷ xs) t) e) ∙ list_text x xs (view t) r

pub list_at : (a : Term) (xs v : List Term) (t u : Term) → a ≡ V.List xs t → v ≡ xs → u ≡ t → IsNormal a
    → (r : List ℕ) → codes "[" ++ row_on true (row v) (rest_on (view u) r) ≡ term_on (view a) r
list_at a xs v t u e f g n r =
    ap₂ (λ y w. codes "[" ++ row_on true (row y) (rest_on (view w) r)) f g
    ∙ sym (list_as a xs t (ap out-Term e ∙ V.outs-List xs t) n r)

pub integer_at : (a : Term) (z : ℤ) → a ≡ V.Int z → (r : List ℕ) → integer_on z r ≡ term_on (view a) r
unfolding texts
integer_at a z e r = sym (ap (λ u. term_on u r) (view_as a (form.Int z) (ap out-Term e ∙ V.outs-Int z)))

pub tuple_at : (a : Term) (xs v : List Term) → a ≡ V.Tuple xs → v ≡ xs → (r : List ℕ)
    → codes "{" ++ row_on true (row v) (codes "}" ++ r) ≡ term_on (view a) r
unfolding texts
tuple_at a xs v e f r =
    ap (λ y. codes "{" ++ row_on true (row y) (codes "}" ++ r)) f
    ∙ sym (ap (λ u. term_on u r) (view_as a (form.Tuple xs) (ap out-Term e ∙ V.outs-Tuple xs)))

pub map_at : (a : Term) (ps v : List Pair) → a ≡ V.Map ps → v ≡ ps → (r : List ℕ)
    → codes "#{" ++ pairs_on true (pair_row v) (codes "}" ++ r) ≡ term_on (view a) r
unfolding texts
map_at a ps v e f r =
    ap (λ y. codes "#{" ++ pairs_on true (pair_row y) (codes "}" ++ r)) f
    ∙ sym (ap (λ u. term_on u r) (view_as a (form.Map ps) (ap out-Term e ∙ V.outs-Map ps)))

pub fun_at : (a : Term) (m : List ℕ) (s : SiteId) (k : ℕ) (xs v : List Term) → a ≡ V.Fun m s k xs
    → v ≡ xs → (r : List ℕ)
    → codes "#Fun<" ++ (atom_text m
    ++ (codes "," ++ decimal_on s.0
    (codes "," ++ decimal_on k (codes ",[" ++ row_on true (row v) (codes "]>" ++ r)))))
    ≡ term_on (view a) r
unfolding texts
fun_at a m s k xs v e f r =
    ap (λ y. codes "#Fun<" ++ (atom_text m
    ++ (codes "," ++ decimal_on s.0
    (codes "," ++ decimal_on k (codes ",[" ++ row_on true (row y) (codes "]>" ++ r)))))) f
    ∙ sym (ap (λ u. term_on u r) (view_as a (form.Fun m s k xs) (ap out-Term e ∙ V.outs-Fun m s k xs)))

-- one more term of a row, and one more pair
pub term_added : (ts others : List Term) (t : Term) (first : Bool) (old mid new : List ℕ) (start : List ℕ → List ℕ)
    → ts ≡ t ∷ others
    → mid ≡ old ++ comma first → Adds mid new (term_on (view t))
    → ((r : List ℕ) → old ++ row_on first (row ts) r ≡ start r)
    → (r : List ℕ) → new ++ row_on false (row others) r ≡ start r
unfolding texts
term_added ts others t first old mid new start e f g h r =
    g _ ∙ adds old mid (comma first) f _ ∙ sym (ap (λ l. old ++ row_on first (row l) r) e) ∙ h r

pub no_term : (ts : List Term) (first : Bool) (old : List ℕ) (start : List ℕ → List ℕ) → ts ≡ []
    → ((r : List ℕ) → old ++ row_on first (row ts) r ≡ start r) → (r : List ℕ) → old ++ r ≡ start r
unfolding texts
no_term ts first old start e h r = sym (ap (λ l. old ++ row_on first (row l) r) e) ∙ h r

pub pair_added : (ps others : List Pair) (p : Pair) (first : Bool) (old mid new : List ℕ) (start : List ℕ → List ℕ)
    → ps ≡ p ∷ others
    → mid ≡ old ++ comma first → Adds mid new (λ r. term_on (view p.key) (codes "=>" ++ term_on (view p.value) r))
    → ((r : List ℕ) → old ++ pairs_on first (pair_row ps) r ≡ start r)
    → (r : List ℕ) → new ++ pairs_on false (pair_row others) r ≡ start r
unfolding texts
pair_added ps others p first old mid new start e f g h r =
    g _ ∙ adds old mid (comma first) f _
    ∙ sym (ap (λ l. old ++ pairs_on first (pair_row l) r) e
    ∙ ap (λ q. old ++ (comma first ++ term_on q.0 (codes "=>" ++ term_on q.1 (pairs_on false (pair_row others) r))))
    (pair_seen p))
    ∙ h r
  where
    pair_seen : (p : Pair) → pair_view p ≡ (view p.key, view p.value)
    pair_seen p = fold_out-Pair Plain.Term (Plain.Term × Plain.Term) view_step pair_step p

pub no_pair_left : (ps : List Pair) (first : Bool) (old : List ℕ) (start : List ℕ → List ℕ) → ps ≡ []
    → ((r : List ℕ) → old ++ pairs_on first (pair_row ps) r ≡ start r) → (r : List ℕ) → old ++ r ≡ start r
unfolding texts
no_pair_left ps first old start e h r = sym (ap (λ l. old ++ pairs_on first (pair_row l) r) e) ∙ h r
