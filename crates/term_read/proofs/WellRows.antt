-- Rows of well-formed terms, and lists made of them.
use Rattle.std.proofs.Common.{◌≡◌, ℕ, ◌<◌, refl, sym, ap, ◌∙◌, subst, List, [], ◌∷◌, ◌++◌, map, length, IsTrue, Bool, true, not, ◌&&◌, ◌+◌, arith, append_assoc, length-append}
use Rattle.erl_term.specs.declared.term.Term.{Term}
use Rattle.erl_term.specs.declared.term.Term.TheVariants as V
use Rattle.erl_term.specs.declared.term.Term.TheOpen as form
use Rattle.erl_term.specs.declared.term.Pair.{Pair, fold_out-Pair}
use Rattle.erl_term.specs.Term as Plain
use Rattle.erl_term.specs.Terms.{list_of}
use Rattle.erl_term.specs.View.{view, pair_view, view_step, pair_step}
use Rattle.erl_term.specs.WellFormed.{Layout, layout, layout_step, pair_layout_step, pair_normal, IsNormal, IsWellFormed, maps_rise, all_rise, has_items, all_normal}
use Rattle.erl_term.specs.Comparing.{row, pair_row, AllNormal, PairsNormal}
use Rattle.erl_term.proofs.Forms.{laid, view_as, layout-out, left_true, right_true, both_true}
use Rattle.term_read.specs.TermGrammar.{code_point}
use Rattle.erl_term.specs.WellRows.{AreWellFormed, IsPairWellFormed, PairsWellFormed, parts_rise}

-- One more at the end.

pub map-push : {A B : Type 0} (f : A → B) (xs : List A) (x : A) → map f (xs ++ x ∷ []) ≡ map f xs ++ f x ∷ []
map-push f [] x = refl
map-push f (y ∷ xs) x = ap (λ ys. f y ∷ ys) (map-push f xs x)

normal_pushed : (ts : List Term) (t : Term) → AllNormal ts → IsNormal t → AllNormal (ts ++ t ∷ [])
normal_pushed [] t h k = both_true (layout t).normal true k refl
normal_pushed (s ∷ ts) t h k = both_true (layout s).normal _ (left_true (layout s).normal _ h)
    (normal_pushed ts t (right_true (layout s).normal _ h) k)

rise_pushed : (ts : List Term) (t : Term) → IsTrue (all_rise (row ts)) → IsTrue (maps_rise (view t))
    → IsTrue (all_rise (row (ts ++ t ∷ [])))
unfolding maps_rise
rise_pushed [] t h k = both_true (maps_rise (view t)) true k refl
rise_pushed (s ∷ ts) t h k = both_true (maps_rise (view s)) _ (left_true (maps_rise (view s)) _ h)
    (rise_pushed ts t (right_true (maps_rise (view s)) _ h) k)

pub term_pushed : (ts new : List Term) (t : Term) → new ≡ ts ++ t ∷ [] → AreWellFormed ts → IsWellFormed t
    → AreWellFormed new
term_pushed ts new t e h k = subst AreWellFormed (sym e)
    (record { normal = normal_pushed ts t h.normal k.normal; rising = rise_pushed ts t h.rising k.rising })

pub views_pushed : (ts new : List Term) (t : Term) → new ≡ ts ++ t ∷ [] → map view new ≡ map view ts ++ view t ∷ []
views_pushed ts new t e = ap (map view) e ∙ map-push view ts t

pub no_terms : AreWellFormed []
unfolding maps_rise
no_terms = record { normal = refl; rising = refl }

-- Pairs.

pair_seen : (p : Pair) → pair_view p ≡ (view p.key, view p.value)
pair_seen p = fold_out-Pair Plain.Term (Plain.Term × Plain.Term) view_step pair_step p

pair_laid : (p : Pair) → pair_normal p ≡ ((layout p.key).normal && (layout p.value).normal)
pair_laid p = fold_out-Pair Layout Bool layout_step pair_layout_step p

pair_is_normal : (p : Pair) → IsPairWellFormed p → IsTrue (pair_normal p)
pair_is_normal p h = subst IsTrue (sym (pair_laid p))
    (both_true (layout p.key).normal (layout p.value).normal h.key.normal h.value.normal)

parts_of : (p : Pair) → IsPairWellFormed p → IsTrue (maps_rise (pair_view p).0 && maps_rise (pair_view p).1)
parts_of p h =
    subst (λ (q : Plain.Term × Plain.Term). IsTrue (maps_rise q.0 && maps_rise q.1)) (sym (pair_seen p))
    (both_true (maps_rise (view p.key)) (maps_rise (view p.value)) h.key.rising h.value.rising)

pairs_normal_pushed : (ps : List Pair) (p : Pair) → PairsNormal ps → IsTrue (pair_normal p) → PairsNormal (ps ++ p ∷ [])
pairs_normal_pushed [] p h k = both_true (pair_normal p) true k refl
pairs_normal_pushed (q ∷ ps) p h k = both_true (pair_normal q) _ (left_true (pair_normal q) _ h)
    (pairs_normal_pushed ps p (right_true (pair_normal q) _ h) k)

parts_pushed : (ps : List Pair) (p : Pair) → IsTrue (parts_rise (pair_row ps))
    → IsTrue (maps_rise (pair_view p).0 && maps_rise (pair_view p).1) → IsTrue (parts_rise (pair_row (ps ++ p ∷ [])))
parts_pushed [] p h k = both_true (maps_rise (pair_view p).0 && maps_rise (pair_view p).1) true k refl
parts_pushed (q ∷ ps) p h k =
    both_true (maps_rise (pair_view q).0 && maps_rise (pair_view q).1) _
    (left_true (maps_rise (pair_view q).0 && maps_rise (pair_view q).1) (parts_rise (pair_row ps)) h)
    (parts_pushed ps p (right_true (maps_rise (pair_view q).0 && maps_rise (pair_view q).1)
    (parts_rise (pair_row ps)) h) k)

pub pair_pushed : (ps new : List Pair) (p : Pair) → new ≡ ps ++ p ∷ [] → PairsWellFormed ps → IsPairWellFormed p
    → PairsWellFormed new
pair_pushed ps new p e h k =
    subst PairsWellFormed (sym e)
    (record {
      normal = pairs_normal_pushed ps p h.normal (pair_is_normal p k);
      rising = parts_pushed ps p h.rising (parts_of p k);
    })

pub pair_views_pushed : (ps new : List Pair) (p : Pair) → new ≡ ps ++ p ∷ []
    → map pair_view new ≡ map pair_view ps ++ pair_view p ∷ []
pair_views_pushed ps new p e = ap (map pair_view) e ∙ map-push pair_view ps p

-- Lists.

list_seen : (xs : List Term) (u : Term) → view (V.List xs u) ≡ list_of (map view xs) (view u)
list_seen xs u = view_as (V.List xs u) (form.List xs u) (V.outs-List xs u)

list_laid : (xs : List Term) (u : Term) → layout (V.List xs u) ≡ laid (form.List xs u)
list_laid xs u = layout-out (V.List xs u) ∙ ap laid (V.outs-List xs u)

list_rises : (xs : List Term) (u : Plain.Term) → IsTrue (all_rise (row xs)) → IsTrue (maps_rise u)
    → IsTrue (maps_rise (list_of (map view xs) u))
unfolding maps_rise
list_rises [] u h k = k
list_rises (x ∷ xs) u h k = both_true (maps_rise (view x)) _ (left_true (maps_rise (view x)) (all_rise (row xs)) h)
    (list_rises xs u (right_true (maps_rise (view x)) (all_rise (row xs)) h) k)

items_rise : (xs : List Term) (u : Plain.Term) → IsTrue (maps_rise (list_of (map view xs) u))
    → IsTrue (all_rise (row xs)) × IsTrue (maps_rise u)
unfolding maps_rise
items_rise [] u h = (refl, h)
items_rise (x ∷ xs) u h =
    let rest = items_rise xs u (right_true (maps_rise (view x)) (maps_rise (list_of (map view xs) u)) h) in (
      both_true (maps_rise (view x)) (all_rise (row xs))
          (left_true (maps_rise (view x)) (maps_rise (list_of (map view xs) u)) h) rest.0,
      rest.1,
    )

has_some : (xs : List Term) → 0 < length xs → IsTrue (has_items (map layout xs))
has_some [] h = absurd (omega (arith, h))
has_some (x ∷ xs) h = refl

pub list_well_formed : (xs : List Term) (u : Term) → 0 < length xs → AreWellFormed xs → IsWellFormed u
    → IsTrue (not (layout u).listed) → IsWellFormed (V.List xs u)
list_well_formed xs u n h k l = record {
  normal = subst (λ (m : Layout). IsTrue m.normal) (sym (list_laid xs u))
      (both_true (has_items (map layout xs) && all_normal (map layout xs) && (layout u).normal) (not (layout u).listed)
      (both_true (has_items (map layout xs) && all_normal (map layout xs)) (layout u).normal
      (both_true (has_items (map layout xs)) (all_normal (map layout xs)) (has_some xs n) h.normal) k.normal) l);
  rising = subst (λ t. IsTrue (maps_rise t)) (sym (list_seen xs u)) (list_rises xs (view u) h.rising k.rising);
}

pub list_value : (xs : List Term) (u t : Term) → t ≡ u → view (V.List xs t) ≡ list_of (map view xs) (view u)
list_value xs u t e = list_seen xs t ∙ ap (λ v. list_of (map view xs) (view v)) e

-- one list behind items

pub list_of-append : (ts us : List Plain.Term) (u : Plain.Term) → list_of (ts ++ us) u ≡ list_of ts (list_of us u)
list_of-append [] us u = refl
list_of-append (t ∷ ts) us u = ap (Plain.cons t) (list_of-append ts us u)

map-append : {A B : Type 0} (f : A → B) (xs ys : List A) → map f (xs ++ ys) ≡ map f xs ++ map f ys
map-append f [] ys = refl
map-append f (x ∷ xs) ys = ap (λ zs. f x ∷ zs) (map-append f xs ys)

pub longer_value : (xs ys all : List Term) (u : Term) → all ≡ xs ++ ys
    → view (V.List all u) ≡ list_of (map view xs) (view (V.List ys u))
longer_value xs ys all u e =
    list_seen all u ∙ ap (λ zs. list_of zs (view u)) (ap (map view) e ∙ map-append view xs ys)
    ∙ list_of-append (map view xs) (map view ys) (view u) ∙ ap (list_of (map view xs)) (sym (list_seen ys u))

normal_both : (xs ys : List Term) → AllNormal xs → AllNormal ys → AllNormal (xs ++ ys)
normal_both [] ys h k = k
normal_both (x ∷ xs) ys h k = both_true (layout x).normal _ (left_true (layout x).normal _ h)
    (normal_both xs ys (right_true (layout x).normal _ h) k)

rise_both : (xs ys : List Term) → IsTrue (all_rise (row xs)) → IsTrue (all_rise (row ys))
    → IsTrue (all_rise (row (xs ++ ys)))
unfolding maps_rise
rise_both [] ys h k = k
rise_both (x ∷ xs) ys h k = both_true (maps_rise (view x)) _ (left_true (maps_rise (view x)) _ h)
    (rise_both xs ys (right_true (maps_rise (view x)) _ h) k)

some_more : (xs ys : List Term) → 0 < length xs → 0 < length (xs ++ ys)
some_more [] ys h = absurd (omega (arith, h))
some_more (x ∷ xs) ys h = omega arith

pub longer_well_formed : (xs ys all : List Term) (u : Term) → all ≡ xs ++ ys → 0 < length xs → AreWellFormed xs
    → IsWellFormed (V.List ys u) → IsWellFormed (V.List all u)
longer_well_formed xs ys all u e n h k =
    let parts = subst (λ (m : Layout). IsTrue m.normal) (list_laid ys u) k.normal in
    let front : IsTrue (has_items (map layout ys) && all_normal (map layout ys) && (layout u).normal) =
    left_true (has_items (map layout ys) && all_normal (map layout ys) && (layout u).normal)
    (not (layout u).listed) parts in
    let no_list : IsTrue (not (layout u).listed) = right_true
    (has_items (map layout ys) && all_normal (map layout ys) && (layout u).normal) (not (layout u).listed) parts in
    let tail : IsNormal u = right_true (has_items (map layout ys) && all_normal (map layout ys))
    (layout u).normal front in
    let normal : AllNormal ys = right_true (has_items (map layout ys)) (all_normal (map layout ys))
    (left_true (has_items (map layout ys) && all_normal (map layout ys)) (layout u).normal front) in
    let rising = items_rise ys (view u) (subst (λ t. IsTrue (maps_rise t)) (list_seen ys u) k.rising) in
    subst (λ zs. IsWellFormed (V.List zs u)) (sym e)
    (list_well_formed (xs ++ ys) u (some_more xs ys n)
    (record { normal = normal_both xs ys h.normal normal; rising = rise_both xs ys h.rising rising.0 })
    (record { normal = tail; rising = rising.1 }) no_list)

-- one more code point of a string
pub code_point_step : (text rest : List ℕ) (c : ℕ) (items new : List Term) (t : Term) (all : List Plain.Term)
    → text ≡ c ∷ rest → new ≡ items ++ t ∷ [] → view t ≡ code_point c
    → map view items ++ map code_point text ≡ all → map view new ++ map code_point rest ≡ all
code_point_step text rest c items new t all e f g h =
    ap (λ xs. xs ++ map code_point rest) (views_pushed items new t f ∙ ap (λ x. map view items ++ x ∷ []) g)
    ∙ append_assoc (map view items) (code_point c ∷ []) (map code_point rest)
    ∙ ap (λ xs. map view items ++ map code_point xs) (sym e) ∙ h

pub number_pushed : (items new : List Term) (t : Term) (n : ℕ) → new ≡ items ++ t ∷ [] → length items ≡ n
    → length new ≡ n + 1
number_pushed items new t n e f = omega (arith, ap length e, length-append items (t ∷ []), f)
