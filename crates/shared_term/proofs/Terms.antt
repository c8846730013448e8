-- Well-formed terms of the program by their parts.
use Rattle.std.proofs.Common.{◌≡◌, refl, sym, ap, ◌∙◌, subst, ℕ, zero, suc, ◌<◌, List, [], ◌∷◌, map, length, IsTrue}
use Rattle.std.proofs.Common.{Bool, true, false, not, ◌&&◌, arith}
use Rattle.std.specs.List.{All}
use Rattle.erl_base.specs.Names.{Name}
use Rattle.erl_base.specs.declared.ids.SiteId.{SiteId}
use Rattle.erl_term.proofs.Forms.{left_true, right_true, both_true, laid, seen, view-out, layout-out, tail_normal}
use Rattle.erl_term.proofs.Forms.{NoCell}
use Rattle.erl_term.specs.Term as P
use Rattle.erl_term.specs.Terms.{terms, list_of}
use Rattle.erl_term.specs.View.{view, pair_view, bits_view, view_step, pair_step}
use Rattle.erl_term.specs.WellFormed.{Layout, layout, layout_step, pair_layout_step, pair_normal, all_normal}
use Rattle.erl_term.specs.WellFormed.{pairs_normal, has_items, maps_rise, all_rise, pairs_rise, IsNormal, IsFull}
use Rattle.erl_term.specs.WellFormed.{IsWellFormed}
use Rattle.erl_term.specs.WellRows.{IsPairWellFormed}
use Rattle.erl_term.specs.Comparing.{pair_row}
use Rattle.erl_term.specs.declared.term.Pair.{Pair, fold_out-Pair}
use Rattle.shared_term.proofs.Pairs.{first_rises}
use Rattle.erl_term.specs.declared.term.Bits.{Bits}
use Rattle.erl_term.specs.declared.term.Term.{Term, out-Term}
use Rattle.erl_term.specs.declared.term.Term.TheOpen as form
use Rattle.erl_term.specs.declared.term.Term.TheVariants as T

pub each_well_formed : (ts : List Term) → IsTrue (all_normal (map layout ts))
    → IsTrue (all_rise (terms (map view ts))) → All IsWellFormed ts
unfolding maps_rise
each_well_formed [] g h k d l = absurd (omega arith)
each_well_formed (t ∷ ts) g h zero d l = record { normal = left_true _ _ g; rising = left_true _ _ h }
each_well_formed (t ∷ ts) g h (suc k) d l = each_well_formed ts (right_true _ _ g) (right_true _ _ h) k d (omega arith)

-- how terms read and are laid out
pub tuple_reads : (t : Term) (ts : List Term) → t ≡ T.Tuple ts → view t ≡ P.tuple (terms (map view ts))
tuple_reads t ts e = view-out t ∙ ap seen (ap out-Term e ∙ T.outs-Tuple ts)

tuple_laid : (t : Term) (ts : List Term) → t ≡ T.Tuple ts → layout t ≡ laid (form.Tuple ts)
tuple_laid t ts e = layout-out t ∙ ap laid (ap out-Term e ∙ T.outs-Tuple ts)

pub tuple_parts : (t : Term) (ts : List Term) → t ≡ T.Tuple ts → IsWellFormed t → All IsWellFormed ts
unfolding maps_rise
tuple_parts t ts e h =
    each_well_formed ts (subst (λ (l : Layout). IsTrue l.normal) (tuple_laid t ts e) h.normal)
    (subst (λ u. IsTrue (maps_rise u)) (tuple_reads t ts e) h.rising)

-- a fun's captured terms
pub fun_reads : (t : Term) (m : Name) (s : SiteId) (n : ℕ) (ts : List Term) → t ≡ T.Fun m s n ts
    → view t ≡ P.fun m s.0 n (terms (map view ts))
fun_reads t m s n ts e = view-out t ∙ ap seen (ap out-Term e ∙ T.outs-Fun m s n ts)

pub fun_parts : (t : Term) (m : Name) (s : SiteId) (n : ℕ) (ts : List Term) → t ≡ T.Fun m s n ts → IsWellFormed t
    → All IsWellFormed ts
unfolding maps_rise
fun_parts t m s n ts e h =
    each_well_formed ts
    (subst (λ (l : Layout). IsTrue l.normal) (layout-out t ∙ ap laid (ap out-Term e ∙ T.outs-Fun m s n ts)) h.normal)
    (subst (λ u. IsTrue (maps_rise u)) (fun_reads t m s n ts e) h.rising)

-- a list's items and its tail
pub list_reads : (t : Term) (ts : List Term) (u : Term) → t ≡ T.List ts u → view t ≡ list_of (map view ts) (view u)
list_reads t ts u e = view-out t ∙ ap seen (ap out-Term e ∙ T.outs-List ts u)

items_rise : (ts : List P.Term) (u : P.Term) → IsTrue (maps_rise (list_of ts u))
    → IsTrue (all_rise (terms ts)) × IsTrue (maps_rise u)
unfolding maps_rise
items_rise [] u h = (refl, h)
items_rise (t ∷ ts) u h =
    let r : IsTrue (all_rise (terms ts)) × IsTrue (maps_rise u) = items_rise ts u (right_true (maps_rise t) _ h) in
    (both_true (maps_rise t) _ (left_true (maps_rise t) _ h) r.0, r.1)

list_rises : (t : Term) (ts : List Term) (u : Term) → t ≡ T.List ts u → IsWellFormed t
    → IsTrue (all_rise (terms (map view ts))) × IsTrue (maps_rise (view u))
list_rises t ts u e h =
    items_rise (map view ts) (view u) (subst (λ v. IsTrue (maps_rise v)) (list_reads t ts u e) h.rising)

pub items_well_formed : (t : Term) (ts : List Term) (u : Term) → t ≡ T.List ts u → IsWellFormed t → All IsWellFormed ts
items_well_formed t ts u e h =
    let n : IsTrue (laid (form.List ts u)).normal =
    subst (λ (l : Layout). IsTrue l.normal) (layout-out t ∙ ap laid (ap out-Term e ∙ T.outs-List ts u)) h.normal in
    each_well_formed ts
    (right_true (has_items (map layout ts)) _ (left_true _ (layout u).normal (left_true _ (not (layout u).listed) n)))
    (list_rises t ts u e h).0

pub tail_well_formed : (t : Term) (ts : List Term) (u : Term) → t ≡ T.List ts u → IsWellFormed t → IsWellFormed u
tail_well_formed t ts u e h =
    record { normal = tail_normal t ts u u e refl h.normal; rising = (list_rises t ts u e h).1 }

-- a bit string
pub bits_reads : (t : Term) (b : Bits) → t ≡ T.Bits b → view t ≡ P.bits (bits_view b)
bits_reads t b e = view-out t ∙ ap seen (ap out-Term e ∙ T.outs-Bits b)

pub bits_full : (t : Term) (b : Bits) → t ≡ T.Bits b → IsWellFormed t → IsFull b
bits_full t b e h =
    subst (λ (l : Layout). IsTrue l.normal) (layout-out t ∙ ap laid (ap out-Term e ∙ T.outs-Bits b)) h.normal

-- a map's pairs
pair_reads : (p : Pair) → pair_view p ≡ (view p.key, view p.value)
pair_reads p = fold_out-Pair P.Term (P.Term × P.Term) view_step pair_step p

pair_laid : (p : Pair) → IsTrue (pair_normal p) → IsNormal p.key × IsNormal p.value
pair_laid p h =
    let r : IsTrue ((layout p.key).normal && (layout p.value).normal) =
    subst IsTrue (fold_out-Pair Layout Bool layout_step pair_layout_step p) h in (
      left_true (layout p.key).normal (layout p.value).normal r,
      right_true (layout p.key).normal
          (layout p.value).normal r,
    )

each_pair : (ps : List Pair) → IsTrue (pairs_normal (map pair_normal ps)) → IsTrue (pairs_rise (pair_row ps))
    → All IsPairWellFormed ps
each_pair [] g h k d l = absurd (omega arith)
each_pair (p ∷ ps) g h zero d l =
    let n : IsNormal p.key × IsNormal p.value =
    pair_laid p (left_true (pair_normal p) (pairs_normal (map pair_normal ps)) g) in
    let m : IsTrue (maps_rise (view p.key)) × IsTrue (maps_rise (view p.value)) × IsTrue (pairs_rise (pair_row ps)) =
    first_rises (view p.key) (view p.value) (pair_row ps)
    (subst (λ (q : P.Term × P.Term). IsTrue (pairs_rise (P.pair q.0 q.1 (pair_row ps)))) (pair_reads p) h) in
    record { key = record { normal = n.0; rising = m.0 }; value = record { normal = n.1; rising = m.1 } }
each_pair (p ∷ ps) g h (suc k) d l =
    each_pair ps (right_true (pair_normal p) (pairs_normal (map pair_normal ps)) g)
    (first_rises (pair_view p).0 (pair_view p).1 (pair_row ps) h).2 k d (omega arith)

pub map_term_reads : (t : Term) (ps : List Pair) → t ≡ T.Map ps → view t ≡ P.map (pair_row ps)
map_term_reads t ps e = view-out t ∙ ap seen (ap out-Term e ∙ T.outs-Map ps)

pub map_term_rises : (t : Term) (ps : List Pair) → t ≡ T.Map ps → IsWellFormed t → IsTrue (pairs_rise (pair_row ps))
unfolding maps_rise
map_term_rises t ps e h = subst (λ u. IsTrue (maps_rise u)) (map_term_reads t ps e) h.rising

pub map_term_parts : (t : Term) (ps : List Pair) → t ≡ T.Map ps → IsWellFormed t → All IsPairWellFormed ps
map_term_parts t ps e h =
    each_pair ps
    (subst (λ (l : Layout). IsTrue l.normal) (layout-out t ∙ ap laid (ap out-Term e ∙ T.outs-Map ps)) h.normal)
    (map_term_rises t ps e h)

-- Terms that are put together of well-formed parts.

normal_of : (ts : List Term) → All IsWellFormed ts → IsTrue (all_normal (map layout ts))
normal_of [] h = refl
normal_of (t ∷ ts) h = both_true (layout t).normal (all_normal (map layout ts)) (h 0 t (omega arith)).normal
    (normal_of ts (λ k d l. h (suc k) d (omega arith)))

rises_of : (ts : List Term) → All IsWellFormed ts → IsTrue (all_rise (terms (map view ts)))
unfolding maps_rise
rises_of [] h = refl
rises_of (t ∷ ts) h = both_true (maps_rise (view t)) (all_rise (terms (map view ts))) (h 0 t (omega arith)).rising
    (rises_of ts (λ k d l. h (suc k) d (omega arith)))

pairs_normal_of : (ps : List Pair) → All IsPairWellFormed ps → IsTrue (pairs_normal (map pair_normal ps))
pairs_normal_of [] h = refl
pairs_normal_of (p ∷ ps) h =
    let w : IsPairWellFormed p = h 0 p (omega arith) in
    both_true (pair_normal p) (pairs_normal (map pair_normal ps))
    (subst IsTrue (sym (fold_out-Pair Layout Bool layout_step pair_layout_step p))
    (both_true (layout p.key).normal (layout p.value).normal w.key.normal w.value.normal))
    (pairs_normal_of ps (λ k d l. h (suc k) d (omega arith)))

pub tuple_made : (ts : List Term) → All IsWellFormed ts → IsWellFormed (T.Tuple ts)
unfolding maps_rise
tuple_made ts h = record {
  normal = subst (λ (l : Layout). IsTrue l.normal) (sym (tuple_laid (T.Tuple ts) ts refl)) (normal_of ts h);
  rising = subst (λ u. IsTrue (maps_rise u)) (sym (tuple_reads (T.Tuple ts) ts refl)) (rises_of ts h);
}

pub fun_made : (m : Name) (s : SiteId) (n : ℕ) (ts : List Term) → All IsWellFormed ts → IsWellFormed (T.Fun m s n ts)
unfolding maps_rise
fun_made m s n ts h = record {
  normal = subst (λ (l : Layout). IsTrue l.normal) (sym (layout-out (T.Fun m s n ts) ∙ ap laid (T.outs-Fun m s n ts)))
      (normal_of ts h);
  rising = subst (λ u. IsTrue (maps_rise u)) (sym (fun_reads (T.Fun m s n ts) m s n ts refl)) (rises_of ts h);
}

pub map_made : (ps : List Pair) → All IsPairWellFormed ps → IsTrue (pairs_rise (pair_row ps)) → IsWellFormed (T.Map ps)
unfolding maps_rise
map_made ps h r = record {
  normal = subst (λ (l : Layout). IsTrue l.normal) (sym (layout-out (T.Map ps) ∙ ap laid (T.outs-Map ps)))
      (pairs_normal_of ps h);
  rising = subst (λ u. IsTrue (maps_rise u)) (sym (map_term_reads (T.Map ps) ps refl)) r;
}

list_rises_of : (ts : List P.Term) (u : P.Term) → IsTrue (all_rise (terms ts)) → IsTrue (maps_rise u)
    → IsTrue (maps_rise (list_of ts u))
unfolding maps_rise
list_rises_of [] u g h = h
list_rises_of (t ∷ ts) u g h =
    both_true (maps_rise t) (maps_rise (list_of ts u)) (left_true (maps_rise t) (all_rise (terms ts)) g)
    (list_rises_of ts u (right_true (maps_rise t) (all_rise (terms ts)) g) h)

has_some : (ts : List Term) → 0 < length ts → IsTrue (has_items (map layout ts))
has_some [] h = absurd (omega (arith, h))
has_some (t ∷ ts) h = refl

pub list_made : (ts : List Term) (u : Term) → All IsWellFormed ts → 0 < length ts → IsWellFormed u
    → IsTrue (not (layout u).listed) → IsWellFormed (T.List ts u)
list_made ts u h s w n = record {
  normal =
      subst (λ (l : Layout). IsTrue l.normal) (sym (layout-out (T.List ts u) ∙ ap laid (T.outs-List ts u)))
      (both_true _ (not (layout u).listed)
      (both_true _ (layout u).normal
      (both_true (has_items (map layout ts)) (all_normal (map layout ts)) (has_some ts s)
      (normal_of ts h)) w.normal) n);
  rising = subst (λ v. IsTrue (maps_rise v)) (sym (list_reads (T.List ts u) ts u refl))
      (list_rises_of (map view ts) (view u) (rises_of ts h) w.rising);
}

-- what reads as no cell is laid out as no list
not_list_form : (f : form.Term-F Term Pair) → IsTrue (laid f).normal → NoCell (seen f) → IsTrue (not (laid f).listed)
not_list_form (form.List [] u) n h = cc
not_list_form (form.List (t ∷ ts) u) n h = absurd (h refl)
not_list_form (form.Int z) n h = refl
not_list_form (form.Atom a) n h = refl
not_list_form form.Nil n h = refl
not_list_form (form.Tuple xs) n h = refl
not_list_form (form.Map ps) n h = refl
not_list_form (form.Bits b) n h = refl
not_list_form (form.Fun m s a xs) n h = refl
not_list_form (form.Extern m f a) n h = refl
not_list_form (form.Pid k) n h = refl
not_list_form (form.Reference k) n h = refl
not_list_form (form.Port k) n h = refl
not_list_form (form.RawTrace c) n h = refl

pub not_listed : (t : Term) → IsWellFormed t → NoCell (view t) → IsTrue (not (layout t).listed)
not_listed t w h =
    subst (λ (l : Layout). IsTrue (not l.listed)) (sym (layout-out t))
    (not_list_form (out-Term t) (subst (λ (l : Layout). IsTrue l.normal) (layout-out t) w.normal)
    (subst NoCell (view-out t) h))

pub list_made_of : (ts : List Term) (u v : Term) → All IsWellFormed ts → 0 < length ts → IsWellFormed u
    → IsTrue (not (layout u).listed) → v ≡ u
    → IsWellFormed (T.List ts v)
list_made_of ts u v h s w n e = subst (λ t. IsWellFormed (T.List ts t)) (sym e) (list_made ts u h s w n)
