-- The parts of cells and maps: each part of a whole value is whole, and maps of whole pairs are.
use Rattle.std.proofs.Common.{◌≡◌, refl, sym, ap, ◌∙◌, subst, ℕ, zero, suc, ◌<◌, List, [], ◌∷◌, map, length, IsTrue}
use Rattle.std.proofs.Common.{Bool, true, ◌&&◌, eqb, Some, None, arith}
use Rattle.std.specs.List.{All}
use Rattle.std.specs.declared.rc.Rc.{Rc}
use Rattle.std.specs.declared.alloc.Global.{Global}
use Rattle.erl_term.proofs.Forms.{left_true, right_true, both_true}
use Rattle.erl_term.specs.Depth.{depths, deepest_pair}
use Rattle.erl_term.specs.Term as P
use Rattle.erl_term.specs.Term.{Term}
use Rattle.erl_term.specs.Terms.{pairs}
use Rattle.erl_term.specs.WellFormed.{maps_rise, pairs_rise, comes_first}
use Rattle.shared_term.specs.Comparing.{IsCellWhole}
use Rattle.shared_term.specs.View.{Reading, MapReading, PairReading, reading, view, pair_view, pair_row, pairs_of}
use Rattle.shared_term.specs.View.{pairs_right, IsWhole, IsPairWhole, AreMapPairs}
use Rattle.shared_term.specs.declared.value.Cell.{Cell}
use Rattle.shared_term.specs.declared.value.MapPairs.{MapPairs, out-MapPairs}
use Rattle.shared_term.specs.declared.value.Value.{Value, out-Value}
use Rattle.shared_term.specs.declared.value.Value.TheOpen as form
use Rattle.shared_term.specs.declared.value.Value.TheVariants as V
use Rattle.shared_term.specs.declared.value.ValuePair.{ValuePair}
use Rattle.shared_term.proofs.Forms.{seen, reading-out, view-out, shown, cell-out, pair_reading, pair-out}
use Rattle.shared_term.proofs.Forms.{map_reading, map-out, map_pairs, pair_views}

-- a cell
cons-out : (v : Value) (cell : Rc Cell Global) → v ≡ V.Cons cell → reading v ≡ seen (form.Cons cell)
cons-out v cell e = reading-out v ∙ ap seen (ap out-Value e ∙ V.outs-Cons cell)

pub cell_whole : (v : Value) (cell : Rc Cell Global) (c : Cell) → v ≡ V.Cons cell → c ≡ cell.value → IsWhole v
    → IsCellWhole c
unfolding maps_rise
cell_whole v cell c e f h =
    let d = cell.value in
    let r : IsTrue
    (eqb d.deepest (depths (P.cons (view d.head) (view d.tail))).rest && (reading d.head).right &&
    (reading d.tail).right) =
    subst (λ (q : Reading). IsTrue q.right) (cons-out v cell e ∙ cell-out d) h.right in
    let m : IsTrue (maps_rise (view d.head) && maps_rise (view d.tail)) =
    subst (λ (q : Reading). IsTrue (maps_rise q.term)) (cons-out v cell e ∙ cell-out d) h.rising in
    subst IsCellWhole (sym f) (record {
      head = record {
        right = right_true (eqb d.deepest (depths (P.cons (view d.head) (view d.tail))).rest) (reading d.head).right
            (left_true _ (reading d.tail).right r);
        rising = left_true (maps_rise (view d.head)) (maps_rise (view d.tail)) m;
      };
      tail = record {
        right = right_true _ (reading d.tail).right r;
        rising = right_true (maps_rise (view d.head)) (maps_rise (view d.tail)) m;
      };
    })

-- pairs, and a pair

pair_right : (p : ValuePair) → IsTrue (pair_reading p).right
    → IsTrue (reading p.key).right × IsTrue (reading p.value).right
pair_right p h =
    let r : IsTrue ((reading p.key).right && (reading p.value).right) =
    subst (λ (q : PairReading). IsTrue q.right) (pair-out p) h in (
      left_true (reading p.key).right (reading p.value).right r,
      right_true (reading p.key).right
          (reading p.value).right r,
    )

pub first_rises : (k v : Term) (ps : P.Pairs) → IsTrue (pairs_rise (P.pair k v ps))
    → IsTrue (maps_rise k) × IsTrue (maps_rise v) × IsTrue (pairs_rise ps)
unfolding maps_rise comes_first
first_rises k v ps h =
    let a : IsTrue (comes_first k ps && maps_rise k && maps_rise v) = left_true _ (pairs_rise ps) h in (
      right_true (comes_first k ps) (maps_rise k) (left_true _ (maps_rise v) a),
      right_true _
          (maps_rise v) a,
      right_true _ (pairs_rise ps) h,
    )

parts_of : (ps : List ValuePair) → IsTrue (pairs_right (map pair_reading ps)) → IsTrue (pairs_rise (pair_row ps))
    → All IsPairWhole ps
parts_of [] g h k d l = absurd (omega arith)
parts_of (p ∷ ps) g h zero d l =
    let r : IsTrue (reading p.key).right × IsTrue (reading p.value).right =
    pair_right p (left_true (pair_reading p).right (pairs_right (map pair_reading ps)) g) in
    let m = first_rises (view p.key) (view p.value) (pair_row ps) h in
    record { key = record { right = r.0; rising = m.0 }; value = record { right = r.1; rising = m.1 } }
parts_of (p ∷ ps) g h (suc k) d l =
    parts_of ps (right_true (pair_reading p).right (pairs_right (map pair_reading ps)) g)
    (first_rises (view p.key) (view p.value) (pair_row ps) h).2 k d (omega arith)

-- a map
map_form : (v : Value) (m : Rc MapPairs Global) → v ≡ V.Map m → reading v ≡ seen (form.Map m)
map_form v m e = reading-out v ∙ ap seen (ap out-Value e ∙ V.outs-Map m)

pub map_reads : (v : Value) (m : Rc MapPairs Global) (mp : MapPairs) (ps : List ValuePair) → v ≡ V.Map m
    → mp ≡ m.value → ps ≡ pairs_of mp
    → view v ≡ P.map (pair_row ps)
map_reads v m mp ps e f g =
    ap (λ (q : Reading). q.term) (map_form v m e)
    ∙ ap (λ qs. P.map (pairs qs))
    (map_pairs m.value ∙ ap (λ n. map pair_view (pairs_of n)) (sym f) ∙ ap (map pair_view) (sym g))

pub map_whole : (v : Value) (m : Rc MapPairs Global) (mp : MapPairs) (ps : List ValuePair) → v ≡ V.Map m
    → mp ≡ m.value → ps ≡ pairs_of mp
    → IsWhole v → AreMapPairs ps
unfolding maps_rise
map_whole v m mp ps e f g h =
    let r : IsTrue (map_reading m.value).right = subst (λ (q : Reading). IsTrue q.right) (map_form v m e) h.right in
    let a : IsTrue (pairs_right (map pair_reading (pairs_of m.value))) =
    right_true _ _ (subst (λ (q : MapReading). IsTrue q.right) (map-out m.value) r) in
    let i : ps ≡ pairs_of m.value = g ∙ ap pairs_of f in
    let rise : IsTrue (pairs_rise (pair_row ps)) =
    subst (λ t. IsTrue (maps_rise t)) (map_reads v m mp ps e f g) h.rising in
    let b : IsTrue (pairs_right (map pair_reading ps)) =
    subst (λ qs. IsTrue (pairs_right (map pair_reading qs))) (sym i) a in
    record { parts = parts_of ps b rise; rising = rise }

-- a map of whole pairs that rise
right_of : (ps : List ValuePair) → All IsPairWhole ps → IsTrue (pairs_right (map pair_reading ps))
right_of [] h = refl
right_of (p ∷ ps) h =
    let w : IsPairWhole p = h 0 p (omega arith) in
    both_true (pair_reading p).right (pairs_right (map pair_reading ps))
    (subst (λ (q : PairReading). IsTrue q.right) (sym (pair-out p))
    (both_true (reading p.key).right (reading p.value).right w.key.right w.value.right))
    (right_of ps (λ k d l. h (suc k) d (omega arith)))

eqb_self : (n : ℕ) → IsTrue (eqb n n)
eqb_self n = grind arith

-- the pairs of a map, with how deep the deepest nests
pub record IsMapOf (m : MapPairs) (ps : List ValuePair) : Type 0 where
  pub pairs_are : pairs_of m ≡ ps
  pub deepest_is : (out-MapPairs m).deepest ≡ deepest_pair (pair_row ps)
  pub whole : AreMapPairs ps

pub made_map : (m : Rc MapPairs Global) (ps : List ValuePair) → IsMapOf m.value ps
    → view (V.Map m) ≡ P.map (pair_row ps)
made_map m ps h = map_reads (V.Map m) m m.value ps refl refl (sym h.pairs_are)

pub made_map_whole : (m : Rc MapPairs Global) (ps : List ValuePair) → IsMapOf m.value ps → IsWhole (V.Map m)
unfolding maps_rise
made_map_whole m ps h =
    let e : (out-MapPairs m.value).deepest ≡ deepest_pair
    (pairs (map (λ (q : PairReading). q.pair) (map pair_reading (pairs_of m.value)))) =
    h.deepest_is ∙ ap (λ qs. deepest_pair (pair_row qs)) (sym h.pairs_are)
    ∙ ap (λ qs. deepest_pair (pairs qs)) (sym (pair_views (pairs_of m.value))) in
    let r : IsTrue (map_reading m.value).right =
    subst (λ (q : MapReading). IsTrue q.right) (sym (map-out m.value))
    (both_true _ _
    (subst (λ n. IsTrue (eqb (out-MapPairs m.value).deepest n)) e (eqb_self (out-MapPairs m.value).deepest))
    (subst (λ qs. IsTrue (pairs_right (map pair_reading qs))) (sym h.pairs_are) (right_of ps h.whole.parts))) in
    record {
      right = subst (λ (q : Reading). IsTrue q.right) (sym (map_form (V.Map m) m refl)) r;
      rising = subst (λ t. IsTrue (maps_rise t)) (sym (made_map m ps h)) h.whole.rising;
    }
