-- Rows of values: what tuples and funs read as, and that each value of a whole row is whole.
use Rattle.std.proofs.Common.{◌≡◌, refl, sym, ap, ◌∙◌, subst, Some, None, Option, ℕ, zero, suc, ◌<◌, ◌≤◌, get_or}
use Rattle.std.proofs.Common.{List, [], ◌∷◌, map, length, IsTrue, Bool, true, false, ◌&&◌, eqb, arith}
use Rattle.std.specs.List.{All}
use Rattle.std.specs.declared.rc.Rc.{Rc}
use Rattle.std.specs.declared.alloc.Global.{Global}
use Rattle.erl_term.proofs.Forms.{left_true, right_true, both_true}
use Rattle.std.proofs.lemmas.Simd.{map-map}
use Rattle.std.proofs.lemmas.List.{length-map}
use Rattle.erl_term.specs.Depth.{deepest}
use Rattle.erl_term.specs.Term as P
use Rattle.erl_term.specs.Term.{Term}
use Rattle.erl_term.specs.Terms.{terms, listed}
use Rattle.erl_term.specs.WellFormed.{maps_rise, all_rise}
use Rattle.std.specs.Prelude.{option_map, option_and_then, slice_get}
use Rattle.shared_term.specs.Parts.{elements_of, element_of, captured_of}
use Rattle.shared_term.specs.View.{Reading, RowReading, reading, view, all_right, IsWhole}
use Rattle.shared_term.specs.declared.value.Local.{Local}
use Rattle.shared_term.specs.declared.value.Row.{Row}
use Rattle.shared_term.specs.declared.value.Value.{Value}
use Rattle.shared_term.specs.declared.value.Value.TheVariants as V
use Rattle.shared_term.proofs.Forms.{row_reading, row-out, row_terms, tuple-out, fun-out}

abbrev term_of : Reading → Term
term_of q = q.term

pub listed-terms : (ts : List Term) → listed (terms ts) ≡ ts
listed-terms [] = refl
listed-terms (t ∷ ts) = ap (λ us. t ∷ us) (listed-terms ts)

pub each_whole : (vs : List Value) → IsTrue (all_right (map reading vs)) → IsTrue (all_rise (terms (map view vs)))
    → All IsWhole vs
unfolding maps_rise
each_whole [] g h k d l = absurd (omega arith)
each_whole (v ∷ vs) g h zero d l = record { right = left_true _ _ g; rising = left_true _ _ h }
each_whole (v ∷ vs) g h (suc k) d l = each_whole vs (right_true _ _ g) (right_true _ _ h) k d (omega arith)

-- a row whose readings are right and whose maps rise
pub row_whole : (r : Row) → IsTrue (row_reading r).right → IsTrue (all_rise (terms (row_reading r).terms))
    → All IsWhole r.items
row_whole r g h =
    each_whole r.items (right_true _ _ (subst (λ (q : RowReading). IsTrue q.right) (row-out r) g))
    (subst (λ ts. IsTrue (all_rise (terms ts))) (row_terms r) h)

-- the elements of a tuple, and what a fun captured
pub tuple_elements : (v : Value) (row : Rc Row Global) (r : Row) (vs : List Value) → v ≡ V.Tuple row → r ≡ row.value
    → vs ≡ r.items → Some (map view vs) ≡ elements_of (view v)
tuple_elements v row r vs e f g =
    ap (λ us. Some (map view us)) (g ∙ ap (λ (q : Row). q.items) f)
    ∙ ap Some (sym (listed-terms _ ∙ row_terms row.value))
    ∙ ap (λ (q : Reading). elements_of q.term) (sym (tuple-out v row e))

pub tuple_whole : (v : Value) (row : Rc Row Global) (r : Row) (vs : List Value) → v ≡ V.Tuple row → r ≡ row.value
    → vs ≡ r.items → IsWhole v → All IsWhole vs
unfolding maps_rise
tuple_whole v row r vs e f g h =
    subst (All IsWhole) (sym (g ∙ ap (λ (q : Row). q.items) f))
    (row_whole row.value (subst (λ (q : Reading). IsTrue q.right) (tuple-out v row e) h.right)
    (subst (λ (q : Reading). IsTrue (maps_rise q.term)) (tuple-out v row e) h.rising))

pub fun_captured : (v : Value) (fun : Rc Local Global) (f : Local) (vs : List Value) → v ≡ V.Fun fun → f ≡ fun.value
    → vs ≡ f.captured.items → Some (map view vs) ≡ captured_of (view v)
fun_captured v fun q vs e f g =
    ap (λ us. Some (map view us)) (g ∙ ap (λ (l : Local). l.captured.items) f)
    ∙ ap Some (sym (listed-terms _ ∙ row_terms fun.value.captured))
    ∙ ap (λ (q : Reading). captured_of q.term) (sym (fun-out v fun e))

pub fun_whole : (v : Value) (fun : Rc Local Global) (f : Local) (vs : List Value) → v ≡ V.Fun fun → f ≡ fun.value
    → vs ≡ f.captured.items → IsWhole v → All IsWhole vs
unfolding maps_rise
fun_whole v fun q vs e f g h =
    subst (All IsWhole) (sym (g ∙ ap (λ (l : Local). l.captured.items) f))
    (row_whole fun.value.captured (subst (λ (q : Reading). IsTrue q.right) (fun-out v fun e) h.right)
    (subst (λ (q : Reading). IsTrue (maps_rise q.term)) (fun-out v fun e) h.rising))

-- a row made of whole values is right, and its maps rise
all_right_of : (vs : List Value) → All IsWhole vs → IsTrue (all_right (map reading vs))
all_right_of [] h = refl
all_right_of (v ∷ vs) h =
    both_true _ _ (h 0 v (omega arith)).right (all_right_of vs (λ k d l. h (suc k) d (omega arith)))

all_rise_of : (vs : List Value) → All IsWhole vs → IsTrue (all_rise (terms (map view vs)))
unfolding maps_rise
all_rise_of [] h = refl
all_rise_of (v ∷ vs) h =
    both_true _ _ (h 0 v (omega arith)).rising (all_rise_of vs (λ k d l. h (suc k) d (omega arith)))

eqb_self : (n : ℕ) → IsTrue (eqb n n)
eqb_self n = grind arith

abbrev pub IsRowOf : Row → List Value → Type 0
IsRowOf r vs = (r.items ≡ vs) × (r.deepest ≡ deepest (terms (map view vs))) × All IsWhole vs

made_terms : (r : Row) (vs : List Value) → IsRowOf r vs → (row_reading r).terms ≡ map view vs
made_terms r vs h = row_terms r ∙ ap (map view) h.0

made_right : (r : Row) (vs : List Value) → IsRowOf r vs → IsTrue (row_reading r).right
made_right r vs h =
    let e : r.deepest ≡ deepest (terms (map term_of (map reading r.items))) =
    h.1 ∙ ap (λ us. deepest (terms (map view us))) (sym h.0)
    ∙ ap (λ ts. deepest (terms ts)) (sym (map-map term_of reading r.items)) in
    subst (λ (q : RowReading). IsTrue q.right) (sym (row-out r))
    (both_true _ _ (subst (λ n. IsTrue (eqb r.deepest n)) e (eqb_self r.deepest))
    (subst (λ us. IsTrue (all_right (map reading us))) (sym h.0) (all_right_of vs h.2)))

made_rises : (r : Row) (vs : List Value) → IsRowOf r vs → IsTrue (all_rise (terms (row_reading r).terms))
made_rises r vs h = subst (λ ts. IsTrue (all_rise (terms ts))) (sym (made_terms r vs h)) (all_rise_of vs h.2)

-- the tuple and the fun that are made of a row
pub row_tuple : (row : Rc Row Global) (vs : List Value) → IsRowOf row.value vs
    → view (V.Tuple row) ≡ P.tuple (terms (map view vs))
row_tuple row vs h =
    ap (λ (q : Reading). q.term) (tuple-out _ row refl) ∙ ap (λ ts. P.tuple (terms ts)) (made_terms row.value vs h)

pub row_tuple_whole : (row : Rc Row Global) (vs : List Value) → IsRowOf row.value vs → IsWhole (V.Tuple row)
unfolding maps_rise
row_tuple_whole row vs h = record {
  right = subst (λ (q : Reading). IsTrue q.right) (sym (tuple-out _ row refl)) (made_right row.value vs h);
  rising = subst (λ (q : Reading). IsTrue (maps_rise q.term)) (sym (tuple-out _ row refl)) (made_rises row.value vs h);
}

pub row_fun : (fun : Rc Local Global) (vs : List Value) → IsRowOf fun.value.captured vs
    → view (V.Fun fun) ≡ P.fun fun.value.«module» fun.value.site.0 fun.value.arity (terms (map view vs))
row_fun fun vs h =
    ap (λ (q : Reading). q.term) (fun-out _ fun refl)
    ∙ ap (λ ts. P.fun fun.value.«module» fun.value.site.0 fun.value.arity (terms ts))
    (made_terms fun.value.captured vs h)

pub row_fun_whole : (fun : Rc Local Global) (vs : List Value) → IsRowOf fun.value.captured vs → IsWhole (V.Fun fun)
unfolding maps_rise
row_fun_whole fun vs h = record {
  right = subst (λ (q : Reading). IsTrue q.right) (sym (fun-out _ fun refl)) (made_right fun.value.captured vs h);
  rising = subst (λ (q : Reading). IsTrue (maps_rise q.term)) (sym (fun-out _ fun refl))
      (made_rises fun.value.captured vs h);
}

-- how a tuple and a fun read by their rows
pub tuple_view : (v : Value) (row : Rc Row Global) (r : Row) (vs : List Value) → v ≡ V.Tuple row → r ≡ row.value
    → vs ≡ r.items → view v ≡ P.tuple (terms (map view vs))
tuple_view v row r vs e f g =
    ap (λ (q : Reading). q.term) (tuple-out v row e)
    ∙ ap (λ ts. P.tuple (terms ts)) (row_terms row.value ∙ ap (map view) (ap (λ (q : Row). q.items) (sym f) ∙ sym g))

pub fun_view : (v : Value) (fun : Rc Local Global) (f : Local) (vs : List Value) → v ≡ V.Fun fun → f ≡ fun.value
    → vs ≡ f.captured.items
    → view v ≡ P.fun f.«module» f.site.0 f.arity (terms (map view vs))
fun_view v fun f vs e g h =
    ap (λ (q : Reading). q.term) (fun-out v fun e)
    ∙ ap (λ ts. P.fun fun.value.«module» fun.value.site.0 fun.value.arity (terms ts)) (row_terms fun.value.captured)
    ∙ ap (λ (l : Local). P.fun l.«module» l.site.0 l.arity (terms (map view l.captured.items))) (sym g)
    ∙ ap (λ us. P.fun f.«module» f.site.0 f.arity (terms (map view us))) (sym h)

-- how many elements a tuple has, and each of them
pub some_counted : (vs : List Value) (t : Term) → Some (map view vs) ≡ elements_of t
    → Some (length vs) ≡ option_map length (elements_of t)
some_counted vs t e = ap Some (sym (length-map vs view)) ∙ ap (option_map length) e

pub none_counted : (t : Term) → None ≡ elements_of t → None ≡ option_map length (elements_of t)
none_counted t e = ap (option_map length) e

pub ruleset elements_counted = (some_counted, none_counted)

slice_get-map : (vs : List Value) (i : ℕ) (d : Value) → i < length vs
    → slice_get (map view vs) i ≡ Some (view (get_or vs i d))
slice_get-map [] i d h = absurd (omega (arith, h))
slice_get-map (v ∷ vs) zero d h = refl
slice_get-map (v ∷ vs) (suc i) d h = slice_get-map vs i d (omega (arith, h))

slice_get-beyond : (vs : List Value) (i : ℕ) → length vs ≤ i → slice_get (map view vs) i ≡ None
slice_get-beyond [] i h = refl
slice_get-beyond (v ∷ vs) zero h = absurd (omega (arith, h))
slice_get-beyond (v ∷ vs) (suc i) h = slice_get-beyond vs i (omega (arith, h))

abbrev at_place : ℕ → Option (List Term) → Option Term
at_place n o = option_and_then (λ ts. slice_get ts n) o

pub some_got : (vs : List Value) (t : Term) (i : ℕ) (d : Value) → i < length vs → Some (map view vs) ≡ elements_of t
    → Some (view (get_or vs i d)) ≡ element_of i t
some_got vs t i d h e = sym (slice_get-map vs i d h) ∙ ap (at_place i) e

pub beyond_got : (vs : List Value) (t : Term) (i : ℕ) → length vs ≤ i → Some (map view vs) ≡ elements_of t
    → None ≡ element_of i t
beyond_got vs t i h e = sym (slice_get-beyond vs i h) ∙ ap (at_place i) e

pub none_got : (t : Term) (i : ℕ) → None ≡ elements_of t → None ≡ element_of i t
none_got t i e = ap (at_place i) e

pub ruleset element_got = (some_got, beyond_got, none_got)
