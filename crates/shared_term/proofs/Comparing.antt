-- How the order of two values comes from their parts.
use Rattle.std.proofs.Common.{◌≡◌, ◌≢◌, ℕ, ◌≤◌, ◌<◌, refl, sym, ap, ap₂, ◌∙◌, List, [], ◌∷◌, map, drop, get_or, ◌+◌}
use Rattle.std.proofs.Common.{length, min, zero, suc, arith}
use Rattle.std.specs.declared.cmp.Ordering.{Ordering}
use Rattle.std.specs.declared.cmp.Ordering.TheVariants.{Less, Equal, Greater}
use Rattle.std.specs.Ordering.{nat_cmp, ordering_then}
use Rattle.std.specs.Cmp.Lexicographic.{slice_cmp}
use Rattle.std.proofs.lemmas.List.{drop_more}
use Rattle.erl_term.proofs.Comparing.{then-assoc, decided, first_shorter, first_longer, both_longer}
use Rattle.erl_term.specs.TermOrder.{compare, compare_all, count, pair_count, rank}
use Rattle.shared_term.specs.Comparing.{same_kind, same_kind_of, cells}
use Rattle.shared_term.specs.View.{view, row, pair_row}
use Rattle.std.specs.declared.rc.Rc.{Rc}
use Rattle.std.specs.declared.alloc.Global.{Global}
use Rattle.erl_term.specs.Term as P
use Rattle.shared_term.specs.declared.value.Cell.{Cell}
use Rattle.shared_term.specs.declared.value.Local.{Local}
use Rattle.shared_term.specs.declared.value.MapPairs.{MapPairs}
use Rattle.shared_term.specs.declared.value.Row.{Row}
use Rattle.shared_term.specs.declared.value.Value.{Value, out-Value}
use Rattle.shared_term.specs.declared.value.ValuePair.{ValuePair}
use Rattle.shared_term.specs.declared.value.Value.TheOpen.{Value-F}
use Rattle.shared_term.specs.declared.value.Value.TheOpen as form
use Rattle.shared_term.specs.declared.value.Value.TheVariants as V
use Rattle.shared_term.proofs.Forms.{shown, view-out}

compare-forms : (f g : Value-F Value Cell Local MapPairs Row ValuePair)
    → compare (shown f) (shown g) ≡ ordering_then (nat_cmp (rank (shown f)) (rank (shown g))) (same_kind f g)
unfolding compare
compare-forms (form.Fun f) (form.Fun g) =
    ap (ordering_then (slice_cmp nat_cmp f.value.module g.value.module))
    (then-assoc (nat_cmp f.value.site.0 g.value.site.0) (nat_cmp f.value.arity g.value.arity)
    (compare_all (row f.value.captured.items) (row g.value.captured.items)))
    ∙ then-assoc (slice_cmp nat_cmp f.value.module g.value.module)
    (ordering_then (nat_cmp f.value.site.0 g.value.site.0) (nat_cmp f.value.arity g.value.arity))
    (compare_all (row f.value.captured.items) (row g.value.captured.items))
compare-forms (form.Int a) (form.Int b) = refl
compare-forms (form.Atom a) (form.Atom b) = refl
compare-forms form.Nil form.Nil = refl
compare-forms (form.Cons c) (form.Cons d) = refl
compare-forms (form.Tuple xs) (form.Tuple ys) = refl
compare-forms (form.Map ps) (form.Map qs) = refl
compare-forms (form.Bits a) (form.Bits b) = refl
compare-forms (form.Extern f) (form.Extern g) = refl
compare-forms (form.Pid a) (form.Pid b) = refl
compare-forms (form.Reference a) (form.Reference b) = refl
compare-forms (form.Port a) (form.Port b) = refl
compare-forms (form.RawTrace a) (form.RawTrace b) = refl
compare-forms f g = refl

compare-is : (a b : Value)
    → compare (view a) (view b) ≡ ordering_then (nat_cmp (rank (view a)) (rank (view b))) (same_kind_of a b)
compare-is a b =
    ap₂ compare (view-out a) (view-out b) ∙ compare-forms (out-Value a) (out-Value b)
    ∙ ap₂ (λ x y. ordering_then (nat_cmp (rank x) (rank y)) (same_kind_of a b)) (sym (view-out a)) (sym (view-out b))

-- the answer for values whose kinds have one place, and for others
pub of_same : (a b : Value) (o : Ordering) → Equal ≡ nat_cmp (rank (view a)) (rank (view b)) → o ≡ same_kind_of a b
    → o ≡ compare (view a) (view b)
of_same a b o e f = f ∙ ap (λ r. ordering_then r (same_kind_of a b)) e ∙ sym (compare-is a b)

pub of_other : (a b : Value) (o : Ordering) → o ≡ nat_cmp (rank (view a)) (rank (view b)) → o ≢ Equal
    → o ≡ compare (view a) (view b)
of_other a b o e d =
    sym (decided o (same_kind_of a b) d) ∙ ap (λ r. ordering_then r (same_kind_of a b)) e ∙ sym (compare-is a b)

pub ruleset compares = (of_same, of_other)

pub count-row : (vs : List Value) → count (row vs) ≡ length vs
count-row [] = refl
count-row (v ∷ vs) = ap suc (count-row vs)

pub pair_count-row : (ps : List ValuePair) → pair_count (pair_row ps) ≡ length ps
pair_count-row [] = refl
pair_count-row (p ∷ ps) = ap suc (pair_count-row ps)

pub ruleset counts = (count-row, pair_count-row)

-- once one row is at its end, their numbers decide
pub all_over : (xs ys : List Value) (i : ℕ) → min (length xs) (length ys) ≤ i → i ≤ length xs → i ≤ length ys
    → compare_all (row (drop i xs)) (row (drop i ys)) ≡ nat_cmp (length xs) (length ys)
unfolding compare
all_over [] [] zero h l m = refl
all_over [] (y ∷ ys) zero h l m = sym (first_shorter (length ys))
all_over (x ∷ xs) [] zero h l m = sym (first_longer (length xs))
all_over (x ∷ xs) (y ∷ ys) zero h l m = absurd (omega (arith, h))
all_over [] ys (suc i) h l m = absurd (omega (arith, l))
all_over (x ∷ xs) [] (suc i) h l m = absurd (omega (arith, m))
all_over (x ∷ xs) (y ∷ ys) (suc i) h l m =
    all_over xs ys i (omega (arith, h)) (omega (arith, l)) (omega (arith, m))
    ∙ sym (both_longer (length xs) (length ys))

pub ruleset rows = (all_over)

-- lists whose first items are equal compare as what follows them
pub cons_view : (u : Value) (v : Rc Cell Global) → u ≡ V.Cons v
    → view u ≡ P.cons (view v.value.head) (view v.value.tail)
cons_view u v e = view-out u ∙ ap shown (ap out-Value e ∙ V.outs-Cons v)

pub cells_step : (x y p q : Cell) (v w : Rc Cell Global) → x.tail ≡ V.Cons v → y.tail ≡ V.Cons w → p ≡ v.value
    → q ≡ w.value
    → Equal ≡ compare (view x.head) (view y.head) → cells p q ≡ cells x y
unfolding compare
cells_step x y p q v w e f g h o =
    ap₂ cells g h ∙ sym (ap₂ compare (cons_view x.tail v e) (cons_view y.tail w f))
    ∙ ap (λ r. ordering_then r (compare (view x.tail) (view y.tail))) o
