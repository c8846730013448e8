-- Values and terms side by side, along a list and along the pairs of a map.
use Rattle.std.proofs.Common.{◌≡◌, refl, sym, ap, ap₂, ◌∙◌, subst, ℕ, ◌+◌, ◌<◌, List, [], ◌∷◌, ◌++◌, map, take}
use Rattle.std.proofs.Common.{length, get_or}
use Rattle.std.proofs.lemmas.List.{map-append, take_more}
use Rattle.std.specs.declared.rc.Rc.{Rc}
use Rattle.std.specs.declared.alloc.Global.{Global}
use Rattle.erl_term.specs.Term as P
use Rattle.erl_term.specs.Terms.{list_of}
use Rattle.erl_term.specs.View as Kept
use Rattle.erl_term.specs.declared.term.Pair.{Pair, fold_out-Pair}
use Rattle.erl_term.specs.declared.term.Term.{Term}
use Rattle.shared_term.specs.View.{view, pair_view}
use Rattle.shared_term.specs.declared.value.Cell.{Cell}
use Rattle.shared_term.specs.declared.value.Local.{Local}
use Rattle.shared_term.specs.declared.value.MapPairs.{MapPairs}
use Rattle.shared_term.specs.declared.value.Row.{Row}
use Rattle.shared_term.specs.declared.value.Value.{Value, out-Value}
use Rattle.shared_term.specs.declared.value.Value.TheOpen.{Value-F}
use Rattle.shared_term.specs.declared.value.Value.TheOpen as form
use Rattle.shared_term.specs.declared.value.Value.TheViews.{roll-Value, roll-out-Value}
use Rattle.erl_term.proofs.Forms.{NoCell}
use Rattle.shared_term.proofs.Forms.{shown, view-out}
use Rattle.shared_term.specs.declared.value.Value.TheVariants as V
use Rattle.shared_term.specs.declared.value.ValuePair.{ValuePair}
use Rattle.shared_term.proofs.Comparing.{cons_view}

-- one more item of a list
pushed : (ts new : List Term) (t : Term) (u : P.Term) → new ≡ ts ++ t ∷ []
    → list_of (map Kept.view new) u ≡ list_of (map Kept.view ts) (P.cons (Kept.view t) u)
pushed ts new t u e = ap (λ xs. list_of (map Kept.view xs) u) e ∙ along ts
  where
    along : (xs : List Term)
        → list_of (map Kept.view (xs ++ t ∷ [])) u ≡ list_of (map Kept.view xs) (P.cons (Kept.view t) u)
    along [] = refl
    along (x ∷ xs) = ap (P.cons (Kept.view x)) (along xs)

pub list_end : (ts new : List Term) (t u : Term) (x : Cell) → new ≡ ts ++ t ∷ [] → Kept.view t ≡ view x.head
    → Kept.view u ≡ view x.tail
    → list_of (map Kept.view new) (Kept.view u) ≡ list_of (map Kept.view ts) (P.cons (view x.head) (view x.tail))
list_end ts new t u x e f g = pushed ts new t (Kept.view u) e ∙ ap₂ (λ a b. list_of (map Kept.view ts) (P.cons a b)) f g

pub list_step : (ts new : List Term) (t : Term) (x y : Cell) (next : Rc Cell Global) → new ≡ ts ++ t ∷ []
    → Kept.view t ≡ view x.head → x.tail ≡ V.Cons next → y ≡ next.value
    → list_of (map Kept.view new) (P.cons (view y.head) (view y.tail)) ≡ list_of (map Kept.view ts)
    (P.cons (view x.head) (view x.tail))
list_step ts new t x y next e f g h =
    pushed ts new t (P.cons (view y.head) (view y.tail)) e
    ∙ ap₂ (λ a b. list_of (map Kept.view ts) (P.cons a b)) f
    (ap (λ (c : Cell). P.cons (view c.head) (view c.tail)) h ∙ sym (cons_view x.tail next g))

-- one more pair of a map
pair_reads : (p : Pair) → Kept.pair_view p ≡ (Kept.view p.key, Kept.view p.value)
pair_reads p = fold_out-Pair P.Term (P.Term × P.Term) Kept.view_step Kept.pair_step p

one_more : {A B : Type 0} (f : A → P.Term × P.Term) (g : B → P.Term × P.Term) (xs new : List A) (ys : List B) (i : ℕ)
    (x : A) (d : B) → i < length ys
    → new ≡ xs ++ x ∷ [] → map f xs ≡ map g (take i ys) → f x ≡ g (get_or ys i d) → map f new ≡ map g (take (i + 1) ys)
one_more f g xs new ys i x d l e h k =
    ap (map f) e ∙ map-append f xs (x ∷ []) ∙ ap₂ (λ a b. a ++ b ∷ []) h k
    ∙ sym (ap (map g) (take_more ys i d l) ∙ map-append g (take i ys) (get_or ys i d ∷ []))

pub pairs_more : (ps new : List Pair) (qs : List ValuePair) (i : ℕ) (p : Pair) (d : ValuePair) → i < length qs
    → new ≡ ps ++ p ∷ []
    → map Kept.pair_view ps ≡ map pair_view (take i qs) → d ≡ get_or qs i d → Kept.view p.key ≡ view d.key
    → Kept.view p.value ≡ view d.value
    → map Kept.pair_view new ≡ map pair_view (take (i + 1) qs)
pairs_more ps new qs i p d l e h k f g =
    one_more Kept.pair_view pair_view ps new qs i p d l e h
    (pair_reads p ∙ ap₂ (λ (x : P.Term) (y : P.Term). (x, y)) f g ∙ ap pair_view k)

pub values_more : (qs new : List ValuePair) (ps : List Pair) (i : ℕ) (q : ValuePair) (d : Pair) → i < length ps
    → new ≡ qs ++ q ∷ []
    → map pair_view qs ≡ map Kept.pair_view (take i ps) → d ≡ get_or ps i d → view q.key ≡ Kept.view d.key
    → view q.value ≡ Kept.view d.value
    → map pair_view new ≡ map Kept.pair_view (take (i + 1) ps)
values_more qs new ps i q d l e h k f g =
    one_more pair_view Kept.pair_view qs new ps i q d l e h
    (ap₂ (λ (x : P.Term) (y : P.Term). (x, y)) f g ∙ sym (pair_reads d) ∙ ap Kept.pair_view k)

-- a value that is no cell reads as none
no_cons_form : (v : Value) (f : Value-F Value Cell Local MapPairs Row ValuePair) → out-Value v ≡ f
    → ((cell : Rc Cell Global) → v ≡ V.Cons cell → ⊥) → NoCell (shown f)
no_cons_form v (form.Cons c) e h = λ r. h c (sym (roll-out-Value v) ∙ ap roll-Value e ∙ V.rolls-Cons c)
no_cons_form v (form.Int z) e h = λ r. cc
no_cons_form v (form.Atom a) e h = λ r. cc
no_cons_form v form.Nil e h = λ r. cc
no_cons_form v (form.Tuple xs) e h = λ r. cc
no_cons_form v (form.Map ps) e h = λ r. cc
no_cons_form v (form.Bits b) e h = λ r. cc
no_cons_form v (form.Fun f) e h = λ r. cc
no_cons_form v (form.Extern f) e h = λ r. cc
no_cons_form v (form.Pid k) e h = λ r. cc
no_cons_form v (form.Reference k) e h = λ r. cc
no_cons_form v (form.Port k) e h = λ r. cc
no_cons_form v (form.RawTrace c) e h = λ r. cc

pub no_cons : (v : Value) → ((cell : Rc Cell Global) → v ≡ V.Cons cell → ⊥) → NoCell (view v)
no_cons v h = subst NoCell (sym (view-out v)) (no_cons_form v (out-Value v) refl h)
