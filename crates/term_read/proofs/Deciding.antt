-- A reader decides a relation: what it reads is related, and what is related is read.
use Rattle.std.proofs.Common.{◌≡◌, ℕ, zero, suc, refl, sym, ap, ◌∙◌, subst, List, [], ◌∷◌, length, codes, Option, Some, None}
use Rattle.erl_term.specs.Term as T
use Rattle.erl_term.specs.Term.{Term}
use Rattle.erl_term.specs.Terms.{list_of}
use Rattle.term_read.specs.Lexemes.{◌>>=◌, behind_mark, mark_at}
use Rattle.term_read.specs.TermGrammar.{Items, one_item, more_items, Row, no_item, some_items, ListEnd, no_tail, tail, PairOf, key_and_value}
use Rattle.term_read.specs.Reading.{before, choice, and_items, items_within, items_of, row_of, list_end, pair_by}
use Rattle.term_read.proofs.Shorter.{bound, some_same, mark_taken}
use Rattle.term_read.proofs.ItemRows.{Consumes, no_items, last_of_items, more_of_items}

pub record Sound {A : Type 0} (p : List ℕ → Option (A × List ℕ)) (P : List ℕ → A → List ℕ → Type 0) : Type 0 where
  pub reads : (cs ds : List ℕ) (x : A) → p cs ≡ Some (x, ds) → P cs x ds

pub record Complete {A : Type 0} (p : List ℕ → Option (A × List ℕ)) (P : List ℕ → A → List ℕ → Type 0) : Type 0 where
  pub read : (cs ds : List ℕ) (x : A) → P cs x ds → p cs ≡ Some (x, ds)

-- nothing is read where the mark stands
pub record Apart {A : Type 0} (p : List ℕ → Option (A × List ℕ)) (close : List ℕ) : Type 0 where
  pub none : (cs ds : List ℕ) → mark_at close cs ≡ Some ds → p cs ≡ None

pub never_some : {A : Type 0} (x : A) → None ≡ Some x → ⊥
never_some x e = cc

-- Items.

pub items_sound : {A : Type 0} (p : List ℕ → Option (A × List ℕ)) (P : List ℕ → A → List ℕ → Type 0) → Sound p P
    → (n : ℕ) (cs ds : List ℕ) (xs : List A)
    → items_within p n cs ≡ Some (xs, ds) → Items P cs xs ds
items_sound p P s zero cs ds xs e = absurd (never_some (xs, ds) e)
items_sound {A} p P s (suc n) cs ds xs e =
    let x = bound (p cs) (λ x. and_items x (mark_at (codes ",") x.1) (items_within p n)) (xs, ds) e in
    by x.0 (s.reads cs (x.0).1 (x.0).0 x.1) (mark_at (codes ",") (x.0).1) refl x.2
    (λ es ys f. items_sound p P s n es ds ys f)
  where
    by : (x : A × List ℕ) → P cs x.0 x.1 → (r : Option (List ℕ)) → mark_at (codes ",") x.1 ≡ r
        → and_items x r (items_within p n) ≡ Some (xs, ds)
        → ((es : List ℕ) (ys : List A) → items_within p n es ≡ Some (ys, ds) → Items P es ys ds) → Items P cs xs ds
    by x h None f e g =
        let same : (x.0 ∷ [], x.1) ≡ (xs, ds) = some_same (x.0 ∷ [], x.1) (xs, ds) e in
        subst (λ (y : List A × List ℕ). Items P cs y.0 y.1) same (one_item cs x.1 x.0 h f)
    by x h (Some es) f e g =
        let y = bound (items_within p n es) (λ ys. Some (x.0 ∷ ys.0, ys.1)) (xs, ds) e in
        let same : (x.0 ∷ (y.0).0, (y.0).1) ≡ (xs, ds) = some_same (x.0 ∷ (y.0).0, (y.0).1) (xs, ds) y.2 in
        let left : (y.0).1 ≡ ds = ap (λ z. z.1) same in
        subst (λ (z : List A). Items P cs z ds) (ap (λ z. z.0) same)
        (more_items cs x.1 es ds x.0 (y.0).0 h f (g es (y.0).0 (y.1 ∙ ap (λ fs. Some ((y.0).0, fs)) left)))

pub items_complete : {A : Type 0} (p : List ℕ → Option (A × List ℕ)) (P : List ℕ → A → List ℕ → Type 0) → Complete p P
    → Consumes p → (cs ds : List ℕ) (xs : List A)
    → Items P cs xs ds → items_of p cs ≡ Some (xs, ds)
items_complete p P s h _ _ _ (one_item cs ds x r f) = last_of_items p h cs ds x (s.read cs ds x r) f
items_complete p P s h _ _ _ (more_items cs ds es fs x xs r f rest) =
    more_of_items p h cs ds es x (s.read cs ds x r) f ∙ ap (before (x ∷ [])) (items_complete p P s h es fs xs rest)

-- Rows.

pub no_item_stands : {A : Type 0} (p : List ℕ → Option (A × List ℕ)) (close : List ℕ) → Apart p close
    → (cs ds : List ℕ) (xs : List A) → items_of p cs ≡ Some (xs, ds)
    → (r : Option (List ℕ)) → mark_at close cs ≡ r → r ≡ None
no_item_stands p close a cs ds xs e None f = refl
no_item_stands p close a cs ds xs e (Some es) f =
    absurd (never_some (xs, ds) (sym (no_items p cs (a.none cs es f)) ∙ e))

pub choose : {A : Type 0} (r s : Option (List ℕ)) (f : List ℕ → Option A) (other : Option A) → r ≡ s
    → choice r f other ≡ choice s f other
choose r s f other e = ap (λ t. choice t f other) e

abbrev row_end : {A : Type 0} → (close : List ℕ) → List A × List ℕ → Option (List A × List ℕ)
row_end close xs = mark_at close xs.1 >>= λ ds. Some (xs.0, ds)

abbrev no_row : {A : Type 0} → List ℕ → Option (List A × List ℕ)
no_row ds = Some ([], ds)

pub row_sound : {A : Type 0} (p : List ℕ → Option (A × List ℕ)) (P : List ℕ → A → List ℕ → Type 0) (close : List ℕ)
    → Sound p P → (cs ds : List ℕ) (xs : List A)
    → row_of p close cs ≡ Some (xs, ds) → Row P close cs xs ds
unfolding row_of items_of
row_sound {A} p P close s cs ds xs e = by (mark_at close cs) refl e
  where
    by : (r : Option (List ℕ)) → mark_at close cs ≡ r
        → choice r no_row (items_of p cs >>= row_end close) ≡ Some (xs, ds) → Row P close cs xs ds
    by (Some es) f e =
        let same : ([], es) ≡ (xs, ds) = some_same {A = List A × List ℕ} ([], es) (xs, ds) e in
        subst (λ (y : List A × List ℕ). Row P close cs y.0 y.1) same (no_item cs es f)
    by None f e =
        let ys = bound (items_of p cs) (row_end close) (xs, ds) e in
        let es = bound (mark_at close (ys.0).1) (λ es. Some ((ys.0).0, es)) (xs, ds) ys.2 in
        let same : ((ys.0).0, es.0) ≡ (xs, ds) = some_same {A = List A × List ℕ} ((ys.0).0, es.0) (xs, ds) es.2 in
        subst (λ (y : List A × List ℕ). Row P close cs y.0 y.1) same
        (some_items cs (ys.0).1 es.0 (ys.0).0 (items_sound p P s (length cs) cs (ys.0).1 (ys.0).0 ys.1) es.1)

pub row_complete : {A : Type 0} (p : List ℕ → Option (A × List ℕ)) (P : List ℕ → A → List ℕ → Type 0) (close : List ℕ)
    → Complete p P → Consumes p → Apart p close
    → (cs ds : List ℕ) (xs : List A) → Row P close cs xs ds → row_of p close cs ≡ Some (xs, ds)
unfolding row_of
row_complete p P close s h a _ _ _ (no_item cs ds f) =
    choose (mark_at close cs) (Some ds) no_row (items_of p cs >>= row_end close) f
row_complete p P close s h a _ _ _ (some_items cs ds es xs items f) =
    let e = items_complete p P s h cs ds xs items in
    choose (mark_at close cs) None no_row (items_of p cs >>= row_end close)
    (no_item_stands p close a cs ds xs e (mark_at close cs) refl)
    ∙ ap (λ r. r >>= row_end close) e ∙ ap (λ r. r >>= λ fs. Some (xs, fs)) f

-- What ends a list.

abbrev tail_end : Term × List ℕ → Option (Term × List ℕ)
tail_end t = mark_at (codes "]") t.1 >>= λ es. Some (t.0, es)

abbrev nil_end : List ℕ → Option (Term × List ℕ)
nil_end cs = mark_at (codes "]") cs >>= λ ds. Some (T.nil, ds)

pub end_sound : (p : List ℕ → Option (Term × List ℕ)) (P : List ℕ → Term → List ℕ → Type 0) → Sound p P
    → (cs ds : List ℕ) (t : Term)
    → list_end p cs ≡ Some (t, ds) → ListEnd P cs t ds
unfolding list_end
end_sound p P s cs ds t e = by (mark_at (codes "|") cs) refl e
  where
    by : (r : Option (List ℕ)) → mark_at (codes "|") cs ≡ r
        → choice r (λ es. p es >>= tail_end) (nil_end cs) ≡ Some (t, ds) → ListEnd P cs t ds
    by (Some es) f e =
        let u = bound (p es) tail_end (t, ds) e in
        let fs = bound (mark_at (codes "]") (u.0).1) (λ fs. Some ((u.0).0, fs)) (t, ds) u.2 in
        let same : ((u.0).0, fs.0) ≡ (t, ds) = some_same {A = Term × List ℕ} ((u.0).0, fs.0) (t, ds) fs.2 in
        subst (λ (y : Term × List ℕ). ListEnd P cs y.0 y.1) same
        (tail cs es (u.0).1 fs.0 (u.0).0 f (s.reads es (u.0).1 (u.0).0 u.1) fs.1)
    by None f e =
        let es = bound (mark_at (codes "]") cs) (λ es. Some (T.nil, es)) (t, ds) e in
        let same : (T.nil, es.0) ≡ (t, ds) = some_same {A = Term × List ℕ} (T.nil, es.0) (t, ds) es.2 in
        subst (λ (y : Term × List ℕ). ListEnd P cs y.0 y.1) same (no_tail cs es.0 es.1)

no_bar : (cs ds : List ℕ) → mark_at (codes "]") cs ≡ Some ds → mark_at (codes "|") cs ≡ None
unfolding mark_at
no_bar cs ds e = ap (behind_mark (codes "|")) (mark_taken (codes "]") cs ds e)

pub end_complete : (p : List ℕ → Option (Term × List ℕ)) (P : List ℕ → Term → List ℕ → Type 0) → Complete p P
    → (cs ds : List ℕ) (t : Term)
    → ListEnd P cs t ds → list_end p cs ≡ Some (t, ds)
unfolding list_end
end_complete p P s _ _ _ (no_tail cs ds e) =
    choose (mark_at (codes "|") cs) None (λ es. p es >>= tail_end) (nil_end cs) (no_bar cs ds e)
    ∙ ap (λ r. r >>= λ fs. Some (T.nil, fs)) e
end_complete p P s _ _ _ (tail cs ds es fs t e r f) =
    choose (mark_at (codes "|") cs) (Some ds) (λ es. p es >>= tail_end) (nil_end cs) e
    ∙ ap (λ r. r >>= tail_end) (s.read ds es t r) ∙ ap (λ r. r >>= λ fs. Some (t, fs)) f

-- Pairs.

abbrev value_of : (List ℕ → Option (Term × List ℕ)) → Term → List ℕ → Option ((Term × Term) × List ℕ)
value_of p k ds = p ds >>= λ v. Some ((k, v.0), v.1)

pub pair_sound : (p : List ℕ → Option (Term × List ℕ)) (P : List ℕ → Term → List ℕ → Type 0) → Sound p P
    → Sound (pair_by p) (PairOf P)
unfolding pair_by
pair_sound p P s = record {
  reads = λ cs ds q e.
      let k = bound (p cs) (λ k. mark_at (codes "=>") k.1 >>= value_of p k.0) (q, ds) e in
      let es = bound (mark_at (codes "=>") (k.0).1) (value_of p (k.0).0) (q, ds) k.2 in
      let v = bound (p es.0) (λ v. Some (((k.0).0, v.0), v.1)) (q, ds) es.2 in
      let same : (((k.0).0, (v.0).0), (v.0).1) ≡ (q, ds) =
      some_same {A = (Term × Term) × List ℕ} (((k.0).0, (v.0).0), (v.0).1) (q, ds) v.2 in
      subst (λ (y : (Term × Term) × List ℕ). PairOf P cs y.0 y.1) same
      (key_and_value cs (k.0).1 es.0 (v.0).1 (k.0).0 (v.0).0 (s.reads cs (k.0).1 (k.0).0 k.1) es.1
      (s.reads es.0 (v.0).1 (v.0).0 v.1));
}

pair_read : (p : List ℕ → Option (Term × List ℕ)) (P : List ℕ → Term → List ℕ → Type 0) → Complete p P
    → (cs ds : List ℕ) (q : Term × Term) → PairOf P cs q ds → pair_by p cs ≡ Some (q, ds)
unfolding pair_by
pair_read p P s _ _ _ (key_and_value cs ds es fs k v r e t) =
    ap (λ x. x >>= λ k. mark_at (codes "=>") k.1 >>= value_of p k.0) (s.read cs ds k r) ∙ ap (λ x. x >>= value_of p k) e
    ∙ ap (λ x. x >>= λ v. Some ((k, v.0), v.1)) (s.read es fs v t)

pub pair_complete : (p : List ℕ → Option (Term × List ℕ)) (P : List ℕ → Term → List ℕ → Type 0) → Complete p P
    → Complete (pair_by p) (PairOf P)
pair_complete p P s = record { read = pair_read p P s }

pub pair_apart : (p : List ℕ → Option (Term × List ℕ)) (close : List ℕ) → Apart p close → Apart (pair_by p) close
unfolding pair_by
pair_apart p close a = record {
  none = λ cs ds e. ap (λ x. x >>= λ k. mark_at (codes "=>") k.1 >>= value_of p k.0)
      (a.none cs ds e);
}

-- How a list goes on, behind its bracket.

abbrev pub nil_given : List ℕ → Option (Term × List ℕ)
nil_given ds = Some (T.nil, ds)

abbrev pub list_tail : List Term → Term × List ℕ → Option (Term × List ℕ)
list_tail ts u = Some (list_of ts u.0, u.1)

abbrev pub list_given : (List ℕ → Option (Term × List ℕ)) → List Term × List ℕ → Option (Term × List ℕ)
list_given p ts = list_end p ts.1 >>= list_tail ts.0
