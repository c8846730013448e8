-- More bound only prolongs a run.
use Rattle.std.proofs.Common.{◌≡◌, ◌≤◌, ◌<◌, sym, subst, ℕ, zero, suc, List, [], ◌∷◌, refl, ◌∙◌, arith, ap}
use Rattle.erl_term.specs.Term.{Term, Class}
use Rattle.world_model.specs.Run.{Entry, entered, State, Note, Outcome, gives, raises, waits, spent, M, ◌>>=◌, after, going_on, noting}
use Rattle.world_model.specs.Meaning.{ends, ending, either}
use Rattle.core_meaning.specs.ClauseChoice.{blank}
use Rattle.world_model.specs.Entries.{entry_left, counted}
use Rattle.core_meaning.proofs.Rules.{with_left, Quiet, Logic}
use Rattle.core_meaning.proofs.Kept.{Grown, grown_twice}

-- j more
abbrev pub up : ℕ → ℕ → ℕ
up j zero = j
up j (suc n) = suc (up j n)

abbrev pub more : ℕ → State → State
more j s = with_left (up j s.left) s

-- how a run with j entries more ends, where this one ends in u with an outcome
abbrev pub Prolonged : {A : Type 0} → ℕ → State → Outcome A → State × Outcome A → Type 0
Prolonged j u (gives a) r = r ≡ (more j u, gives a)
Prolonged j u (raises c t) r = r ≡ (more j u, raises c t)
Prolonged j u (waits q) r = r ≡ (more j u, waits q)
Prolonged j u spent r = Grown u.notes r.0.notes

-- the second meaning, where it has more entries, against the first where it has fewer than b
pub record Longer {A : Type 0} (b j : ℕ) (m n : M A) : Type 0 where
  pub low : (s : State) → (m s).0.left ≤ s.left
  pub grows : (s : State) → Grown s.notes (n s).0.notes
  pub long : (s : State) → s.left < b → Prolonged j (m s).0 (m s).1 (n (more j s))
  pub none : (s : State) → s.left < b → s.left ≡ 0 → m s ≡ n s

module _ (b j : ℕ) where
  pub after_low : {A B : Type 0} (s u : State) (o : Outcome A) (f : A → M B) → u.left ≤ s.left
      → ((a : A) (v : State) → (f a v).0.left ≤ v.left) → (after u o f).0.left ≤ s.left
  after_low s u (gives a) f l h = omega (arith, l, h a u)
  after_low s u (raises c t) f l h = l
  after_low s u (waits q) f l h = l
  after_low s u spent f l h = l

  after_grows : {A B : Type 0} (ns : List Note) (u : State) (o : Outcome A) (f : A → M B) → Grown ns u.notes
      → ((a : A) (v : State) → Grown v.notes (f a v).0.notes) → Grown ns (after u o f).0.notes
  after_grows ns u (gives a) f g h = grown_twice ns u.notes _ g (h a u)
  after_grows ns u (raises c t) f g h = g
  after_grows ns u (waits q) f g h = g
  after_grows ns u spent f g h = g

  after_long : {A B : Type 0} (u : State) (o : Outcome A) (r : State × Outcome A) (f g : A → M B) → u.left < b
      → Prolonged j u o r → ((a : A) → Longer b j (f a) (g a))
      → Prolonged j (after u o f).0 (after u o f).1 (going_on r g)
  after_long u (gives a) r f g l e h =
      subst (λ q. Prolonged j (f a u).0 (f a u).1 (going_on q g)) (sym e) ((h a).long u l)
  after_long u (raises c t) r f g l e h = subst (λ q. Prolonged {A = _} j u (raises c t) (going_on q g)) (sym e) refl
  after_long u (waits k) r f g l e h = subst (λ q. Prolonged {A = _} j u (waits k) (going_on q g)) (sym e) refl
  after_long u spent r f g l e h = after_grows u.notes r.0 r.1 g e (λ a v. (h a).grows v)

  after_none : {A B : Type 0} (u : State) (o : Outcome A) (f g : A → M B) → u.left < b → u.left ≡ 0
      → ((a : A) → Longer b j (f a) (g a)) → after u o f ≡ after u o g
  after_none u (gives a) f g l z h = (h a).none u l z
  after_none u (raises c t) f g l z h = refl
  after_none u (waits k) f g l z h = refl
  after_none u spent f g l z h = refl

  pub bound_longer : {A B : Type 0} (m n : M A) (f g : A → M B) → Longer b j m n → ((a : A) → Longer b j (f a) (g a))
      → Longer b j (m >>= f) (n >>= g)
  bound_longer m n f g r h = record {
    low = λ s. after_low s (m s).0 (m s).1 f (r.low s) (λ a v. (h a).low v);
    grows = λ s. after_grows s.notes (n s).0 (n s).1 g (r.grows s) (λ a v. (h a).grows v);
    long = λ s l. after_long (m s).0 (m s).1 (n (more j s)) f g (omega (arith, l, r.low s)) (r.long s l) h;
    none = λ s l z. after_none (m s).0 (m s).1 f g (omega (arith, l, r.low s)) (omega (arith, z, r.low s)) h
        ∙ ap (λ q. going_on q g) (r.none s l z);
  }

  -- Catching, likewise with two ways on.

  pub ends_low : {A B : Type 0} (s u : State) (o : Outcome A) (f : A → M B) (g : Class → Term → M B) → u.left ≤ s.left
      → ((a : A) (v : State) → (f a v).0.left ≤ v.left)
      → ((c : Class) (t : Term) (v : State) → (g c t v).0.left ≤ v.left) → (ends u o f g).0.left ≤ s.left
  ends_low s u (gives a) f g l h i = omega (arith, l, h a u)
  ends_low s u (raises c t) f g l h i = omega (arith, l, i c t u)
  ends_low s u (waits q) f g l h i = l
  ends_low s u spent f g l h i = l

  ends_grows : {A B : Type 0} (ns : List Note) (u : State) (o : Outcome A) (f : A → M B) (g : Class → Term → M B)
      → Grown ns u.notes → ((a : A) (v : State) → Grown v.notes (f a v).0.notes)
      → ((c : Class) (t : Term) (v : State) → Grown v.notes (g c t v).0.notes) → Grown ns (ends u o f g).0.notes
  ends_grows ns u (gives a) f g k h i = grown_twice ns u.notes _ k (h a u)
  ends_grows ns u (raises c t) f g k h i = grown_twice ns u.notes _ k (i c t u)
  ends_grows ns u (waits q) f g k h i = k
  ends_grows ns u spent f g k h i = k

  ends_long : {A B : Type 0} (u : State) (o : Outcome A) (r : State × Outcome A) (f f' : A → M B)
      (g g' : Class → Term → M B) → u.left < b → Prolonged j u o r → ((a : A) → Longer b j (f a) (f' a))
      → ((c : Class) (t : Term) → Longer b j (g c t) (g' c t))
      → Prolonged j (ends u o f g).0 (ends u o f g).1 (ending r f' g')
  ends_long u (gives a) r f f' g g' l e h i =
      subst (λ q. Prolonged j (f a u).0 (f a u).1 (ending q f' g')) (sym e) ((h a).long u l)
  ends_long u (raises c t) r f f' g g' l e h i =
      subst (λ q. Prolonged j (g c t u).0 (g c t u).1 (ending q f' g')) (sym e) ((i c t).long u l)
  ends_long u (waits k) r f f' g g' l e h i = subst (λ q. Prolonged {A = _} j u (waits k) (ending q f' g')) (sym e) refl
  ends_long u spent r f f' g g' l e h i =
      ends_grows u.notes r.0 r.1 f' g' e (λ a v. (h a).grows v) (λ c t v. (i c t).grows v)

  ends_none : {A B : Type 0} (u : State) (o : Outcome A) (f f' : A → M B) (g g' : Class → Term → M B) → u.left < b
      → u.left ≡ 0 → ((a : A) → Longer b j (f a) (f' a)) → ((c : Class) (t : Term) → Longer b j (g c t) (g' c t))
      → ends u o f g ≡ ends u o f' g'
  ends_none u (gives a) f f' g g' l z h i = (h a).none u l z
  ends_none u (raises c t) f f' g g' l z h i = (i c t).none u l z
  ends_none u (waits k) f f' g g' l z h i = refl
  ends_none u spent f f' g g' l z h i = refl

  pub caught_longer : {A B : Type 0} (m n : M A) (f f' : A → M B) (g g' : Class → Term → M B) → Longer b j m n
      → ((a : A) → Longer b j (f a) (f' a)) → ((c : Class) (t : Term) → Longer b j (g c t) (g' c t))
      → Longer b j (either m f g) (either n f' g')
  caught_longer m n f f' g g' r h i = record {
    low = λ s. ends_low s (m s).0 (m s).1 f g (r.low s) (λ a v. (h a).low v) (λ c t v. (i c t).low v);
    grows = λ s. ends_grows s.notes (n s).0 (n s).1 f' g' (r.grows s) (λ a v. (h a).grows v) (λ c t v. (i c t).grows v);
    long = λ s l. ends_long (m s).0 (m s).1 (n (more j s)) f f' g g' (omega (arith, l, r.low s)) (r.long s l) h i;
    none = λ s l z. ends_none (m s).0 (m s).1 f f' g g' (omega (arith, l, r.low s)) (omega (arith, z, r.low s)) h i
        ∙ ap (λ q. ending q f' g') (r.none s l z);
  }

  pub moved_longer : {A : Type 0} (f : State → State) → Quiet f → (m n : M A) → Longer b j m n
      → Longer b j (λ s. m (f s)) (λ s. n (f s))
  moved_longer f q m n r = record {
    low = λ s. omega (arith, r.low (f s), q.left s);
    grows = λ s. grown_twice _ _ _ (q.grows s) (r.grows (f s));
    long = λ s l.
        let e : more j (f s) ≡ f (more j s) =
        ap (λ k. with_left (up j k) (f s)) (q.left s) ∙ sym (q.free s (up j s.left)) in
        subst (λ v. Prolonged j (m (f s)).0 (m (f s)).1 (n v)) e (r.long (f s) (omega (arith, l, q.left s)));
    none = λ s l z. r.none (f s) (omega (arith, l, q.left s)) (q.left s ∙ z);
  }

  pub seen_longer : {A X : Type 0} (g : State → X) → ((s : State) (k : ℕ) → g (with_left k s) ≡ g s) → (f h : X → M A)
      → ((x : X) → Longer b j (f x) (h x)) → Longer b j (λ s. f (g s) s) (λ s. h (g s) s)
  seen_longer g e f h r = record {
    low = λ s. (r (g s)).low s;
    grows = λ s. (r (g s)).grows s;
    long = λ s l. subst (λ x. Prolonged j (f (g s) s).0 (f (g s) s).1 (h x (more j s))) (sym (e s (up j s.left)))
        ((r (g s)).long s l);
    none = λ s l z. (r (g s)).none s l z;
  }

  pub ended_longer : {A : Type 0} (o : Outcome A) → ((s : State) → Prolonged j s o (more j s, o))
      → Longer b j (λ s. (s, o)) (λ s. (s, o))
  ended_longer o h = record { low = λ s. omega arith; grows = λ s. ([], refl); long = λ s l. h s; none = λ s l z. refl }

unfoldable pub prolonging : ℕ → ℕ → Logic
prolonging d j = record {
  Rel = Longer (suc d) j;
  given = λ a. ended_longer (suc d) j (gives a) (λ s. refl);
  failed = λ c t. ended_longer (suc d) j (raises c t) (λ s. refl);
  waited = λ q. ended_longer (suc d) j (waits q) (λ s. refl);
  bound = bound_longer (suc d) j;
  caught = caught_longer (suc d) j;
  moved = moved_longer (suc d) j;
  seen = seen_longer (suc d) j;
  guard = λ m n r. r.none blank (omega arith) refl;
}

-- Entering.

more_grows : {A : Type 0} (n : M A) → ((s : State) → Grown s.notes (n s).0.notes) → (e : Entry) (k : ℕ) (s : State)
    → Grown s.notes (entry_left k e n s).0.notes
more_grows n h e zero s = ([], refl)
more_grows n h e (suc k) s = grown_twice _ _ _ (entered e ∷ [], refl) (h (noting (entered e) (with_left k s)))

pub left_low : {A : Type 0} (m : M A) → ((s : State) → (m s).0.left ≤ s.left) → (e : Entry) (k : ℕ) (s : State)
    → s.left ≡ k → (entry_left k e m s).0.left ≤ s.left
left_low m h e zero s p = omega arith
left_low m h e (suc k) s p = omega (arith, p, h (noting (entered e) (with_left k s)))

left_long : {A : Type 0} (d j : ℕ) (m n : M A) → Longer d j m n → (e : Entry) (k : ℕ) (s : State) → s.left ≡ k
    → k < suc d → Prolonged j (entry_left k e m s).0 (entry_left k e m s).1
    (entry_left (up j k) e n (with_left (up j k) s))
left_long d j m n r e zero s p l = more_grows n r.grows e j (with_left j s)
left_long d j m n r e (suc k) s p l = r.long (noting (entered e) (with_left k s)) (omega (arith, l))

left_none : {A : Type 0} (m n : M A) (e : Entry) (k : ℕ) (s : State) → k ≡ 0 → entry_left k e m s ≡ entry_left k e n s
left_none m n e zero s z = refl
left_none m n e (suc k) s z = absurd (omega (arith, z))

pub entry_longer : {A : Type 0} (d j : ℕ) (m n : M A) → Longer d j m n → (e : Entry)
    → Longer (suc d) j (counted e m) (counted e n)
entry_longer d j m n r e = record {
  low = λ s. left_low m r.low e s.left s refl;
  grows = λ s. more_grows n r.grows e s.left s;
  long = λ s l. left_long d j m n r e s.left s refl l;
  none = λ s l z. left_none m n e s.left s z;
}
