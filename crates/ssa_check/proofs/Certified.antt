-- A body with a certificate is well formed: by induction over ways, over windows and over paths to uses.
use Rattle.std.proofs.Common.{◌≡◌, ◌≤◌, ◌<◌, ⊎_elim, ℕ, suc, List, [], ◌∷◌, ◌++◌, Bool, true, false, ◌||◌, eqb, Option, Some, None, Contains, refl, sym, ap, ◌∙◌, subst, arith, IsTrue, IsFalse}
use Rattle.std.proofs.lemmas.Bool.{eqb-true, eq-eqb}
use Rattle.erl_base.specs.Lists.{among}
use Rattle.ssa_form.specs.Ssa.{Set, Body, block_at}
use Rattle.ssa_form.specs.Storage.{Handler, Mode, tests}
use Rattle.ssa_form.specs.SetFacts.{dst_vars, all_among, unsets_registers, is_peek, breaks_cycle}
use Rattle.ssa_form.specs.Flow.{Point, point, set_at, last_at, phis_at, phi_vars, Effect, Step, passes, leads, succeeds, fails, raises, Way, begins, goes, Reached, Leads, Passing, one, more}
use Rattle.ssa_form.specs.Liveness.{used_at, LiveFrom, used, by_phi, later, LiveAfter, read, live, Across, over, lands}
use Rattle.ssa_form.specs.ReceiveWindow as Window
use Rattle.ssa_form.specs.ReceiveWindow.{ends_at, Look, InWindow, found, on, IsInside, SetIn, message, by_set, KeepsWindow}
use Rattle.ssa_form.specs.WellFormed.{block_has, any_has, KeepsCycle, tests_nothing, closes_first, SetsOnce, WellFormed}
use Rattle.ssa_form.proofs.VarLists.{or_true, left_true, and_both, among_append, among_left, among_right}
use Rattle.ssa_check.specs.Certificate.{Notes, FitsSet, Comes, by_look, goes_on, FitsStep, FitsEdge, FitsPoint, Certificate, CertifiedBodiesAreWellFormed}

-- Lists of variables.

clashes : (x : Bool) → IsTrue x → IsFalse x → ⊥
clashes true e f = cc
clashes false e f = cc

among_all : (v : ℕ) (us ws : List ℕ) → IsTrue (among v us) → IsTrue (all_among us ws) → IsTrue (among v ws)
among_all v [] ws e a = absurd cc
among_all v (u ∷ us) ws e a = ⊎_elim
    (λ s. subst (λ z. IsTrue (among z ws)) (sym (eqb-true v u s)) (and_both _ _ a).0)
    (λ s. among_all v us ws s (and_both _ _ a).1) (or_true _ _ e)

all_of : (us ws : List ℕ) → ((v : ℕ) → IsTrue (among v us) → IsTrue (among v ws)) → IsTrue (all_among us ws)
all_of [] ws h = refl
all_of (u ∷ us) ws h = simp (h u (first u us), all_of us ws (λ v i. h v (among_right v (u ∷ []) us i))) refl
  where
    first : (u : ℕ) (us : List ℕ) → IsTrue (among u (u ∷ us))
    first u us = left_true (eqb u u) (among u us) (eq-eqb u u refl)

behind : (v : ℕ) (us ws : List ℕ) → IsTrue (among v (us ++ ws)) → IsFalse (among v us) → IsTrue (among v ws)
behind v us ws e f = ⊎_elim (λ i. absurd (clashes _ i f)) (λ i. i) (among_append v us ws e)

listed : (v : ℕ) (ws : List ℕ) → IsTrue (among v ws) → Contains ws v
listed v [] e = absurd cc
listed v (w ∷ ws) e = ⊎_elim
    (λ s. (0, omega arith, sym (eqb-true v w s)))
    (λ s. let c : Contains ws v = listed v ws s in (suc c.0, omega (arith, c.1), c.2)) (or_true _ _ e)

no_or : (x y : Bool) → IsFalse (x || y) → IsFalse x × IsFalse y
no_or true y e = absurd cc
no_or false y e = (refl, e)

none_some : {A : Type 0} (o : Option A) (x : A) → o ≡ None → o ≡ Some x → ⊥
none_some o x e f = let g : None ≡ Some x = sym e ∙ f in cc

module _ (b : Body) (c : Certificate b) where
  abbrev a : Notes
  a = c.notes

  abbrev at : (p : Point) → FitsPoint b a p
  at p = (c.local p.block).at p.done

  -- Ways agree with the notes.

  record Noted (p : Point) (vs : List ℕ) (hs : List Handler) : Type 0 where
    pub handlers : hs ≡ a.handlers p
    pub have : IsTrue (all_among (a.available p) vs)

  step_fits : (p q : Point) (hs is' : List Handler) (e : Effect) → hs ≡ a.handlers p → Step b p hs q is' e
      → FitsStep b a p q is' e
  step_fits p q hs is' e h s = (at p).steps q is' e (subst (λ ks. Step b p ks q is' e) h s)

  edge_fits : (p : Point) (m : ℕ) (hs is' : List Handler) (e : Effect) → hs ≡ a.handlers p
      → Step b p hs (point m 0) is' e → FitsEdge b a p m is'
  edge_fits p m hs is' e h s = (at p).edges m is' e (subst (λ ks. Step b p ks (point m 0) is' e) h s)

  wider : (us xs ws vs : List ℕ) → IsTrue (all_among us (xs ++ ws)) → IsTrue (all_among ws vs)
      → IsTrue (all_among us (xs ++ vs))
  wider us xs ws vs e f = all_of us (xs ++ vs) (λ v i. ⊎_elim
      (λ j. among_left v xs vs j) (λ j. among_right v xs vs (among_all v ws vs j f))
      (among_append v xs ws (among_all v us (xs ++ ws) i e)))

  noted : (p : Point) (vs : List ℕ) (hs : List Handler) → Way b p vs hs → Noted p vs hs
  noted _ _ _ begins = record { handlers = sym c.none_open; have = c.params }
  noted _ _ _ (goes p q vs hs is' e w s) =
      let n : Noted p vs hs = noted p vs hs w in
      let f : FitsStep b a p q is' e = step_fits p q hs is' e n.handlers s in
      record { handlers = f.handlers; have = wider (a.available q) (e.phis ++ e.sets) (a.available p) vs f.kept n.have }

  open_at : (p : Point) (hs : List Handler) → Reached b p hs → hs ≡ a.handlers p
  open_at p hs r = (noted p r.0 hs r.1).handlers

  tested_at : (p : Point) (vs : List ℕ) (hs : List Handler) → Way b p vs hs → IsTrue (tests_nothing (last_at b p))
  tested_at _ _ _ begins = c.tested
  tested_at _ _ _ (goes p q vs hs is' e w s) = (step_fits p q hs is' e (noted p vs hs w).handlers s).tested

  -- Cycles.

  lead_fits : (n m : ℕ) (l : Leads b n m) → FitsEdge b a (point n l.0) m l.2
  lead_fits n m (k, hs, is', e, r, s) = edge_fits (point n k) m hs is' e (open_at (point n k) hs r) s

  nears : (n m : ℕ) (ns : List ℕ) → Passing b n m ns → IsFalse (any_has is_peek b ns) → a.rank m < a.rank n
  nears _ _ _ (one n m l) h = (lead_fits n m l).nears (no_or _ _ h).0
  nears _ _ _ (more n m k ns l p) h =
      let i : a.rank m < a.rank n = (lead_fits n m l).nears (no_or _ _ h).0 in
      let j : a.rank k < a.rank m = nears m k ns p (no_or (block_has is_peek (block_at b n)) _ h).1 in
      omega (arith, i, j)

  sinks : (n m : ℕ) (ns : List ℕ) → Passing b n m ns → a.level m ≤ a.level n
  sinks _ _ _ (one n m l) = (lead_fits n m l).sinks
  sinks _ _ _ (more n m k ns l p) =
      let i : a.level m ≤ a.level n = (lead_fits n m l).sinks in
      let j : a.level k ≤ a.level m = sinks m k ns p in omega (arith, i, j)

  breaks : (n m : ℕ) (ns : List ℕ) → Passing b n m ns → IsTrue (any_has breaks_cycle b ns) → a.level m < a.level n
  breaks _ _ _ (one n m l) h =
      (lead_fits n m l).breaks (⊎_elim (λ i. i) (λ i. absurd (clashes _ i refl)) (or_true _ _ h))
  breaks _ _ _ (more n m k ns l p) h = ⊎_elim
      (λ t. let i : a.level m < a.level n = (lead_fits n m l).breaks t in
      let j : a.level k ≤ a.level m = sinks m k ns p in omega (arith, i, j))
      (λ t. let i : a.level m ≤ a.level n = (lead_fits n m l).sinks in
      let j : a.level k < a.level m = breaks m k ns p t in omega (arith, i, j)) (or_true _ _ h)

  cycle : (n : ℕ) (ns : List ℕ) → Passing b n n ns → KeepsCycle b ns
  cycle n ns p = record {
    looks = look (any_has is_peek b ns) refl;
    goes_on = broken (any_has breaks_cycle b ns) refl;
  }
    where
      look : (t : Bool) → any_has is_peek b ns ≡ t → IsTrue (any_has is_peek b ns)
      look true e = e
      look false e = let i : a.rank n < a.rank n = nears n n ns p e in absurd (omega (arith, i))

      broken : (t : Bool) → any_has breaks_cycle b ns ≡ t → IsFalse (any_has breaks_cycle b ns)
      broken true e = let i : a.level n < a.level n = breaks n n ns p e in absurd (omega (arith, i))
      broken false e = e

  -- Windows.

  record Inside (w : ℕ) (p : Point) (hs : List Handler) : Type 0 where
    pub handlers : hs ≡ a.handlers p
    pub here : a.inside p ≡ Some w
    pub start : a.inside (point p.block 0) ≡ Some w

  start_of : (p q : Point) (hs is' : List Handler) (e : Effect) (w : ℕ) → Step b p hs q is' e
      → a.inside (point p.block 0) ≡ Some w → a.inside q ≡ Some w → a.inside (point q.block 0) ≡ Some w
  start_of _ _ _ _ _ w (passes p hs x m f t) i j = i
  start_of _ _ _ _ _ w (leads p hs l n f t) i j = j
  start_of _ _ _ _ _ w (succeeds p hs x v t e f g) i j = j
  start_of _ _ _ _ _ w (fails p hs x e f g) i j = j
  start_of _ _ _ _ _ w (raises p h hs x m f g) i j = j

  in_window : (w : ℕ) (p : Point) (hs : List Handler) → InWindow b w p hs → Inside w p hs
  in_window w _ _ (found l hs r) = record {
    handlers = open_at (point w l.at) hs r ∙ sym (c.looks w l).1;
    here = (c.looks w l).0;
    start = (c.looks w l).0;
  }
  in_window w _ _ (on p q hs is' e i f s) =
      let g : Inside w p hs = in_window w p hs i in
      let t : FitsStep b a p q is' e = step_fits p q hs is' e g.handlers s in
      let h : a.inside q ≡ Some w = t.stays w g.here f in
      record { handlers = t.handlers; here = h; start = start_of p q hs is' e w s g.start h }

  by_its_look : (w : ℕ) (l : Look b w) (p q : Point) (vs : List ℕ) (hs is' : List Handler) → Way b p vs hs
      → is' ≡ a.handlers q → p ≡ point w l.at → q ≡ point l.found 0 → InWindow b w q is'
  by_its_look w l p q vs hs is' y o e f =
      let r : Reached b (point w l.at) hs = (vs, subst (λ z. Way b z vs hs) e y) in
      let g : hs ≡ is' = open_at (point w l.at) hs r ∙ sym (c.looks w l).1 ∙ sym (ap a.handlers f) ∙ sym o in
      subst (λ ks. InWindow b w q ks) g (subst (λ z. InWindow b w z hs) (sym f) (found l hs r))

  window_of : (w : ℕ) (p : Point) (vs : List ℕ) (hs : List Handler) → Way b p vs hs → a.inside p ≡ Some w
      → InWindow b w p hs
  window_of w _ _ _ begins i = absurd (none_some (a.inside (point 0 0)) w c.outside i)
  window_of w _ _ _ (goes p q vs hs is' e y s) i =
      came (step_fits p q hs is' e (noted p vs hs y).handlers s) (window_of w p vs hs y)
    where
      came : FitsStep b a p q is' e → (a.inside p ≡ Some w → InWindow b w p hs) → InWindow b w q is'
      came t ih = by (t.comes w i)
        where
          by : Comes b a w p q → InWindow b w q is'
          by (by_look l f g) = by_its_look w l p q vs hs is' y t.handlers f g
          by (goes_on j f) = on p q hs is' e (ih j) f s

  set_fits : (p : Point) (x : Set) (m : Mode) → set_at b p ≡ Some (x, m) → FitsSet b a p x m
  set_fits p x m e = (at p).set x m e

  set_among : (d : Option ℕ) (v : ℕ) (ws : List ℕ) → d ≡ Some v → IsTrue (all_among (dst_vars d) ws)
      → IsTrue (among v ws)
  set_among d v ws e h = (and_both (among v ws) true (subst (λ o. IsTrue (all_among (dst_vars o) ws)) e h)).0

  counted : (w v : ℕ) → SetIn b w v → IsTrue (among v (a.set_inside w))
  counted w v (message l e) =
      set_among l.set.dst v (a.set_inside w) e
      ((set_fits (point w l.at) l.set (tests l.none) l.is_there).message l.looks)
  counted w v (Window.by_phi n hs i e) = among_all v (phi_vars (phis_at b n)) (a.set_inside w) e
      ((c.local n).counted w (in_window w (point n 0) hs i).here)
  counted w v (by_set p hs x m i e f d) =
      set_among x.dst v (a.set_inside w) d ((set_fits p x m e).counted w (in_window w p hs i).here f)

  -- What is live is available.

  live_available : (v : ℕ) (p : Point) (hs : List Handler) → hs ≡ a.handlers p → LiveFrom b v p hs
      → IsTrue (among v (a.available p))
  live_available v _ _ h (used p hs u) = among_all v (used_at b p) (a.available p) u (at p).used
  live_available v _ _ h (by_phi p q hs is' e s f r) =
      behind v e.sets (a.available p) (among_all v e.reads _ r (step_fits p q hs is' e h s).reads) f
  live_available v _ _ h (later p q hs is' e s f g l) =
      let t : FitsStep b a p q is' e = step_fits p q hs is' e h s in
      behind v (e.phis ++ e.sets) (a.available p)
      (among_all v (a.available q) ((e.phis ++ e.sets) ++ a.available p) (live_available v q is' t.handlers l) t.kept)
      (in_neither (among v (e.phis ++ e.sets)) refl)
    where
      in_neither : (t : Bool) → among v (e.phis ++ e.sets) ≡ t → IsFalse (among v (e.phis ++ e.sets))
      in_neither true i = absurd (⊎_elim (λ j. clashes _ j g) (λ j. clashes _ j f) (among_append v e.phis e.sets i))
      in_neither false i = i

  gone : (w v : ℕ) (p : Point) (x : Set) (m : Mode) → IsTrue (among v (a.set_inside w)) → set_at b p ≡ Some (x, m)
      → IsTrue (unsets_registers x.op) → LiveAfter b v p → ⊥
  gone w v p x m i e u (read _ q hs is' f r s g h) =
      clashes _ h ((step_fits p q hs is' f (open_at p hs r) s).short x m w v e u i g).0
  gone w v p x m i e u (live _ q hs is' f r s g h l) =
      let t : FitsStep b a p q is' f = step_fits p q hs is' f (open_at p hs r) s in
      clashes _ (live_available v q is' t.handlers l) ((t.short x m w v e u i g).1 h)

  not_across : (w v : ℕ) → IsTrue (among v (a.set_inside w)) → Across b v → ⊥
  not_across w v i (over p x m e u l) = gone w v p x m i e u l
  not_across w v i (lands n e (hs, r, l)) =
      clashes _ (live_available v (point n 0) hs (open_at (point n 0) hs r) l) ((c.local n).short e w v i)

  closed : (w n m : ℕ) → Leads b n m → IsInside b w m → (IsInside b w n → ⊥) → n ≡ w
  closed w n m (k, hs, is', e, r, s) (i, js, y) out =
      by ((step_fits (point n k) (point m 0) hs is' e (open_at (point n k) hs r) s).comes w
      (in_window w (point m i) js y).start)
    where
      by : Comes b a w (point n k) (point m 0) → n ≡ w
      by (by_look l f g) = ap (λ z. z.block) f
      by (goes_on j f) = absurd (out (k, hs, window_of w (point n k) r.0 hs r.1 j))

  window : (w : ℕ) → Look b w → KeepsWindow b w
  window w l = record {
    few = (a.set_inside w, c.few w, λ v s. listed v (a.set_inside w) (counted w v s));
    registers = λ v s x. not_across w v (counted w v s) x;
    closed = closed w;
    quiet = λ p hs x m i e f. (set_fits p x m e).quiet w (in_window w p hs i).here f;
  }

  fitting : SetsOnce b → WellFormed b
  fitting once = record {
    sets_once = once;
    in_form = λ p hs x m r e. (set_fits p x m e).in_form;
    available = λ p vs hs w. all_of (used_at b p) vs (λ v i. among_all v (a.available p) vs
        (among_all v (used_at b p) (a.available p) i (at p).used) (noted p vs hs w).have);
    edges = λ p q vs hs is' e w s. wider e.reads e.sets (a.available p) vs
        (step_fits p q hs is' e (noted p vs hs w).handlers s).reads (noted p vs hs w).have;
    values = λ p hs r. (at p).values;
    edge_values = λ p q hs is' e r s. (step_fits p q hs is' e (open_at p hs r) s).values;
    phis = λ n m l. (lead_fits n m l).phis;
    starts = c.starts;
    no_phis = c.no_phis;
    leads_on = λ n m l. (lead_fits n m l).there;
    tested = λ p hs r. tested_at p r.0 hs r.1;
    closes = λ p hs x m r e. subst (λ ks. IsTrue (closes_first x.op x.args ks))
        (sym (open_at p hs r)) (set_fits p x m e).closes;
    ends = λ p hs l r e t. open_at p hs r ∙ (at p).ends l e t;
    lands = λ p h hs x m r e t. (set_fits p x m e).lands h hs (sym (open_at p (h ∷ hs) r)) t;
    enters = λ n ks q t p hs is' e r s.
        let y : (h : Handler) × (a.handlers p ≡ h ∷ is') × (h.landing ≡ n) =
        (edge_fits p n hs is' e (open_at p hs r) s).lands t in
        (y.0, open_at p hs r ∙ y.1, y.2);
    bare = λ n e. (c.local n).bare e;
    early = λ p hs x m r e. (set_fits p x m e).early;
    cycles = cycle;
    windows = window;
  }

pub well_formed : CertifiedBodiesAreWellFormed
well_formed b once c = fitting b c once
