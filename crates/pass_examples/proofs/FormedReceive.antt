-- The body of a receive whose guard updates a map is well formed: places that ways reach are listed, and judged one by
-- one.
use Rattle.std.proofs.Common.{◌≡◌, ◌≢◌, ◌<◌, ◌⊎◌, inl, inr, ⊎_elim, ℕ, zero, suc, List, [], ◌∷◌, ◌++◌, Bool, true, false, not, ◌&&◌, ◌||◌, eqb, ltb, Option, Some, None, Contains, refl, sym, ap, ◌∙◌, subst, arith}
use Rattle.std.proofs.lemmas.Bool.{eqb-true, ltb-true}
use Rattle.erl_base.specs.Lists.{among}
use Rattle.ssa_form.specs.Ssa as S
use Rattle.ssa_form.specs.Ssa.{Op, Set, Last, succeeded, Body, block_at}
use Rattle.ssa_form.specs.Storage.{Handler, Mode, tests}
use Rattle.ssa_form.specs.SetFacts.{is_tests, given_vars, all_among, none_among, in_form, may_raise, may_ask, is_peek, is_try_start, breaks_cycle, ends_window, unsets_registers}
use Rattle.ssa_form.specs.Flow.{Point, point, next, set_at, last_at, last_of, targets, phis_at, phi_vars, phi_reads, Effect, along_edge, after_op, opened, Step, passes, leads, succeeds, fails, raises, Way, begins, goes, Reached, Leads, Passing, one, more}
use Rattle.ssa_form.specs.Liveness.{used_at, values_at, lands_first, LiveFrom, used, by_phi, later, LiveAfter, read, live, Across, over, lands}
use Rattle.ssa_form.specs.ReceiveWindow as Window
use Rattle.ssa_form.specs.ReceiveWindow.{ends_at, Look, InWindow, found, on, IsInside, SetIn, message, by_set, KeepsWindow}
use Rattle.ssa_form.specs.WellFormed.{block_has, any_has, KeepsCycle, tests_nothing, tags_in, closes_first, have_edges, lands_early, WellFormed}
use Rattle.pass_examples.proofs.Listed.{both, one_of, other, implied, is_false, contradicts, holds_all, at_each, same_point, is_place, point_is, at_place, or_right, or_left, all_through}
use Rattle.pass_examples.specs.UpdatingGuard.{body_receives}

-- The places that ways reach; what is set there besides the message; how far the next look is; the places from the look
-- on, up to the end of its window; and those at which the message is not needed.

abbrev places : List Point
places = point 0 0 ∷ point 1 0 ∷ point 2 0 ∷ point 3 0 ∷ point 3 1 ∷ point 4 0 ∷ point 5 0 ∷ point 5 1 ∷ point 6 0
    ∷ point 6 1 ∷ []

abbrev needed : ℕ → List ℕ
needed (suc (suc zero)) = 0 ∷ 1 ∷ []
needed (suc (suc (suc zero))) = 0 ∷ 1 ∷ []
needed (suc (suc (suc (suc (suc zero))))) = 0 ∷ 1 ∷ []
needed _ = 0 ∷ []

abbrev distance : ℕ → ℕ
distance zero = 5
distance (suc zero) = 1
distance (suc (suc zero)) = 3
distance (suc (suc (suc (suc zero)))) = 2
distance (suc (suc (suc (suc (suc zero))))) = 2
distance _ = 0

abbrev inside : List Point
inside = point 2 0 ∷ point 3 0 ∷ point 5 0 ∷ []

abbrev without_message : List Point
without_message = point 0 0 ∷ point 1 0 ∷ point 4 0 ∷ point 5 0 ∷ point 5 1 ∷ point 6 0 ∷ point 6 1 ∷ []

module _ (site : ℕ) where
  abbrev b : Body
  b = body_receives site

  -- Steps, tested.

  -- a step from p to q stays in the window up to its end, and where the message is not needed unless that is set
  abbrev stays_in : Point → Point → Bool
  stays_in p q = not (is_place p inside) || (ends_at (set_at b p) || is_place q inside)

  abbrev stays_without : Point → Point → List ℕ → Bool
  stays_without p q sets = not (is_place p without_message) || (among 1 sets || is_place q without_message)

  abbrev sets_needed : Point → Point → List ℕ → Bool
  sets_needed p q sets = all_among (needed q.block) (sets ++ needed p.block)

  -- a step from p to q that sets these
  abbrev fits : Point → Point → List ℕ → Bool
  fits p q sets = is_place q places && (sets_needed p q sets && (stays_in p q && stays_without p q sets))

  -- an edge from p into a block looks, or comes nearer to the next look
  abbrev nears : Point → ℕ → Bool
  nears p n = block_has is_peek (block_at b p.block) || ltb (distance n) (distance p.block)

  abbrev unbroken : Point → Bool
  unbroken p = not (block_has breaks_cycle (block_at b p.block))

  -- into the window it comes from its look, or from where the window begins
  abbrev enters_well : Point → ℕ → Bool
  enters_well p n = not (is_place (point n 0) inside) || (same_point p (point 2 0) || eqb p.block 1)

  abbrev leads_well : Point → List ℕ → ℕ → Bool
  leads_well p sets n = fits p (point n 0) sets && (nears p n && (unbroken p && enters_well p n))

  abbrev passes_well : Point → Option (Set × Mode) → Bool
  passes_well p None = true
  passes_well p (Some x) = is_tests x.1 || fits p (next p) (given_vars x.0)

  abbrev ends_well : Point → Option Last → Bool
  ends_well p None = true
  ends_well p (Some l) = holds_all (leads_well p []) (targets l)

  abbrev succeeds_well : Point → Option (Set × Mode) → Option Last → Bool
  succeeds_well p None l = true
  succeeds_well p (Some x) (Some (succeeded v t e)) =
      not (is_try_start x.0.op) && leads_well p (given_vars x.0) t
  succeeds_well p (Some x) l = true

  abbrev mode_fails : Point → Mode → Bool
  mode_fails p (tests e) = leads_well p [] e
  mode_fails p m = true

  abbrev fails_well : Point → Option (Set × Mode) → Bool
  fails_well p None = true
  fails_well p (Some x) = mode_fails p x.1

  no_phis : (n : ℕ) → phis_at b n ≡ []
  no_phis zero = refl
  no_phis (suc zero) = refl
  no_phis (suc (suc zero)) = refl
  no_phis (suc (suc (suc zero))) = refl
  no_phis (suc (suc (suc (suc zero)))) = refl
  no_phis (suc (suc (suc (suc (suc zero))))) = refl
  no_phis (suc (suc (suc (suc (suc (suc zero)))))) = refl
  no_phis (suc (suc (suc (suc (suc (suc (suc n))))))) = refl

  closes_none : (o : Op) → after_op o [] ≡ []
  closes_none S.try_end = refl
  closes_none o = refl

  opens_none : (o : Op) (d : Option ℕ) (e : ℕ) → is_try_start o ≡ false → opened o d e [] ≡ []
  opens_none S.try_start d e h = absurd cc
  opens_none o d e h = refl

  pub record Fits (p q : Point) (sets : List ℕ) : Type 0 where
    pub place : is_place q places ≡ true
    pub needed : sets_needed p q sets ≡ true
    pub stays_in : stays_in p q ≡ true
    pub stays_without : stays_without p q sets ≡ true

  fits_so : (p q : Point) (sets : List ℕ) → fits p q sets ≡ true → Fits p q sets
  fits_so p q sets e =
      let x : (is_place q places ≡ true) × ((sets_needed p q sets && (stays_in p q && stays_without p q sets)) ≡ true) =
      both (is_place q places) (sets_needed p q sets && (stays_in p q && stays_without p q sets)) e in
      let y : (sets_needed p q sets ≡ true) × ((stays_in p q && stays_without p q sets) ≡ true) =
      both (sets_needed p q sets) (stays_in p q && stays_without p q sets) x.1 in
      let z : (stays_in p q ≡ true) × (stays_without p q sets ≡ true) =
      both (stays_in p q) (stays_without p q sets) y.1 in
      record { place = x.0; needed = y.0; stays_in = z.0; stays_without = z.1 }

  pub record LeadsWell (p : Point) (n : ℕ) : Type 0 where
    pub nears : nears p n ≡ true
    pub unbroken : unbroken p ≡ true
    pub enters : enters_well p n ≡ true

  leads_so : (p : Point) (sets : List ℕ) (n : ℕ) → leads_well p sets n ≡ true → LeadsWell p n
  leads_so p sets n e =
      let x : (fits p (point n 0) sets ≡ true) × ((nears p n && (unbroken p && enters_well p n)) ≡ true) =
      both (fits p (point n 0) sets) (nears p n && (unbroken p && enters_well p n)) e in
      let y : (nears p n ≡ true) × ((unbroken p && enters_well p n) ≡ true) =
      both (nears p n) (unbroken p && enters_well p n) x.1 in
      let z : (unbroken p ≡ true) × (enters_well p n ≡ true) = both (unbroken p) (enters_well p n) y.1 in
      record { nears = y.0; unbroken = z.0; enters = z.1 }

  -- what is known of a step
  pub record Well (p q : Point) (is' : List Handler) (e : Effect) : Type 0 where
    pub none : is' ≡ []
    pub phis : e.phis ≡ []
    pub reads : e.reads ≡ []
    pub fit : Fits p q e.sets
    pub edge : q.done ≡ 0 → LeadsWell p q.block

  no_reads : (n m : ℕ) → phi_reads (phis_at b m) n ≡ []
  no_reads n m = ap (λ ps. phi_reads ps n) (no_phis m)

  no_phi_vars : (m : ℕ) → phi_vars (phis_at b m) ≡ []
  no_phi_vars m = ap phi_vars (no_phis m)

  along : (p : Point) (m : ℕ) (sets : List ℕ) (is' : List Handler) → is' ≡ [] → leads_well p sets m ≡ true
      → Well p (point m 0) is' (along_edge b p.block m sets)
  along p m sets is' h e = record {
    none = h;
    phis = no_phi_vars m;
    reads = no_reads p.block m;
    fit = fits_so p (point m 0) sets
        (both (fits p (point m 0) sets) (nears p m && (unbroken p && enters_well p m)) e).0;
    edge = λ z. leads_so p sets m e;
  }

  step_well : (p q : Point) (hs is' : List Handler) (e : Effect) → is_place p places ≡ true → hs ≡ []
      → Step b p hs q is' e → Well p q is' e
  step_well _ _ _ _ _ w h (passes p hs x m f t) = record {
    none = subst (λ z. after_op x.op z ≡ []) (sym h) (closes_none x.op);
    phis = refl;
    reads = refl;
    fit = fits_so p (next p) (given_vars x) (other (is_tests m) (fits p (next p) (given_vars x))
        (subst (λ o. passes_well p o ≡ true) f (at_place (λ z. passes_well z (set_at b z)) places p refl w)) t);
    edge = λ z. absurd (omega (arith, z));
  }
  step_well _ _ _ _ _ w h (leads p hs l n f c) = along p n [] hs h
      (at_each (leads_well p []) (targets l) n (subst (λ o. ends_well p o ≡ true) f
      (at_place (λ z. ends_well z (last_at b z)) places p refl w)) c)
  step_well _ _ _ _ _ w h (succeeds p hs x v t e f g) =
      let k : (not (is_try_start x.op) && leads_well p (given_vars x) t) ≡ true =
      subst (λ o. succeeds_well p (Some (x, tests e)) o ≡ true) g
      (subst (λ o. succeeds_well p o (last_of (block_at b p.block)) ≡ true) f
      (at_place (λ z. succeeds_well z (set_at b z) (last_of (block_at b z.block))) places p refl w)) in
      along p t (given_vars x) _
      (subst (λ z. opened x.op x.dst e z ≡ []) (sym h) (opens_none x.op x.dst e (is_false _ (both _ _ k).0)))
      (both _ _ k).1
  step_well _ _ _ _ _ w h (fails p hs x e f g) = along p e [] hs h
      (subst (λ o. fails_well p o ≡ true) f (at_place (λ z. fails_well z (set_at b z)) places p refl w))
  step_well _ _ _ _ _ w h (raises p i hs x m f g) = let z : i ∷ hs ≡ [] = h in absurd cc

  -- Ways.

  pub record Stands (p : Point) (vs : List ℕ) (hs : List Handler) : Type 0 where
    pub place : is_place p places ≡ true
    pub none : hs ≡ []
    pub vars : all_among (needed p.block) vs ≡ true

  stands : (p : Point) (vs : List ℕ) (hs : List Handler) → Way b p vs hs → Stands p vs hs
  stands _ _ _ begins = record { place = refl; none = refl; vars = refl }
  stands _ _ _ (goes p q vs hs is' e w s) =
      let a : Stands p vs hs = stands p vs hs w in
      let z : Well p q is' e = step_well p q hs is' e a.place a.none s in
      record {
        place = z.fit.place;
        none = z.none;
        vars = subst (λ us. all_among (needed q.block) (us ++ e.sets ++ vs) ≡ true) (sym z.phis)
            (all_through (needed q.block) e.sets (needed p.block) vs z.fit.needed a.vars);
      }

  there : (p : Point) (hs : List Handler) → Reached b p hs → is_place p places ≡ true
  there p hs r = (stands p r.0 hs r.1).place

  unhandled : (p : Point) (hs : List Handler) → Reached b p hs → hs ≡ []
  unhandled p hs r = (stands p r.0 hs r.1).none

  -- a step from where a way leads
  reached_well : (p q : Point) (hs is' : List Handler) (e : Effect) → Reached b p hs → Step b p hs q is' e
      → Well p q is' e
  reached_well p q hs is' e r s = step_well p q hs is' e (there p hs r) (unhandled p hs r) s

  -- what is tested of the set at a place holds of it
  abbrev of_set : (Set → Mode → Bool) → Option (Set × Mode) → Bool
  of_set f None = true
  of_set f (Some x) = f x.0 x.1

  at_set : (f : Point → Set → Mode → Bool) (ps : List Point) (p : Point) (x : Set) (m : Mode)
      → holds_all (λ q. of_set (f q) (set_at b q)) ps ≡ true → is_place p ps ≡ true → set_at b p ≡ Some (x, m)
      → f p x m ≡ true
  at_set f ps p x m h w e = subst (λ o. of_set (f p) o ≡ true) e (at_place (λ q. of_set (f q) (set_at b q)) ps p h w)

  lands_nowhere : (n : ℕ) → lands_first (set_at b (point n 0)) ≡ false
  lands_nowhere zero = refl
  lands_nowhere (suc zero) = refl
  lands_nowhere (suc (suc zero)) = refl
  lands_nowhere (suc (suc (suc zero))) = refl
  lands_nowhere (suc (suc (suc (suc zero)))) = refl
  lands_nowhere (suc (suc (suc (suc (suc zero))))) = refl
  lands_nowhere (suc (suc (suc (suc (suc (suc zero)))))) = refl
  lands_nowhere (suc (suc (suc (suc (suc (suc (suc n))))))) = refl

  -- Cycles: each edge looks or comes nearer to the next look, and breaks nothing.

  led_well : (n m : ℕ) (l : Leads b n m) → LeadsWell (point n l.0) m
  led_well n m (k, hs, is', e, r, s) = (reached_well (point n k) (point m 0) hs is' e r s).edge refl

  abbrev looks_in : ℕ → Bool
  looks_in n = block_has is_peek (block_at b n)

  nearer : (n m : ℕ) → Leads b n m → (looks_in n ≡ true) ⊎ (distance m < distance n)
  nearer n m l = ⊎_elim inl (λ e. inr (ltb-true (distance m) (distance n) e))
      (one_of (looks_in n) (ltb (distance m) (distance n)) (led_well n m l).nears)

  breaks_none : (n m : ℕ) → Leads b n m → block_has breaks_cycle (block_at b n) ≡ false
  breaks_none n m l = is_false (block_has breaks_cycle (block_at b n)) (led_well n m l).unbroken

  passing_looks : (n m : ℕ) (ns : List ℕ) → Passing b n m ns
      → (any_has is_peek b ns ≡ true) ⊎ (distance m < distance n)
  passing_looks _ _ _ (one n m l) = ⊎_elim (λ e. inl (or_left (looks_in n) false e)) inr (nearer n m l)
  passing_looks _ _ _ (more n m k ns l p) = ⊎_elim
      (λ e. inl (or_left (looks_in n) (any_has is_peek b ns) e))
      (λ e. ⊎_elim (λ f. inl (or_right (looks_in n) (any_has is_peek b ns) f)) (λ f. inr (omega (arith, e, f)))
      (passing_looks m k ns p)) (nearer n m l)

  neither : (x y : Bool) → x ≡ false → y ≡ false → (x || y) ≡ false
  neither true y e f = absurd cc
  neither false y e f = f

  passing_breaks_none : (n m : ℕ) (ns : List ℕ) → Passing b n m ns → any_has breaks_cycle b ns ≡ false
  passing_breaks_none _ _ _ (one n m l) =
      neither (block_has breaks_cycle (block_at b n)) false (breaks_none n m l) refl
  passing_breaks_none _ _ _ (more n m k ns l p) =
      neither (block_has breaks_cycle (block_at b n)) (any_has breaks_cycle b ns) (breaks_none n m l)
      (passing_breaks_none m k ns p)

  cycle : (n : ℕ) (ns : List ℕ) → Passing b n n ns → KeepsCycle b ns
  cycle n ns p = record {
    looks = ⊎_elim (λ e. e) (λ e. absurd (omega (arith, e))) (passing_looks n n ns p);
    goes_on = passing_breaks_none n n ns p;
  }

  -- The window of the one look.

  abbrev peeks : Option (Set × Mode) → Bool
  peeks None = false
  peeks (Some x) = is_peek x.0.op

  look_at : (w k : ℕ) → peeks (set_at b (point w k)) ≡ true → (w ≡ 1) × (k ≡ 0)
  look_at zero k e = absurd cc
  look_at (suc zero) zero e = (refl, refl)
  look_at (suc zero) (suc k) e = absurd cc
  look_at (suc (suc zero)) zero e = absurd cc
  look_at (suc (suc zero)) (suc k) e = absurd cc
  look_at (suc (suc (suc zero))) zero e = absurd cc
  look_at (suc (suc (suc zero))) (suc k) e = absurd cc
  look_at (suc (suc (suc (suc zero)))) zero e = absurd cc
  look_at (suc (suc (suc (suc zero)))) (suc k) e = absurd cc
  look_at (suc (suc (suc (suc (suc zero))))) zero e = absurd cc
  look_at (suc (suc (suc (suc (suc zero))))) (suc k) e = absurd cc
  look_at (suc (suc (suc (suc (suc (suc zero)))))) zero e = absurd cc
  look_at (suc (suc (suc (suc (suc (suc zero)))))) (suc k) e = absurd cc
  look_at (suc (suc (suc (suc (suc (suc (suc w))))))) k e = absurd cc

  looks_there : (w : ℕ) (l : Look b w) → (w ≡ 1) × (l.at ≡ 0)
  looks_there w l = look_at w l.at (subst (λ o. peeks o ≡ true) (sym l.is_there) l.looks)

  look_finds : (l : Look b 1) → 2 ≡ l.found
  look_finds l = let e : Some (succeeded 1 2 4) ≡ Some (succeeded l.var l.found l.none) = l.leads in cc

  abbrev dst_at : Option (Set × Mode) → Option ℕ
  dst_at None = None
  dst_at (Some x) = x.0.dst

  look_sets : (l : Look b 1) → l.set.dst ≡ Some 1
  look_sets l = sym (ap dst_at l.is_there) ∙ ap (λ k. dst_at (set_at b (point 1 k))) (looks_there 1 l).1

  pub record Within (p : Point) (hs : List Handler) : Type 0 where
    pub place : is_place p inside ≡ true
    pub none : hs ≡ []

  also_place : (p : Point) → is_place p inside ≡ true → is_place p places ≡ true
  also_place p e = at_place (λ q. is_place q places) inside p refl e

  in_window : (p : Point) (hs : List Handler) → InWindow b 1 p hs → Within p hs
  in_window _ _ (found l hs r) = record {
    place = subst (λ z. is_place (point z 0) inside ≡ true) (look_finds l) refl;
    none = unhandled (point 1 l.at) hs r;
  }
  in_window _ _ (on p q hs is' e i ne s) =
      let a : Within p hs = in_window p hs i in
      let z : Well p q is' e = step_well p q hs is' e (also_place p a.place) a.none s in
      record {
        place = other (ends_at (set_at b p)) (is_place q inside)
            (implied (is_place p inside) (ends_at (set_at b p) || is_place q inside) z.fit.stays_in a.place) ne;
        none = z.none;
      }

  -- The message is not needed at the other places, and the map that the update makes nowhere.

  without_is_place : (p : Point) → is_place p without_message ≡ true → is_place p places ≡ true
  without_is_place p e = at_place (λ q. is_place q places) without_message p refl e

  goes_without : (p q : Point) (is' : List Handler) (e : Effect) → Well p q is' e → is_place p without_message ≡ true
      → among 1 e.sets ≡ false → is_place q without_message ≡ true
  goes_without p q is' e z w ns = other (among 1 e.sets) (is_place q without_message)
      (implied (is_place p without_message) (among 1 e.sets || is_place q without_message) z.fit.stays_without w) ns

  not_live_1 : (p : Point) (hs : List Handler) → is_place p without_message ≡ true → hs ≡ [] → LiveFrom b 1 p hs → ⊥
  not_live_1 _ _ w h (used p hs u) =
      contradicts (among 1 (used_at b p)) u
      (is_false _ (at_place (λ q. not (among 1 (used_at b q))) without_message p refl w))
  not_live_1 _ _ w h (by_phi p q hs is' e s ns r) =
      contradicts (among 1 e.reads) r (ap (among 1) (step_well p q hs is' e (without_is_place p w) h s).reads)
  not_live_1 _ _ w h (later p q hs is' e s ns np l) =
      let z : Well p q is' e = step_well p q hs is' e (without_is_place p w) h s in
      not_live_1 q is' (goes_without p q is' e z w ns) z.none l

  not_live_2 : (p : Point) (hs : List Handler) → is_place p places ≡ true → hs ≡ [] → LiveFrom b 2 p hs → ⊥
  not_live_2 _ _ w h (used p hs u) =
      contradicts (among 2 (used_at b p)) u
      (is_false _ (at_place (λ q. not (among 2 (used_at b q))) places p refl w))
  not_live_2 _ _ w h (by_phi p q hs is' e s ns r) =
      contradicts (among 2 e.reads) r (ap (among 2) (step_well p q hs is' e w h s).reads)
  not_live_2 _ _ w h (later p q hs is' e s ns np l) =
      let z : Well p q is' e = step_well p q hs is' e w h s in not_live_2 q is' z.fit.place z.none l

  abbrev unsets_well : Point → Set → Mode → Bool
  unsets_well p x m = not (unsets_registers x.op) || is_place p without_message

  unset_place : (p : Point) (x : Set) (m : Mode) → is_place p places ≡ true → set_at b p ≡ Some (x, m)
      → unsets_registers x.op ≡ true → is_place p without_message ≡ true
  unset_place p x m w e u =
      implied (unsets_registers x.op) (is_place p without_message) (at_set unsets_well places p x m refl w e) u

  after_1 : (p : Point) (x : Set) (m : Mode) → set_at b p ≡ Some (x, m) → unsets_registers x.op ≡ true
      → LiveAfter b 1 p → ⊥
  after_1 _ x m e u (read p q hs is' f r s ns t) =
      contradicts (among 1 f.reads) t (ap (among 1) (reached_well p q hs is' f r s).reads)
  after_1 _ x m e u (live p q hs is' f r s ns np l) =
      let z : Well p q is' f = reached_well p q hs is' f r s in
      not_live_1 q is' (goes_without p q is' f z (unset_place p x m (there p hs r) e u) ns) z.none l

  after_2 : (p : Point) → LiveAfter b 2 p → ⊥
  after_2 _ (read p q hs is' f r s ns t) =
      contradicts (among 2 f.reads) t (ap (among 2) (reached_well p q hs is' f r s).reads)
  after_2 _ (live p q hs is' f r s ns np l) =
      let z : Well p q is' f = reached_well p q hs is' f r s in not_live_2 q is' z.fit.place z.none l

  across_1 : Across b 1 → ⊥
  across_1 (over p x m e u l) = after_1 p x m e u l
  across_1 (lands n t l) = contradicts (lands_first (set_at b (point n 0))) t (lands_nowhere n)

  across_2 : Across b 2 → ⊥
  across_2 (over p x m e u l) = after_2 p l
  across_2 (lands n t l) = contradicts (lands_first (set_at b (point n 0))) t (lands_nowhere n)

  -- What the window sets.

  abbrev sets_map : Option ℕ → Bool
  sets_map None = true
  sets_map (Some v) = eqb v 2

  set_in : (v : ℕ) → SetIn b 1 v → (v ≡ 1) ⊎ (v ≡ 2)
  set_in v (message l e) = let f : Some v ≡ Some 1 = sym e ∙ look_sets l in inl cc
  set_in v (Window.by_phi n hs i e) = contradicts (among v (phi_vars (phis_at b n))) e (ap (among v) (no_phi_vars n))
  set_in v (by_set p hs x m i e ne d) = inr (eqb-true v 2 (subst (λ o. sets_map o ≡ true) d
      (other (ends_window x.op) (sets_map x.dst)
      (at_set (λ q y k. ends_window y.op || sets_map y.dst) inside p x m refl (in_window p hs i).place e) ne)))

  one_of_two : (v : ℕ) → (v ≡ 1) ⊎ (v ≡ 2) → Contains (1 ∷ 2 ∷ []) v
  one_of_two v (inl e) = (0, omega arith, sym e)
  one_of_two v (inr e) = (1, omega arith, sym e)

  not_across : (v : ℕ) → (v ≡ 1) ⊎ (v ≡ 2) → Across b v → ⊥
  not_across v (inl e) a = across_1 (subst (λ z. Across b z) e a)
  not_across v (inr e) a = across_2 (subst (λ z. Across b z) e a)

  -- the look, where a way comes to it
  the_look : Look b 1
  the_look = record {
    at = 0;
    set = S.set (Some 1) (S.peek 7) [];
    var = 1;
    none = 4;
    found = 2;
    is_there = refl;
    looks = refl;
    leads = refl;
  }

  comes_to_look : Reached b (point 1 0) []
  comes_to_look = (
    _,
    goes (point 0 0) (point 1 0) _ [] [] _ begins
        (leads (point 0 0) [] (S.br (S.var 0) 1 1) 1 refl (0, omega arith, refl)),
  )

  starts_inside : IsInside b 1 2
  unfolding the_look
  starts_inside = (0, [], found the_look [] comes_to_look)

  closed : (n m : ℕ) → Leads b n m → IsInside b 1 m → (IsInside b 1 n → ⊥) → n ≡ 1
  closed n m l (k, hs, i) out =
      let w : LeadsWell (point n l.0) m = led_well n m l in
      let z : is_place (point m 0) inside ≡ true = begins_inside m k (in_window (point m k) hs i).place in
      ⊎_elim
      (λ e. absurd (out (subst (λ j. IsInside b 1 j) (sym (ap (λ (q : Point). q.block) (point_is _ _ e)))
      starts_inside)))
      (λ e. eqb-true n 1 e)
      (one_of (same_point (point n l.0) (point 2 0)) (eqb n 1)
      (implied (is_place (point m 0) inside) (same_point (point n l.0) (point 2 0) || eqb n 1) w.enters z))
    where
      begins_inside : (m k : ℕ) → is_place (point m k) inside ≡ true → is_place (point m 0) inside ≡ true
      begins_inside m k e = at_place (λ q. is_place (point q.block 0) inside) inside (point m k) refl e

  window : (w : ℕ) → Look b w → KeepsWindow b w
  window w l = subst (λ z. KeepsWindow b z) (sym (looks_there w l).0) (record {
    few = (1 ∷ 2 ∷ [], omega arith, λ v s. one_of_two v (set_in v s));
    registers = λ v s. not_across v (set_in v s);
    closed = closed;
    quiet = λ p hs x m i e ne. is_false (may_raise m x.op || may_ask x.op)
        (other (ends_window x.op) (not (may_raise m x.op || may_ask x.op))
        (at_set (λ q y k. ends_window y.op || not (may_raise k y.op || may_ask y.op)) inside p x m refl
        (in_window p hs i).place e) ne);
  })

  -- All rules.

  available : (p : Point) (vs : List ℕ) (hs : List Handler) → Way b p vs hs → all_among (used_at b p) vs ≡ true
  available p vs hs w =
      let a : Stands p vs hs = stands p vs hs w in
      all_through (used_at b p) [] (needed p.block) vs
      (at_place (λ q. all_among (used_at b q) (needed q.block)) places p refl a.place) a.vars

  abbrev is_some : {A : Type 0} → Option A → Bool
  is_some None = false
  is_some (Some x) = true

  not_none : {A : Type 0} (o : Option A) → is_some o ≡ true → o ≢ None
  not_none None e f = absurd cc
  not_none (Some x) e f = cc

  leads_on : (n m : ℕ) → Leads b n m → block_at b m ≢ None
  leads_on n m (k, hs, is', e, r, s) = not_none (block_at b m)
      (at_place (λ q. is_some (block_at b q.block)) places (point m 0) refl
      (reached_well (point n k) (point m 0) hs is' e r s).fit.place)

  abbrev early_well : Point → Set → Mode → Bool
  early_well p x m = lands_early x.op p.done (lands_first (set_at b (point p.block 0)))

  pub formed : WellFormed b
  formed = record {
    sets_once = refl;
    in_form = λ p hs x m r e. at_set (λ q y k. in_form k y) places p x m refl (there p hs r) e;
    available = available;
    edges = λ p q vs hs is' e w s. subst (λ rs. all_among rs (e.sets ++ vs) ≡ true)
        (sym (reached_well p q hs is' e (vs, w) s).reads) refl;
    values = λ p hs r. at_place (λ q. none_among (values_at b q) (tags_in b.blocks)) places p refl (there p hs r);
    edge_values = λ p q hs is' e r s. subst (λ rs. none_among rs (tags_in b.blocks) ≡ true)
        (sym (reached_well p q hs is' e r s).reads) refl;
    phis = λ n m l. ap (λ ps. have_edges ps n) (no_phis m);
    starts = λ e. cc;
    no_phis = refl;
    leads_on = leads_on;
    tested = λ p hs r. at_place (λ q. tests_nothing (last_at b q)) places p refl (there p hs r);
    closes = λ p hs x m r e. subst (λ is'. closes_first x.op x.args is' ≡ true) (sym (unhandled p hs r))
        (at_set (λ q y k. closes_first y.op y.args []) places p x m refl (there p hs r) e);
    ends = λ p hs l r e t. unhandled p hs r;
    lands = λ p h hs x m r e t. absurd (let z : h ∷ hs ≡ [] = unhandled p (h ∷ hs) r in cc);
    enters = λ n hs r t. contradicts (lands_first (set_at b (point n 0))) t (lands_nowhere n);
    bare = λ n t. no_phis n;
    early = λ p hs x m r e. at_set early_well places p x m refl (there p hs r) e;
    cycles = cycle;
    windows = window;
  }
