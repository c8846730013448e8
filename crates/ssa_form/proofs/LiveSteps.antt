-- How liveness goes over a set.
use Rattle.std.proofs.Common.{◌≡◌, ◌<◌, ◌⊎◌, inl, inr, ⊎_elim, ℕ, zero, suc, List, [], ◌∷◌, ◌++◌, length, Bool, true, false, ◌||◌, Option, Some, None, refl, sym, ap, subst, ◌∙◌, arith, eqb, IsTrue, IsFalse, if◌then◌else◌}
use Rattle.std.proofs.lemmas.Bool.{eqb-true}
use Rattle.erl_base.specs.Lists.{among}
use Rattle.ssa_form.specs.Ssa.{FrameAction, Set, Last, Block, Body, block_at}
use Rattle.ssa_form.specs.Storage.{Handler, Mode, tests}
use Rattle.ssa_form.specs.SetFacts.{arg_vars, given_vars, is_tests, may_raise}
use Rattle.ssa_form.specs.Flow.{Point, next, set_from, set_in, set_at, last_in, last_at, after_op, setting, Effect, Step, passes, leads, succeeds, fails, raises}
use Rattle.ssa_form.specs.Liveness.{used_at, set_vars, end_vars, LiveFrom, used, by_phi, later, LiveBeforeSet}

abbrev taken : Set → Mode → Set × Mode
taken x m = (x, m)

some_pair : (x y : Set × Mode) → Some x ≡ Some y → x ≡ y
some_pair x y e = cc

-- a point with a set is not the last's
set_within : (xs : List Set) (k : ℕ) (as' : List FrameAction) (l : Last) (x : Set × Mode) → set_from xs k as' l ≡ Some x
    → k < length xs
set_within [] k as' l x e = absurd cc
set_within (y ∷ ys) zero as' l x e = omega arith
set_within (y ∷ ys) (suc k) as' l x e = let h : k < length ys = set_within ys k as' l x e in omega (arith, h)

not_end : (o : Option Block) (k : ℕ) (x : Set × Mode) → set_in o k ≡ Some x → last_in o k ≡ None
not_end None k x e = refl
not_end (Some b) k x e = at_end (eqb k (length b.chain))
    (λ h. let l : k < length b.chain = set_within b.chain k b.before b.last x e
    in let q : k ≡ length b.chain = eqb-true k (length b.chain) h in omega (arith, l, q))
  where
    at_end : (t : Bool) → (t ≡ true → ⊥) → (if t then Some b.last else None) ≡ None
    at_end true h = absurd (h refl)
    at_end false h = refl

no_last : (b : Body) (p : Point) (x : Set × Mode) (l : Last) → set_at b p ≡ Some x → last_at b p ≡ Some l → ⊥
no_last b p x l e f = let g : None ≡ Some l = sym (not_end (block_at b p.block) p.done x e) ∙ f in cc

among_first : (v : ℕ) (xs : List ℕ) → among v (xs ++ []) ≡ among v xs
among_first v [] = refl
among_first v (x ∷ xs) = ap (λ c. eqb v x || c) (among_first v xs)

module _ (b : Body) (v : ℕ) (x : Set) (m : Mode) (calm : IsFalse (is_tests m))
    (quiet : IsFalse (may_raise m x.op)) where
  used_there : (p : Point) → set_at b p ≡ Some (x, m) → among v (used_at b p) ≡ among v (arg_vars x.args)
  used_there p e = ap (λ o. among v (set_vars o ++ end_vars (last_at b p))) e
      ∙ ap (λ o. among v (arg_vars x.args ++ end_vars o)) (not_end (block_at b p.block) p.done (x, m) e)
      ∙ among_first v (arg_vars x.args)

  tested_not : (y : Set) (t : ℕ) → taken x m ≡ taken y (tests t) → ⊥
  tested_not y t e = let q : is_tests m ≡ true = ap (λ z. is_tests z.1) e in let r : true ≡ false = sym q ∙ calm in cc

  raised_not : (y : Set) (n : Mode) → taken x m ≡ taken y n → IsTrue (may_raise n y.op) → ⊥
  raised_not y n e h = let q : may_raise m x.op ≡ true =
      ap (λ z. may_raise z.1 z.0.op) e ∙ h in let r : true ≡ false = sym q ∙ quiet in cc

  -- the one step that there is
  pub record Past (p q : Point) (hs is' : List Handler) (e : Effect) : Type 0 where
    pub point : q ≡ next p
    pub handlers : is' ≡ after_op x.op hs
    pub effect : e ≡ setting (given_vars x)

  only_past : (p q : Point) (hs is' : List Handler) (e : Effect) → set_at b p ≡ Some (x, m) → Step b p hs q is' e
      → Past p q hs is' e
  only_past p _ hs _ _ h (passes _ _ y n f t) = let i : taken x m ≡ taken y n = some_pair _ _ (sym h ∙ f) in record {
    point = refl;
    handlers = ap (λ z. after_op z.0.op hs) (sym i);
    effect = ap (λ z. setting (given_vars z.0)) (sym i);
  }
  only_past p _ hs _ _ h (leads _ _ l n f c) = absurd (no_last b p (x, m) l h f)
  only_past p _ hs _ _ h (succeeds _ _ y w t k f g) = absurd (tested_not y k (some_pair _ _ (sym h ∙ f)))
  only_past p _ hs _ _ h (fails _ _ y k f g) = absurd (tested_not y k (some_pair _ _ (sym h ∙ f)))
  only_past p _ _ _ _ h (raises _ i is' y n f g) = absurd (raised_not y n (some_pair _ _ (sym h ∙ f)) g)

  before : (p : Point) (hs : List Handler) → set_at b p ≡ Some (x, m) → LiveFrom b v p hs
      → IsTrue (among v (arg_vars x.args))
      ⊎ (IsFalse (among v (given_vars x)) × LiveFrom b v (next p) (after_op x.op hs))
  before _ _ h (used p hs u) = inl (sym (used_there p h) ∙ u)
  before _ _ h (by_phi p q hs is' e s n r) = let i : Past p q hs is' e =
      only_past p q hs is' e h s in let j : false ≡ true = sym (ap (λ f. among v f.reads) i.effect) ∙ r in absurd cc
  before _ _ h (later p q hs is' e s n r l) = let i : Past p q hs is' e = only_past p q hs is' e h s in
      inr (
        sym (ap (λ f. among v f.sets) i.effect)
            ∙ n,
        subst (λ z. LiveFrom b v (next p) z) i.handlers (subst (λ z. LiveFrom b v z is') i.point l),
      )

  behind : (p : Point) (hs : List Handler) → set_at b p ≡ Some (x, m) → IsTrue (among v (arg_vars x.args))
      ⊎ (IsFalse (among v (given_vars x)) × LiveFrom b v (next p) (after_op x.op hs)) → LiveFrom b v p hs
  behind p hs h c = ⊎_elim (λ u. used p hs (used_there p h ∙ u))
      (λ l. later p (next p) hs (after_op x.op hs) (setting (given_vars x)) (passes p hs x m h calm) l.0 refl l.1) c

pub live_before_set : (b : Body) → LiveBeforeSet b
live_before_set b v p hs x m h calm quiet = (before b v x m calm quiet p hs h, behind b v x m calm quiet p hs h)
