-- A body that is well formed: it gives its parameter back.
use Rattle.std.proofs.Common.{rules, ◌≡◌, ℕ, zero, suc, List, [], ◌∷◌, Option, Some, None, refl, sym, ◌∙◌, subst, IsTrue, Contains}
use Rattle.ssa_form.specs.Ssa.{var, Set, Last, ret, block, Body}
use Rattle.ssa_form.specs.Storage.{Handler, Mode, tests}
use Rattle.ssa_form.specs.SetFacts.{all_among, none_among}
use Rattle.ssa_form.specs.Flow.{Point, point, set_at, last_at, phis_at, targets, Effect, Step, passes, leads, succeeds, fails, raises, Way, begins, goes, Reached, Leads, Passing, one, more}
use Rattle.ssa_form.specs.Liveness.{used_at, values_at, lands_first}
use Rattle.ssa_form.specs.ReceiveWindow.{Look}
use Rattle.ssa_form.specs.WellFormed.{WellFormed, SetsOnce, tests_nothing, tags_in}
use Rattle.ssa_form.proofs.Bodies.{plain_block, body_of}

abbrev pub identity : Body
identity = body_of (0 ∷ []) (plain_block [] (ret (var 0)) ∷ [])

abbrev start : Point
start = point 0 0

none_some : (o : Option (Set × Mode)) (x : Set × Mode) → o ≡ None → o ≡ Some x → ⊥
none_some o x e f = let g : None ≡ Some x = sym e ∙ f in cc

no_set : (p : Point) (x : Set) (m : Mode) → p ≡ start → set_at identity p ≡ Some (x, m) → ⊥
no_set p x m h e = none_some _ _ refl (subst (λ q. set_at identity q ≡ Some (x, m)) h e)

none_in : (n : ℕ) → Contains [] n → ⊥
none_in n h = search rules

only_ret : (p : Point) (l : Last) → p ≡ start → last_at identity p ≡ Some l → l ≡ ret (var 0)
only_ret p l h e = let f : Some (ret (var 0)) ≡ Some l = subst (λ q. last_at identity q ≡ Some l) h e in cc

no_target : (p : Point) (l : Last) (n : ℕ) → p ≡ start → last_at identity p ≡ Some l → Contains (targets l) n → ⊥
no_target p l n h e c = none_in n (subst (λ k. Contains (targets k) n) (only_ret p l h e) c)

no_step : (p q : Point) (hs is' : List Handler) (e : Effect) → p ≡ start → Step identity p hs q is' e → ⊥
no_step _ _ _ _ _ h (passes p hs x m f t) = no_set p x m h f
no_step _ _ _ _ _ h (leads p hs l n f c) = no_target p l n h f c
no_step _ _ _ _ _ h (succeeds p hs x v t e f g) = no_set p x (tests e) h f
no_step _ _ _ _ _ h (fails p hs x e f g) = no_set p x (tests e) h f
no_step _ _ _ _ _ h (raises p i hs x m f g) = no_set p x m h f

pub record Only (p : Point) (vs : List ℕ) (hs : List Handler) : Type 0 where
  pub at : p ≡ start
  pub vars : vs ≡ 0 ∷ []
  pub handlers : hs ≡ []

only : (p : Point) (vs : List ℕ) (hs : List Handler) → Way identity p vs hs → Only p vs hs
only _ _ _ begins = record { at = refl; vars = refl; handlers = refl }
only _ _ _ (goes p q vs hs is' e w s) = absurd (no_step p q hs is' e (only p vs hs w).at s)

at_start : (p : Point) (hs : List Handler) → Reached identity p hs → p ≡ start
at_start p hs r = (only p r.0 hs r.1).at

no_lead : (n m : ℕ) → Leads identity n m → ⊥
no_lead n m (k, hs, is', e, r, s) = no_step (point n k) (point m 0) hs is' e (at_start _ hs r) s

no_passing : (n m : ℕ) (ns : List ℕ) → Passing identity n m ns → ⊥
no_passing _ _ _ (one n m l) = no_lead n m l
no_passing _ _ _ (more n m k ns l p) = no_lead n m l

no_sets : (w k : ℕ) → set_at identity (point w k) ≡ None
no_sets zero k = refl
no_sets (suc w) k = refl

look_at_block : (w : ℕ) (l : Look identity w) → ⊥
look_at_block w l = none_some _ _ (no_sets w l.at) l.is_there

reads_param : IsTrue (all_among (used_at identity start) (0 ∷ []))
reads_param = search rules

tests_none : IsTrue (tests_nothing (last_at identity start))
tests_none = search rules

no_tag : IsTrue (none_among (values_at identity start) (tags_in identity.blocks))
no_tag = search rules

once : SetsOnce identity
once = search rules

no_landing : (n : ℕ) → IsTrue (lands_first (set_at identity (point n 0))) → phis_at identity n ≡ []
no_landing zero e = refl
no_landing (suc n) e = refl

pub identity_is_well_formed : WellFormed identity
identity_is_well_formed = record {
  sets_once = once;
  in_form = λ p hs x m r e. absurd (no_set p x m (at_start p hs r) e);
  available = λ p vs hs w. subst (λ q. IsTrue (all_among (used_at identity q) vs)) (sym (only p vs hs w).at)
      (subst (λ us. IsTrue (all_among (used_at identity start) us)) (sym (only p vs hs w).vars) reads_param);
  edges = λ p q vs hs is' e w s. absurd (no_step p q hs is' e (only p vs hs w).at s);
  values = λ p hs r. subst (λ q. IsTrue (none_among (values_at identity q) (tags_in identity.blocks)))
      (sym (at_start p hs r)) no_tag;
  edge_values = λ p q hs is' e r s. absurd (no_step p q hs is' e (at_start p hs r) s);
  phis = λ n m l. absurd (no_lead n m l);
  starts = λ e. let f : Some (block [] [] (ret (var 0))) ≡ None = e in cc;
  no_phis = refl;
  leads_on = λ n m l. absurd (no_lead n m l);
  tested = λ p hs r. subst (λ q. IsTrue (tests_nothing (last_at identity q))) (sym (at_start p hs r)) tests_none;
  closes = λ p hs x m r e. absurd (no_set p x m (at_start p hs r) e);
  ends = λ p hs l r e t. (only p r.0 hs r.1).handlers;
  lands = λ p h hs x m r e t. absurd (no_set p x m (at_start p (h ∷ hs) r) e);
  enters = λ n hs r t p ks is' e q s. absurd (no_step p _ ks is' e (at_start p ks q) s);
  bare = no_landing;
  early = λ p hs x m r e. absurd (no_set p x m (at_start p hs r) e);
  cycles = λ n ns p. absurd (no_passing n n ns p);
  windows = λ w l. absurd (look_at_block w l);
}
