-- The depth to which functions are entered does not matter, once it is more than the entries that are left.
use Rattle.std.proofs.Common.{◌≡◌, ◌≤◌, ◌<◌, sym, slice_get, ℕ, zero, suc, refl, ◌∙◌, arith, ap}
use Rattle.erl_term.specs.Term.{Term, Class}
use Rattle.erl_term.specs.Terms.{Values}
use Rattle.world_model.specs.Run.{Entry, entered, State, Outcome, gives, raises, waits, spent, M, ◌>>=◌, after, going_on, noting}
use Rattle.world_model.specs.Meaning.{ends, ending, either}
use Rattle.core_meaning.specs.ClauseChoice.{blank}
use Rattle.world_model.specs.Entries.{entry_left, counted}
use Rattle.core_meaning.specs.CoreRun.{Known, deep}
use Rattle.core_meaning.specs.RunLaws.{DepthIsEnough}
use Rattle.core_meaning.proofs.Rules.{with_left, Quiet, Logic}
use Rattle.core_meaning.proofs.EveryRule.{site_ok}
use Rattle.core_meaning.proofs.Longer.{after_low, ends_low, left_low}

-- the same from each state with fewer than b entries left
pub record Near {A : Type 0} (b : ℕ) (m n : M A) : Type 0 where
  pub low : (s : State) → (m s).0.left ≤ s.left
  pub same : (s : State) → s.left < b → m s ≡ n s

module _ (b : ℕ) where
  after_near : {A B : Type 0} (u : State) (o : Outcome A) (f g : A → M B) → u.left < b → ((a : A) → Near b (f a) (g a))
      → after u o f ≡ after u o g
  after_near u (gives a) f g l h = (h a).same u l
  after_near u (raises c t) f g l h = refl
  after_near u (waits q) f g l h = refl
  after_near u spent f g l h = refl

  pub bound_near : {A B : Type 0} (m n : M A) (f g : A → M B) → Near b m n → ((a : A) → Near b (f a) (g a))
      → Near b (m >>= f) (n >>= g)
  bound_near m n f g r h = record {
    low = λ s. after_low b 0 s (m s).0 (m s).1 f (r.low s) (λ a v. (h a).low v);
    same = λ s l. after_near (m s).0 (m s).1 f g (omega (arith, l, r.low s)) h ∙ ap (λ q. going_on q g) (r.same s l);
  }

  ends_near : {A B : Type 0} (u : State) (o : Outcome A) (f f' : A → M B) (g g' : Class → Term → M B) → u.left < b
      → ((a : A) → Near b (f a) (f' a)) → ((c : Class) (t : Term) → Near b (g c t) (g' c t))
      → ends u o f g ≡ ends u o f' g'
  ends_near u (gives a) f f' g g' l h i = (h a).same u l
  ends_near u (raises c t) f f' g g' l h i = (i c t).same u l
  ends_near u (waits q) f f' g g' l h i = refl
  ends_near u spent f f' g g' l h i = refl

  pub caught_near : {A B : Type 0} (m n : M A) (f f' : A → M B) (g g' : Class → Term → M B) → Near b m n
      → ((a : A) → Near b (f a) (f' a)) → ((c : Class) (t : Term) → Near b (g c t) (g' c t))
      → Near b (either m f g) (either n f' g')
  caught_near m n f f' g g' r h i = record {
    low = λ s. ends_low b 0 s (m s).0 (m s).1 f g (r.low s) (λ a v. (h a).low v) (λ c t v. (i c t).low v);
    same = λ s l. ends_near (m s).0 (m s).1 f f' g g' (omega (arith, l, r.low s)) h i
        ∙ ap (λ q. ending q f' g') (r.same s l);
  }

  pub moved_near : {A : Type 0} (f : State → State) → Quiet f → (m n : M A) → Near b m n
      → Near b (λ s. m (f s)) (λ s. n (f s))
  moved_near f q m n r = record {
    low = λ s. omega (arith, r.low (f s), q.left s);
    same = λ s l. r.same (f s) (omega (arith, l, q.left s));
  }

  pub ended_near : {A : Type 0} (o : Outcome A) → Near b (λ s. (s, o)) (λ s. (s, o))
  ended_near o = record { low = λ s. omega arith; same = λ s l. refl }

unfoldable pub nearing : ℕ → Logic
nearing d = record {
  Rel = Near (suc d);
  given = λ a. ended_near (suc d) (gives a);
  failed = λ c t. ended_near (suc d) (raises c t);
  waited = λ q. ended_near (suc d) (waits q);
  bound = bound_near (suc d);
  caught = caught_near (suc d);
  moved = moved_near (suc d);
  seen = λ g e f h r. record { low = λ s. (r (g s)).low s; same = λ s l. (r (g s)).same s l };
  guard = λ m n r. r.same blank (omega arith);
}

left_near : {A : Type 0} (b : ℕ) (m n : M A) → Near b m n → (e : Entry) (k : ℕ) (s : State) → k < suc b
    → entry_left k e m s ≡ entry_left k e n s
left_near b m n r e zero s l = refl
left_near b m n r e (suc k) s l = r.same (noting (entered e) (with_left k s)) (omega (arith, l))

entry_near : {A : Type 0} (b : ℕ) (m n : M A) → Near b m n → (e : Entry) → Near (suc b) (counted e m) (counted e n)
entry_near b m n r e = record {
  low = λ s. left_low m r.low e s.left s refl;
  same = λ s l. left_near b m n r e s.left s l;
}

pub deep_near : (m : Known) (d k n : ℕ) (vs : Values) → d ≤ k → Near d (deep m d n vs) (deep m k n vs)
unfolding deep nearing
deep_near m zero k n vs l = record { low = λ s. omega arith; same = λ s i. absurd (omega (arith, i)) }
deep_near m (suc d) zero n vs l = absurd (omega (arith, l))
deep_near m (suc d) (suc k) n vs l =
    site_ok (nearing d) _ (deep m k)
    (λ e j ws. entry_near d (deep m d j ws) (deep m k j ws) (deep_near m d k j ws (omega (arith, l))) e)
    (slice_get m.sites n) vs

pub depth_is_enough : DepthIsEnough
depth_is_enough m n vs s k l = sym ((deep_near m (suc s.left) k n vs (omega (arith, l))).same s (omega arith))
