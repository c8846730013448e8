-- What meanings are made of keeps the count of entries; so functions that enter one another keep their bound.
use Rattle.std.proofs.Common.{◌≡◌, ◌≤◌, ◌+◌, sym, subst, ℕ, zero, suc, List, [], ◌∷◌, length, refl, ◌∙◌, arith}
use Rattle.erl_base.specs.Names.{Name}
use Rattle.erl_term.specs.Term.{Term, Class}
use Rattle.erl_term.specs.Terms.{Values, only}
use Rattle.world_model.specs.World.{Request, Reply}
use Rattle.world_model.specs.Run.{Entry, State, entered, entries, Outcome, gives, raises, waits, spent, M, ◌>>=◌, after, give, fail, ask, ask_from, noting}
use Rattle.world_model.specs.Meaning.{one, ends, either}
use Rattle.world_model.specs.Entries.{entry_left}
use Rattle.step_machine.specs.Bodies.{Bodies, entered_deep}
use Rattle.step_machine.specs.EntryBound.{IsSpent, KeptCount, KeepsCount, KeepsCountBelow, BodiesKeep}

module _ (d : ℕ) where
  module _ {A : Type 0} where
    pub give_keeps : (a : A) → KeepsCount d (give a)
    give_keeps a = record { at = λ s. record { low = omega arith; sum = refl; out = λ l h. absurd h } }

    pub fail_keeps : (c : Class) (r : Term) → KeepsCount d {A = A} (fail c r)
    fail_keeps c r = record { at = λ s. record { low = omega arith; sum = refl; out = λ l h. absurd h } }

  -- what is kept from one state on from another with the same count
  pub from_same : {A : Type 0} (s u : State) (r : State × Outcome A) → u.left ≤ s.left
      → length (entries u.notes) + u.left ≡ length (entries s.notes) + s.left → KeptCount d u r → KeptCount d s r
  from_same s u r l e k = record {
    low = omega (arith, k.low, l);
    sum = k.sum ∙ e;
    out = λ i. k.out (omega (arith, i, l));
  }

  after_keeps : {A B : Type 0} (s u : State) (o : Outcome A) (f : A → M B) → KeptCount d s (u, o)
      → ((a : A) → KeepsCount d (f a)) → KeptCount d s (after u o f)
  after_keeps s u (gives a) f k h = from_same s u (f a u) k.low k.sum ((h a).at u)
  after_keeps s u (raises c r) f k h = record { low = k.low; sum = k.sum; out = λ l z. absurd z }
  after_keeps s u (waits q) f k h = record { low = k.low; sum = k.sum; out = λ l z. absurd z }
  after_keeps s u spent f k h = record { low = k.low; sum = k.sum; out = k.out }

  pub bind_keeps : {A B : Type 0} (m : M A) (f : A → M B) → KeepsCount d m → ((a : A) → KeepsCount d (f a))
      → KeepsCount d (m >>= f)
  bind_keeps m f k h = record { at = λ s. after_keeps s (m s).0 (m s).1 f (k.at s) h }

  ask_from_keeps : (q : Request) (rs : List Reply) (s : State) → KeptCount d s (ask_from q rs s)
  ask_from_keeps q [] s = record { low = omega arith; sum = refl; out = λ l h. absurd h }
  ask_from_keeps q (r ∷ rs) s = record { low = omega arith; sum = refl; out = λ l h. absurd h }

  pub ask_keeps : (q : Request) → KeepsCount d (ask q)
  ask_keeps q = record { at = λ s. ask_from_keeps q s.replies s }

  ends_keeps : {A B : Type 0} (s u : State) (o : Outcome A) (f : A → M B) (g : Class → Term → M B)
      → KeptCount d s (u, o) → ((a : A) → KeepsCount d (f a)) → ((c : Class) (r : Term) → KeepsCount d (g c r))
      → KeptCount d s (ends u o f g)
  ends_keeps s u (gives a) f g k h i = from_same s u (f a u) k.low k.sum ((h a).at u)
  ends_keeps s u (raises c r) f g k h i = from_same s u (g c r u) k.low k.sum ((i c r).at u)
  ends_keeps s u (waits q) f g k h i = record { low = k.low; sum = k.sum; out = λ l z. absurd z }
  ends_keeps s u spent f g k h i = record { low = k.low; sum = k.sum; out = k.out }

  pub either_keeps : {A B : Type 0} (m : M A) (f : A → M B) (g : Class → Term → M B) → KeepsCount d m
      → ((a : A) → KeepsCount d (f a)) → ((c : Class) (r : Term) → KeepsCount d (g c r)) → KeepsCount d (either m f g)
  either_keeps m f g k h i = record { at = λ s. ends_keeps s (m s).0 (m s).1 f g (k.at s) h i }

  pub one_keeps : {B : Type 0} (m : M Values) (f : Term → M B) → KeepsCount d m → ((t : Term) → KeepsCount d (f t))
      → KeepsCount d (one m f)
  one_keeps m f k h = bind_keeps m (λ vs. f (only vs)) k (λ vs. h (only vs))

  pub left_keeps : {A : Type 0} (m : M A) → KeepsCountBelow d m → (e : Entry) (k : ℕ) (s : State) → s.left ≡ k
      → KeptCount d s (entry_left k e m s)
  left_keeps m h e zero s p = record { low = omega arith; sum = refl; out = λ i g. p }
  left_keeps m h e (suc k) s p = record {
    low = omega (arith, p, h.low (below s e k));
    sum = omega (arith, p, h.sum (below s e k));
    out = λ i. h.out (below s e k) (omega (arith, i, p));
  }
    where
      below : State → Entry → ℕ → State
      below u f j = noting (entered f) (record u { left = j })

pub kept_below : {A : Type 0} (d : ℕ) (m : M A) → KeepsCount d m → KeepsCountBelow (suc d) m
kept_below d m h = record {
  low = λ s. (h.at s).low;
  sum = λ s. (h.at s).sum;
  out = λ s l. (h.at s).out (omega (arith, l));
}

module _ (name : Name) (own : Term) (bs : Bodies) (h : BodiesKeep bs) where
  pub entered_keeps : (d n : ℕ) (vs : Values) → KeepsCount d (entered_deep name own bs d n vs)
  unfolding entered_deep
  entered_keeps zero n vs =
      record { at = λ s. record { low = omega arith; sum = refl; out = λ l. absurd (omega (arith, l)) } }
  entered_keeps (suc d) n vs = h (suc d) n _ vs (λ k ws. kept_below d _ (entered_keeps d k ws))

  -- so no call gives entries back
  pub lowers : (d n : ℕ) (vs : Values) (s : State) → (entered_deep name own bs d n vs s).0.left ≤ s.left
  lowers d n vs s = ((entered_keeps d n vs).at s).low

  -- and a run notes at most as many entries as its bound, and that many where it is spent
  pub bounded : (n f : ℕ) (vs : Values) (s : State) → s.left ≡ n → length (entries s.notes) ≡ 0
      → length (entries (entered_deep name own bs (suc n) f vs s).0.notes) ≤ n
  bounded n f vs s l e = omega (arith, ((entered_keeps (suc n) f vs).at s).sum, l, e)

  pub met : (n f : ℕ) (vs : Values) (s : State) → s.left ≡ n → length (entries s.notes) ≡ 0
      → (entered_deep name own bs (suc n) f vs s).1 ≡ spent
      → length (entries (entered_deep name own bs (suc n) f vs s).0.notes) ≡ n
  met n f vs s l e q =
      let k = (entered_keeps (suc n) f vs).at s in
      omega (arith, k.sum, k.out (omega (arith, l)) (subst IsSpent (sym q) tt), l, e)
