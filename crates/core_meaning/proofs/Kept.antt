-- A meaning's notes only grow, the entries that it notes and those that are left are as many as before, and it is
-- spent only where none is left.
use Rattle.std.proofs.Common.{◌≡◌, ◌≤◌, ◌<◌, sym, subst, slice_get, ℕ, zero, suc, ◌+◌, List, [], ◌∷◌, ◌++◌, length, refl, ◌∙◌, arith, ap, append_assoc}
use Rattle.erl_term.specs.Term.{Term, Class}
use Rattle.erl_term.specs.Terms.{Values}
use Rattle.world_model.specs.World.{Script}
use Rattle.world_model.specs.Run.{Entry, entered, State, Note, entries, Outcome, gives, raises, waits, spent, M, ◌>>=◌, after, noting}
use Rattle.world_model.specs.Meaning.{ends, either}
use Rattle.world_model.specs.Entries.{entry_left}
use Rattle.core_meaning.specs.CoreRun.{Known, deep, start}
use Rattle.core_meaning.specs.RunLaws.{EntriesAreSpent}
use Rattle.core_meaning.proofs.Rules.{with_left, Quiet, Logic}
use Rattle.core_meaning.proofs.EveryRule.{site_ok}

abbrev pub IsSpent : {A : Type 0} → Outcome A → Type 0
IsSpent (gives a) = ⊥
IsSpent (raises c r) = ⊥
IsSpent (waits q) = ⊥
IsSpent spent = Unit {0}

abbrev pub Grown : List Note → List Note → Type 0
Grown old new = (ns : List Note) × (new ≡ ns ++ old)

pub grown_twice : (a b c : List Note) → Grown a b → Grown b c → Grown a c
grown_twice a b c (ns, e) (ms, h) = (ms ++ ns, h ∙ ap (λ x. ms ++ x) e ∙ sym (append_assoc ms ns a))

-- from a state with fewer than d entries left
pub record Kept {A : Type 0} (d : ℕ) (s : State) (r : State × Outcome A) : Type 0 where
  pub low : r.0.left ≤ s.left
  pub sum : length (entries r.0.notes) + r.0.left ≡ length (entries s.notes) + s.left
  pub out : s.left < d → IsSpent r.1 → r.0.left ≡ 0
  pub grows : Grown s.notes r.0.notes

pub record Keeps {A : Type 0} (d : ℕ) (m n : M A) : Type 0 where
  pub equal : m ≡ n
  pub at : (s : State) → Kept d s (m s)

still : {A : Type 0} (d : ℕ) (s : State) (o : Outcome A) → (IsSpent o → ⊥) → Kept d s (s, o)
still d s o h = record { low = omega arith; sum = refl; out = λ l z. absurd (h z); grows = ([], refl) }

-- what is kept from a state is kept from an earlier one
from_kept : {A B : Type 0} (d : ℕ) (s u : State) (o : Outcome A) (r : State × Outcome B) → Kept d s (u, o)
    → Kept d u r → Kept d s r
from_kept d s u o r k h = record {
  low = omega (arith, k.low, h.low);
  sum = h.sum ∙ k.sum;
  out = λ l. h.out (omega (arith, k.low, l));
  grows = grown_twice _ _ _ k.grows h.grows;
}

ends_kept : {A B : Type 0} (d : ℕ) (s u : State) (o : Outcome A) (f : A → M B) (g : Class → Term → M B)
    → Kept d s (u, o) → ((a : A) (v : State) → Kept d v (f a v))
    → ((c : Class) (r : Term) (v : State) → Kept d v (g c r v)) → Kept d s (ends u o f g)
ends_kept d s u (gives a) f g k h i = from_kept d s u (gives a) _ k (h a u)
ends_kept d s u (raises c r) f g k h i = from_kept d s u (raises c r) _ k (i c r u)
ends_kept d s u (waits q) f g k h i = record { low = k.low; sum = k.sum; out = λ l z. absurd z; grows = k.grows }
ends_kept d s u spent f g k h i = record { low = k.low; sum = k.sum; out = k.out; grows = k.grows }

after_kept : {A B : Type 0} (d : ℕ) (s u : State) (o : Outcome A) (f : A → M B) → Kept d s (u, o)
    → ((a : A) (v : State) → Kept d v (f a v)) → Kept d s (after u o f)
after_kept d s u (gives a) f k h = from_kept d s u (gives a) _ k (h a u)
after_kept d s u (raises c r) f k h = record { low = k.low; sum = k.sum; out = λ l z. absurd z; grows = k.grows }
after_kept d s u (waits q) f k h = record { low = k.low; sum = k.sum; out = λ l z. absurd z; grows = k.grows }
after_kept d s u spent f k h = record { low = k.low; sum = k.sum; out = k.out; grows = k.grows }

moved_kept : {A : Type 0} (d : ℕ) (f : State → State) → Quiet f → (m : M A) → ((s : State) → Kept d s (m s))
    → (s : State) → Kept d s (m (f s))
moved_kept d f q m h s =
    let k = h (f s) in
    let l = q.left s in
    let e = q.same s in
    let n : length (entries (f s).notes) ≡ length (entries s.notes) = ap length e in
    record {
      low = omega (arith, k.low, l);
      sum = omega (arith, k.sum, l, n);
      out = λ i. k.out (omega (arith, i, l));
      grows = grown_twice _ _ _ (q.grows s) k.grows;
    }

pub keeping : ℕ → Logic
keeping d = record {
  Rel = Keeps d;
  given = λ a. record { equal = refl; at = λ s. still d s (gives a) (λ z. z) };
  failed = λ c r. record { equal = refl; at = λ s. still d s (raises c r) (λ z. z) };
  waited = λ q. record { equal = refl; at = λ s. still d s (waits q) (λ z. z) };
  bound = λ m n f g r h. record {
    equal = λ i. r.equal i >>= λ a. (h a).equal i;
    at = λ s. after_kept d s (m s).0 (m s).1 f (r.at s) (λ a v. (h a).at v);
  };
  caught = λ m n f g h i r k l. record {
    equal = λ j. either (r.equal j) (λ a. (k a).equal j) (λ c t. (l c t).equal j);
    at = λ s. ends_kept d s (m s).0 (m s).1 f h (r.at s) (λ a v. (k a).at v) (λ c t v. (l c t).at v);
  };
  moved = λ f q m n r. record { equal = λ i s. r.equal i (f s); at = moved_kept d f q m r.at };
  seen = λ g e f h r. record { equal = λ i s. (r (g s)).equal i s; at = λ s. (r (g s)).at s };
  guard = λ m n r i. r.equal i Rattle.core_meaning.specs.ClauseChoice.blank;
}

-- what is entered has one entry less
left_kept : {A : Type 0} (d : ℕ) (m : M A) → ((s : State) → Kept d s (m s)) → (e : Entry) (k : ℕ) (s : State)
    → s.left ≡ k → Kept (suc d) s (entry_left k e m s)
left_kept d m h e zero s p = record { low = omega arith; sum = refl; out = λ i g. p; grows = ([], refl) }
left_kept d m h e (suc k) s p =
    let u = h (noting (entered e) (with_left k s)) in
    record {
      low = omega (arith, p, u.low);
      sum = omega (arith, p, u.sum);
      out = λ i. u.out (omega (arith, i, p));
      grows = grown_twice _ _ _ (entered e ∷ [], refl) u.grows;
    }

pub deep_kept : (m : Known) (d n : ℕ) (vs : Values) (s : State) → Kept d s (deep m d n vs s)
unfolding deep keeping
deep_kept m zero n vs s =
    record { low = omega arith; sum = refl; out = λ l. absurd (omega (arith, l)); grows = ([], refl) }
deep_kept m (suc d) n vs s =
    (site_ok (keeping (suc d)) _ (deep m d)
    (λ e k ws. record { equal = refl; at = λ u. left_kept d (deep m d k ws) (deep_kept m d k ws) e u.left u refl })
    (slice_get m.sites n) vs).at s

pub entries_are_spent : EntriesAreSpent
entries_are_spent m d f vs s = (deep_kept m d f vs s).sum

-- a run notes at most as many entries as its bound, and that many where it is spent
pub entries_within : (m : Known) (n f : ℕ) (vs : Values) (x : Script)
    → length (entries (deep m (suc n) f vs (start x n)).0.notes) ≤ n
entries_within m n f vs x = omega (arith, (deep_kept m (suc n) f vs (start x n)).sum)

pub entries_spent : (m : Known) (n f : ℕ) (vs : Values) (x : Script) → (deep m (suc n) f vs (start x n)).1 ≡ spent
    → length (entries (deep m (suc n) f vs (start x n)).0.notes) ≡ n
entries_spent m n f vs x e =
    let k = deep_kept m (suc n) f vs (start x n) in
    omega (arith, k.sum, k.out (omega arith) (subst IsSpent (sym e) tt))
