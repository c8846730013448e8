-- Where a key stands among the pairs of a map.
use Rattle.std.specs.Prelude.{◌≡◌, ◌<◌, ◌≤◌, ℕ, zero, suc, ◌+◌, List, [], ◌∷◌, ◌++◌, map, take, drop, length}
use Rattle.std.specs.declared.cmp.Ordering.{Ordering}
use Rattle.std.specs.declared.cmp.Ordering.TheVariants.{Less, Equal, Greater}
use Rattle.erl_term.specs.Term.{Term}
use Rattle.erl_term.specs.TermOrder.{compare}
use Rattle.erl_term.specs.Terms.{pairs, put}
use Rattle.shared_term.specs.declared.value.ValuePair.{ValuePair}
use Rattle.shared_term.specs.View.{view, pair_view, pair_row}

-- how a key stands to that of the pair at a place; it is below what is past the end
abbrev pub stands : Term → List ValuePair → ℕ → Ordering
stands k [] i = Less
stands k (p ∷ ps) zero = compare k (view p.key)
stands k (p ∷ ps) (suc i) = stands k ps i

-- the pair at a place has the key
pub record IsFound (k : Term) (ps : List ValuePair) (at : ℕ) : Type 0 where
  pub within : at < length ps
  pub below : (i : ℕ) → i < at → stands k ps i ≡ Greater
  pub here : stands k ps at ≡ Equal

-- no pair has the key, which would stand at a place
pub record IsMissing (k : Term) (ps : List ValuePair) (at : ℕ) : Type 0 where
  pub within : at ≤ length ps
  pub below : (i : ℕ) → i < at → stands k ps i ≡ Greater
  pub above : (i : ℕ) → at ≤ i → stands k ps i ≡ Less

-- a pair that is put in comes between the first pairs and the last ones
pub record IsRoom (k : Term) (ps : List ValuePair) (first last : ℕ) : Type 0 where
  pub first_within : first ≤ length ps
  pub last_within : last ≤ length ps
  pub put_between : (v : Term)
      → put k v (pair_row ps) ≡ pairs (map pair_view (take first ps) ++ (k, v) ∷ map pair_view (drop last ps))
