-- Maps from pairs in any order, by runs whose keys rise.
use Rattle.std.specs.Prelude.{◌≡◌, ◌+◌, ◌<◌, List, [], map, length, Option, Some, None, IsTrue}
use Rattle.std.specs.declared.cmp.Ordering.{Ordering}
use Rattle.std.specs.declared.cmp.Ordering.TheVariants.{Less, Greater}
use Rattle.erl_term.specs.declared.term.Pair.{Pair}
use Rattle.erl_term.specs.Term as Plain
use Rattle.erl_term.specs.TermOrder.{compare}
use Rattle.erl_term.specs.View.{pair_view}
use Rattle.erl_term.specs.WellFormed.{pairs_rise, pair_normal}
use Rattle.erl_term.specs.Comparing.{pair_row, PairsNormal}
use Rattle.erl_term.specs.Terms.{put_all}

-- a run: well-formed pairs whose keys rise
pub record IsRun (ps : List Pair) : Type 0 where
  pub normal : PairsNormal ps
  pub rising : IsTrue (pairs_rise (pair_row ps))

-- how the first keys of two runs stand; one that has none comes last
abbrev pub front_order : Plain.Pairs → Plain.Pairs → Ordering
front_order ps Plain.no_pair = Less
front_order Plain.no_pair (Plain.pair l w qs) = Greater
front_order (Plain.pair k v ps) (Plain.pair l w qs) = compare k l

-- two runs in one: the pairs of the second put into the first
abbrev pub merge : List Pair → List Pair → Plain.Pairs
merge ps qs = put_all (map pair_view qs) (pair_row ps)

-- what the least pair is that was taken off, and that fewer are left
abbrev pub Taken : Option Pair → (ps qs ps' qs' : List Pair) → Type 0
Taken None ps qs ps' qs' = (ps ≡ []) × (qs ≡ []) × (ps' ≡ []) × (qs' ≡ [])
Taken (Some p) ps qs ps' qs' =
    (merge ps qs ≡ Plain.pair (pair_view p).0 (pair_view p).1 (merge ps' qs')) × IsTrue (pair_normal p)

-- where a pair was taken, fewer are left
abbrev pub Fewer : Option Pair → (ps qs ps' qs' : List Pair) → Type 0
Fewer None ps qs ps' qs' = Unit {0}
Fewer (Some p) ps qs ps' qs' = length ps' + length qs' < length ps + length qs

-- from two runs the pair with the least key is taken off; of two with equal keys both go, and the second is it
pub record TakesLeast (r : Option Pair) (ps qs ps' qs' : List Pair) : Type 0 where
  pub taken : Taken r ps qs ps' qs'
  pub first : IsRun ps'
  pub second : IsRun qs'
  pub fewer : Fewer r ps qs ps' qs'
