-- Which terms are well formed: one plain term for each map, and one `Term` for each plain term.
use Rattle.std.specs.Prelude.{◌+◌, ◌/◌, List, [], ◌∷◌, length, drop, Bool, true, false, not, ◌&&◌, eqb, IsTrue}
use Rattle.std.specs.List.{list_all}
use Rattle.std.specs.declared.cmp.Ordering.{Ordering}
use Rattle.std.specs.declared.cmp.Ordering.TheVariants.{Less, Equal, Greater}
use Rattle.erl_term.specs.declared.term.Bits.{Bits}
use Rattle.erl_term.specs.declared.term.Term.{Term, fold-Term}
use Rattle.erl_term.specs.declared.term.Pair.{Pair, fold-Pair}
use Rattle.erl_term.specs.declared.term.Term.TheOpen.{Term-F, Pair-F}
use Rattle.erl_term.specs.declared.term.Term.TheOpen as form
use Rattle.erl_term.specs.Term as Plain
use Rattle.erl_term.specs.TermOrder.{compare}
use Rattle.erl_term.specs.BitString.{byte_bits}
use Rattle.erl_term.specs.View.{view}

-- the first is less
abbrev pub is_below : Ordering → Bool
is_below Less = true
is_below Equal = false
is_below Greater = false

-- whether the key comes before the first of the pairs
unfoldable pub comes_first : Plain.Term → Plain.Pairs → Bool
unfolding compare
comes_first k Plain.no_pair = true
comes_first k (Plain.pair l v ps) = is_below (compare k l)

-- whether in all parts the pairs of a map rise by their keys, so that its keys are distinct
unfoldable mutual
  pub maps_rise : Plain.Term → Bool
  maps_rise (Plain.cons x y) = maps_rise x && maps_rise y
  maps_rise (Plain.tuple ts) = all_rise ts
  maps_rise (Plain.map ps) = pairs_rise ps
  maps_rise (Plain.fun m s a ts) = all_rise ts
  maps_rise _ = true

  pub all_rise : Plain.Terms → Bool
  all_rise Plain.none = true
  all_rise (Plain.more t ts) = maps_rise t && all_rise ts

  pub pairs_rise : Plain.Pairs → Bool
  pairs_rise Plain.no_pair = true
  pairs_rise (Plain.pair k v ps) = comes_first k ps && maps_rise k && maps_rise v && pairs_rise ps

-- as many bytes as the bits need, and unused bits that are zero
unfoldable pub bits_fit : Bits → Bool
bits_fit b = eqb (length b.bytes) ((b.length + 7) / 8) && list_all not (drop b.length (byte_bits b.bytes))

-- the bits past the last one are zero, and no byte is left over
abbrev pub IsFull : Bits → Type 0
IsFull b = IsTrue (bits_fit b)

-- how a term is laid out: whether all its parts are in normal form, and whether it is a list with items
pub record Layout : Type 0 where
  pub normal : Bool
  pub listed : Bool

-- all of them are in normal form
abbrev pub all_normal : List Layout → Bool
all_normal [] = true
all_normal (l ∷ ls) = l.normal && all_normal ls

-- the same, of pairs
abbrev pub pairs_normal : List Bool → Bool
pairs_normal [] = true
pairs_normal (b ∷ bs) = b && pairs_normal bs

-- at least one item
abbrev pub has_items : List Layout → Bool
has_items [] = false
has_items (l ∷ ls) = true

-- what is no list with items
abbrev pub plain : Bool → Layout
plain b = record { normal = b; listed = false }

-- a list has an item, and its tail is no list with items
abbrev pub layout_step : Term-F Layout Bool → Layout
layout_step (form.List items tail) =
    record { normal = has_items items && all_normal items && tail.normal && not tail.listed; listed = true }
layout_step (form.Tuple items) = plain (all_normal items)
layout_step (form.Map ps) = plain (pairs_normal ps)
layout_step (form.Bits b) = plain (bits_fit b)
layout_step (form.Fun m site arity captured) = plain (all_normal captured)
layout_step _ = plain true

-- both sides of a pair are in normal form
abbrev pub pair_layout_step : Pair-F Layout Bool → Bool
pair_layout_step p = p.key.normal && p.value.normal

-- how a term is laid out
abbrev pub layout : Term → Layout
layout = fold-Term Layout Bool layout_step pair_layout_step

-- a pair is in normal form
abbrev pub pair_normal : Pair → Bool
pair_normal = fold-Pair Layout Bool layout_step pair_layout_step

-- each plain term has one value in normal form
abbrev pub IsNormal : Term → Type 0
IsNormal t = IsTrue (layout t).normal

-- in normal form, with maps whose keys rise
pub record IsWellFormed (t : Term) : Type 0 where
  pub normal : IsNormal t
  pub rising : IsTrue (maps_rise (view t))
