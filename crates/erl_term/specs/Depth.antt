-- How deep a term nests: what has no parts nests one deep, and a list's items and tail count one more than it.
use Rattle.std.specs.Prelude.{ℕ, suc, max}
use Rattle.erl_term.specs.Term.{Term, cons, tuple, map, fun, Terms, none, more, Pairs, no_pair, pair}

-- the depth of a term, and that of the deepest part where it is the rest of a list
pub record Depths : Type 0 where
  pub whole : ℕ
  pub rest : ℕ

-- what is no list nests as the rest of a list as deep as on its own
abbrev pub no_list : ℕ → Depths
no_list n = record { whole = n; rest = n }

unfoldable mutual
  pub depths : Term → Depths
  depths (cons x y) = record {
    whole = suc (max (depths x).whole (depths y).rest);
    rest = max (depths x).whole (depths y).rest;
  }
  depths (tuple ts) = no_list (suc (deepest ts))
  depths (map ps) = no_list (suc (deepest_pair ps))
  depths (fun m s a ts) = no_list (suc (deepest ts))
  depths _ = no_list 1

  pub deepest : Terms → ℕ
  deepest none = 0
  deepest (more t ts) = max (depths t).whole (deepest ts)

  pub deepest_pair : Pairs → ℕ
  deepest_pair no_pair = 0
  deepest_pair (pair k v ps) = max (max (depths k).whole (depths v).whole) (deepest_pair ps)

-- how deep a term nests
abbrev pub depth : Term → ℕ
depth t = (depths t).whole
