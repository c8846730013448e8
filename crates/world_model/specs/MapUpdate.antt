-- How pairs are put into a map, one after the other (Core Erlang, maps: this project's own reading).
use Rattle.std.specs.Prelude.{List, [], ◌∷◌, Bool, not, ◌&&◌, if◌then◌else◌, codes}
use Rattle.erl_term.specs.Term as T
use Rattle.erl_term.specs.Term.{Term, Pairs}
use Rattle.erl_term.specs.TermOrder.{same_term}
use Rattle.erl_term.specs.Terms.{Values, tagged, value_at, is_there, put}
use Rattle.world_model.specs.Run.{M, fail}
use Rattle.world_model.specs.Meaning.{single}

-- a pair that is put into a map; an exact one replaces the value of a key that is there
pub record Put : Type 0 where
  pub key : Term
  pub value : Term
  pub exact : Bool

-- pairs are put from left to right; the first exact one without its key raises badkey
unfoldable pub put_each : List Put → Pairs → M Values
unfolding put same_term
put_each [] ps = single (T.map ps)
put_each (q ∷ qs) ps =
    if q.exact && not (is_there (value_at ps q.key))
    then fail T.error (tagged (codes "badkey") q.key)
    else put_each qs (put q.key q.value ps)

-- only a map takes pairs
unfoldable pub put_all : List Put → Term → M Values
unfolding put_each
put_all qs (T.map ps) = put_each qs ps
put_all qs t = fail T.error (tagged (codes "badmap") t)
