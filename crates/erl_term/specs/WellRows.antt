-- Rows of well-formed terms, and pairs of them.
use Rattle.std.specs.Prelude.{Bool, true, ◌&&◌, List, IsTrue}
use Rattle.erl_term.specs.declared.term.Term.{Term}
use Rattle.erl_term.specs.declared.term.Pair.{Pair}
use Rattle.erl_term.specs.Term as Plain
use Rattle.erl_term.specs.WellFormed.{maps_rise, all_rise, IsWellFormed}
use Rattle.erl_term.specs.Comparing.{row, pair_row, AllNormal, PairsNormal}

-- terms in a row, each well formed
pub record AreWellFormed (ts : List Term) : Type 0 where
  pub normal : AllNormal ts
  pub rising : IsTrue (all_rise (row ts))

-- a pair of well-formed terms
pub record IsPairWellFormed (p : Pair) : Type 0 where
  pub key : IsWellFormed p.key
  pub value : IsWellFormed p.value

-- whether in each key and value the pairs of maps rise
abbrev pub parts_rise : Plain.Pairs → Bool
parts_rise Plain.no_pair = true
parts_rise (Plain.pair k v ps) = maps_rise k && maps_rise v && parts_rise ps

-- pairs of well-formed terms, in any order
pub record PairsWellFormed (ps : List Pair) : Type 0 where
  pub normal : PairsNormal ps
  pub rising : IsTrue (parts_rise (pair_row ps))
