-- The plain term that a value stands for, and whether what is kept beside its parts is right.
use Rattle.std.specs.Prelude.{ℕ, ◌+◌, ◌*◌, List, [], ◌∷◌, map, length, take, drop, Bool, true, ◌&&◌, eqb, leb, IsTrue}
use Rattle.std.specs.List.{All}
use Rattle.erl_term.specs.Term as Plain
use Rattle.erl_term.specs.Terms.{terms, pairs}
use Rattle.erl_term.specs.Depth.{depths, deepest, deepest_pair}
use Rattle.erl_term.specs.View.{class_view}
use Rattle.erl_term.specs.WellFormed.{maps_rise, pairs_rise}
use Rattle.erl_term.specs.BitString.{byte_bits}
use Rattle.shared_term.specs.declared.value.BitRange.{BitRange}
use Rattle.shared_term.specs.declared.value.External.{External}
use Rattle.shared_term.specs.declared.value.Value.{Value, fold-Value}
use Rattle.shared_term.specs.declared.value.ValuePair.{ValuePair}
use Rattle.shared_term.specs.declared.value.MapPairs.{MapPairs, out-MapPairs}
use Rattle.shared_term.specs.declared.value.Value.TheOpen.{Value-F, Cell-F, Row-F, MapPairs-F, ValuePair-F, Local-F}
use Rattle.shared_term.specs.declared.value.Value.TheOpen as form

-- the bits of a range, which stands within its bytes
abbrev pub range_view : BitRange → List Bool
range_view b = take b.length (drop b.from (byte_bits b.bytes.value))

-- whether it does
abbrev pub is_within : BitRange → Bool
is_within b = leb (b.from + b.length) (8 * length b.bytes.value)

-- the term of a value; right: in all its parts each depth that is kept is that of the term, and bits stand within
-- their bytes
pub record Reading : Type 0 where
  pub term : Plain.Term
  pub right : Bool

-- the same of values in a row
pub record RowReading : Type 0 where
  pub terms : List Plain.Term
  pub right : Bool

-- of a key and its value
pub record PairReading : Type 0 where
  pub pair : Plain.Term × Plain.Term
  pub right : Bool

-- and of the pairs of a map
pub record MapReading : Type 0 where
  pub pairs : List (Plain.Term × Plain.Term)
  pub right : Bool

-- a term, and whether all is right
abbrev pub reads : Plain.Term → Bool → Reading
reads t right = record { term = t; right = right }

-- whether all of them are right
abbrev pub all_right : List Reading → Bool
all_right [] = true
all_right (r ∷ rs) = r.right && all_right rs

-- and of pairs
abbrev pub pairs_right : List PairReading → Bool
pairs_right [] = true
pairs_right (r ∷ rs) = r.right && pairs_right rs

-- what each form reads as, once its parts have been read
abbrev pub value_step : Value-F Reading Reading Reading MapReading RowReading PairReading → Reading
value_step (form.Int z) = reads (Plain.int z) true
value_step (form.Atom a) = reads (Plain.atom a.value) true
value_step form.Nil = reads Plain.nil true
value_step (form.Cons c) = c.value
value_step (form.Tuple r) = reads (Plain.tuple (terms r.value.terms)) r.value.right
value_step (form.Map m) = reads (Plain.map (pairs m.value.pairs)) m.value.right
value_step (form.Bits b) = reads (Plain.bits (range_view b)) (is_within b)
value_step (form.Fun f) = f.value
value_step (form.Extern f) = reads (Plain.extern f.value.module f.value.name f.value.arity) true
value_step (form.Pid n) = reads (Plain.pid n) true
value_step (form.Reference n) = reads (Plain.reference n) true
value_step (form.Port n) = reads (Plain.port n) true
value_step (form.RawTrace c) = reads (Plain.raw_trace (class_view c)) true

-- a cell, with the depth that it keeps
abbrev pub cell_step : Cell-F Reading Reading Reading MapReading RowReading PairReading → Reading
cell_step c =
    let cell : Plain.Term = Plain.cons c.head.term c.tail.term in
    reads cell (eqb c.deepest (depths cell).rest && c.head.right && c.tail.right)

-- a fun of a module
abbrev pub local_step : Local-F Reading Reading Reading MapReading RowReading PairReading → Reading
local_step f = reads (Plain.fun f.module f.site.0 f.arity (terms f.captured.terms)) f.captured.right

-- the pairs of a map
abbrev pub map_step : MapPairs-F Reading Reading Reading MapReading RowReading PairReading → MapReading
map_step m =
    let ps : List (Plain.Term × Plain.Term) = map (λ p. p.pair) m.pairs in
    record { pairs = ps; right = eqb m.deepest (deepest_pair (pairs ps)) && pairs_right m.pairs }

-- values in a row
abbrev pub row_step : Row-F Reading Reading Reading MapReading RowReading PairReading → RowReading
row_step r =
    let ts : List Plain.Term = map (λ v. v.term) r.items in
    record { terms = ts; right = eqb r.deepest (deepest (terms ts)) && all_right r.items }

-- a key and its value
abbrev pub pair_step : ValuePair-F Reading Reading Reading MapReading RowReading PairReading → PairReading
pair_step p = record { pair = (p.key.term, p.value.term); right = p.key.right && p.value.right }

-- how a value reads
abbrev pub reading : Value → Reading
reading =
    fold-Value Reading Reading Reading MapReading RowReading PairReading value_step cell_step local_step map_step
    row_step
    pair_step

-- the plain term that a value stands for
abbrev pub view : Value → Plain.Term
view v = (reading v).term

-- and a pair of them
abbrev pub pair_view : ValuePair → Plain.Term × Plain.Term
pair_view p = (view p.key, view p.value)

-- the terms of values in a row, and the pairs of a map
abbrev pub row : List Value → Plain.Terms
row vs = terms (map view vs)

-- the pairs of a map as it has them
abbrev pub pair_row : List ValuePair → Plain.Pairs
pair_row ps = pairs (map pair_view ps)

-- the pairs of a map
abbrev pub pairs_of : MapPairs → List ValuePair
pairs_of m = (out-MapPairs m).pairs

-- what is kept is right, and the pairs of its maps rise by their keys
pub record IsWhole (v : Value) : Type 0 where
  pub right : IsTrue (reading v).right
  pub rising : IsTrue (maps_rise (view v))

-- a pair of whole values
pub record IsPairWhole (p : ValuePair) : Type 0 where
  pub key : IsWhole p.key
  pub value : IsWhole p.value

-- pairs of whole values whose keys rise, as those of a map do
pub record AreMapPairs (ps : List ValuePair) : Type 0 where
  pub parts : All IsPairWhole ps
  pub rising : IsTrue (pairs_rise (pair_row ps))
