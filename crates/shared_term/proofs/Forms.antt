-- Values by their forms: how they read.
use Rattle.std.proofs.Common.{◌≡◌, refl, sym, ap, ap₂, ◌∙◌, subst, List, [], ◌∷◌, map, Bool, ◌&&◌}
use Rattle.std.proofs.lemmas.Simd.{map-map}
use Rattle.std.specs.declared.rc.Rc.{Rc}
use Rattle.std.specs.declared.alloc.Global.{Global}
use Rattle.erl_term.specs.Term as P
use Rattle.erl_term.specs.Terms.{terms, pairs}
use Rattle.erl_term.specs.View.{class_view}
use Rattle.shared_term.specs.declared.value.Value.{Value, out-Value, map-Value, fold_out-Value}
use Rattle.shared_term.specs.declared.value.Value.TheOpen.{Value-F}
use Rattle.shared_term.specs.declared.value.Value.TheOpen as form
use Rattle.shared_term.specs.declared.value.Value.TheVariants as V
use Rattle.shared_term.specs.declared.value.BitRange.{BitRange}
use Rattle.shared_term.specs.declared.value.Cell.{Cell, fold-Cell, fold_out-Cell}
use Rattle.shared_term.specs.declared.value.Local.{Local, fold-Local, fold_out-Local}
use Rattle.shared_term.specs.declared.value.MapPairs.{MapPairs, fold-MapPairs, fold_out-MapPairs, out-MapPairs}
use Rattle.shared_term.specs.declared.value.MapPairs.{map-MapPairs}
use Rattle.shared_term.specs.declared.value.Row.{Row, fold-Row, fold_out-Row, out-Row, map-Row}
use Rattle.shared_term.specs.declared.value.ValuePair.{ValuePair, fold-ValuePair, fold_out-ValuePair}
use Rattle.shared_term.specs.View.{Reading, MapReading, RowReading, PairReading, view, reading, pair_view, row}
use Rattle.shared_term.specs.View.{pair_row, pairs_of, range_view, value_step, cell_step, local_step, map_step}
use Rattle.shared_term.specs.View.{row_step, pair_step}

abbrev pub cell_reading : Cell → Reading
cell_reading = fold-Cell Reading Reading Reading MapReading RowReading PairReading value_step cell_step local_step
    map_step row_step pair_step

abbrev pub local_reading : Local → Reading
local_reading = fold-Local Reading Reading Reading MapReading RowReading PairReading value_step cell_step local_step
    map_step row_step pair_step

abbrev pub map_reading : MapPairs → MapReading
map_reading = fold-MapPairs Reading Reading Reading MapReading RowReading PairReading value_step cell_step local_step
    map_step row_step pair_step

abbrev pub row_reading : Row → RowReading
row_reading = fold-Row Reading Reading Reading MapReading RowReading PairReading value_step cell_step local_step
    map_step row_step pair_step

abbrev pub pair_reading : ValuePair → PairReading
pair_reading = fold-ValuePair Reading Reading Reading MapReading RowReading PairReading value_step cell_step
    local_step map_step row_step pair_step

-- the reading of a value by its form
abbrev pub seen : Value-F Value Cell Local MapPairs Row ValuePair → Reading
seen f = value_step
    (map-Value Value Cell Local MapPairs Row ValuePair Reading Reading Reading MapReading RowReading PairReading
    reading cell_reading local_reading map_reading row_reading pair_reading f)

pub reading-out : (v : Value) → reading v ≡ seen (out-Value v)
reading-out v = fold_out-Value Reading Reading Reading MapReading RowReading PairReading value_step cell_step
    local_step map_step row_step pair_step v

pub row-out : (r : Row)
    → row_reading r ≡ row_step
    (map-Row Value Cell Local MapPairs Row ValuePair Reading Reading Reading MapReading RowReading PairReading
    reading cell_reading local_reading map_reading row_reading pair_reading (out-Row r))
row-out r = fold_out-Row Reading Reading Reading MapReading RowReading PairReading value_step cell_step local_step
    map_step row_step pair_step r

-- a tuple reads as its row does
pub tuple-out : (v : Value) (row : Rc Row Global) → v ≡ V.Tuple row → reading v ≡ seen (form.Tuple row)
tuple-out v row e = reading-out v ∙ ap seen (ap out-Value e ∙ V.outs-Tuple row)

pub row_terms : (r : Row) → (row_reading r).terms ≡ map view r.items
row_terms r = ap (λ (q : RowReading). q.terms) (row-out r) ∙ map-map (λ (q : Reading). q.term) reading r.items

-- a fun's reading, by what it captured
pub fun-out : (v : Value) (fun : Rc Local Global) → v ≡ V.Fun fun
    → reading v ≡ local_step
    (record {
      «module» = fun.value.«module»;
      site = fun.value.site;
      arity = fun.value.arity;
      captured = row_reading
          fun.value.captured;
    })
fun-out v fun e = reading-out v ∙ ap seen (ap out-Value e ∙ V.outs-Fun fun)
    ∙ fold_out-Local Reading Reading Reading MapReading RowReading PairReading value_step cell_step local_step
    map_step row_step pair_step fun.value

-- a bit string's reading, by its range
pub bits-out : (v : Value) (b : BitRange) → v ≡ V.Bits b → reading v ≡ seen (form.Bits b)
bits-out v b e = reading-out v ∙ ap seen (ap out-Value e ∙ V.outs-Bits b)

-- a cell reads as its item and what follows it
pub cell-out : (c : Cell)
    → cell_reading c ≡ cell_step (record { deepest = c.deepest; head = reading c.head; tail = reading c.tail })
cell-out c = fold_out-Cell Reading Reading Reading MapReading RowReading PairReading value_step cell_step local_step
    map_step row_step pair_step c

pub local-out : (f : Local)
    → local_reading f ≡ local_step
    (record { «module» = f.«module»; site = f.site; arity = f.arity; captured = row_reading f.captured })
local-out f = fold_out-Local Reading Reading Reading MapReading RowReading PairReading value_step cell_step local_step
    map_step row_step pair_step f

-- a pair reads as its key and its value
pub pair-out : (p : ValuePair) → pair_reading p ≡ pair_step (record { key = reading p.key; value = reading p.value })
pair-out p = fold_out-ValuePair Reading Reading Reading MapReading RowReading PairReading value_step cell_step
    local_step map_step row_step pair_step p

pub pair_views : (ps : List ValuePair) → map (λ (q : PairReading). q.pair) (map pair_reading ps) ≡ map pair_view ps
pair_views [] = refl
pair_views (p ∷ ps) = ap₂ (λ x xs. x ∷ xs) (ap (λ (q : PairReading). q.pair) (pair-out p)) (pair_views ps)

-- the pairs of a map
pub map-out : (m : MapPairs)
    → map_reading m ≡ map_step
    (map-MapPairs Value Cell Local MapPairs Row ValuePair Reading Reading Reading MapReading RowReading PairReading
    reading cell_reading local_reading map_reading row_reading pair_reading (out-MapPairs m))
map-out m = fold_out-MapPairs Reading Reading Reading MapReading RowReading PairReading value_step cell_step
    local_step map_step row_step pair_step m

pub map_pairs : (m : MapPairs) → (map_reading m).pairs ≡ map pair_view (pairs_of m)
map_pairs m = ap (λ (q : MapReading). q.pairs) (map-out m) ∙ pair_views (pairs_of m)

-- the term of a value by its form
abbrev pub shown : Value-F Value Cell Local MapPairs Row ValuePair → P.Term
shown (form.Int z) = P.int z
shown (form.Atom a) = P.atom a.value
shown form.Nil = P.nil
shown (form.Cons c) = P.cons (view c.value.head) (view c.value.tail)
shown (form.Tuple r) = P.tuple (row r.value.items)
shown (form.Map m) = P.map (pair_row (pairs_of m.value))
shown (form.Bits b) = P.bits (range_view b)
shown (form.Fun f) = P.fun f.value.«module» f.value.site.0 f.value.arity (row f.value.captured.items)
shown (form.Extern f) = P.extern f.value.«module» f.value.name f.value.arity
shown (form.Pid n) = P.pid n
shown (form.Reference n) = P.reference n
shown (form.Port n) = P.port n
shown (form.RawTrace c) = P.raw_trace (class_view c)

seen-shown : (f : Value-F Value Cell Local MapPairs Row ValuePair) → (seen f).term ≡ shown f
seen-shown (form.Cons c) = ap (λ (q : Reading). q.term) (cell-out c.value)
seen-shown (form.Tuple r) = ap (λ ts. P.tuple (terms ts)) (row_terms r.value)
seen-shown (form.Map m) = ap (λ ps. P.map (pairs ps)) (map_pairs m.value)
seen-shown (form.Fun f) =
    ap (λ (q : Reading). q.term) (local-out f.value)
    ∙ ap (λ ts. P.fun f.value.«module» f.value.site.0 f.value.arity (terms ts)) (row_terms f.value.captured)
seen-shown (form.Int z) = refl
seen-shown (form.Atom a) = refl
seen-shown form.Nil = refl
seen-shown (form.Bits b) = refl
seen-shown (form.Extern f) = refl
seen-shown (form.Pid n) = refl
seen-shown (form.Reference n) = refl
seen-shown (form.Port n) = refl
seen-shown (form.RawTrace c) = refl

pub view-out : (v : Value) → view v ≡ shown (out-Value v)
view-out v = ap (λ (q : Reading). q.term) (reading-out v) ∙ seen-shown (out-Value v)
