-- The order of values as it is computed: kinds first, and then what two values of one kind say.
use Rattle.std.specs.Prelude.{ℕ}
use Rattle.std.specs.Ordering.{nat_cmp, int_cmp, bool_cmp, ordering_then}
use Rattle.std.specs.Cmp.Lexicographic.{slice_cmp}
use Rattle.std.specs.declared.cmp.Ordering.{Ordering}
use Rattle.std.specs.declared.cmp.Ordering.TheVariants.{Equal}
use Rattle.erl_term.specs.Comparing.{sized, maps, heads}
use Rattle.erl_term.specs.TermOrder.{compare, compare_all, class_rank}
use Rattle.erl_term.specs.View.{class_view}
use Rattle.shared_term.specs.declared.value.Cell.{Cell}
use Rattle.shared_term.specs.declared.value.Local.{Local}
use Rattle.shared_term.specs.declared.value.MapPairs.{MapPairs}
use Rattle.shared_term.specs.declared.value.Row.{Row}
use Rattle.shared_term.specs.declared.value.Value.{Value, out-Value}
use Rattle.shared_term.specs.declared.value.ValuePair.{ValuePair}
use Rattle.shared_term.specs.declared.value.Value.TheOpen.{Value-F}
use Rattle.shared_term.specs.declared.value.Value.TheOpen as form
use Rattle.shared_term.specs.View.{view, row, pair_row, pairs_of, range_view, IsWhole}

-- item by item
abbrev pub cells : Cell → Cell → Ordering
cells c d = ordering_then (compare (view c.head) (view d.head)) (compare (view c.tail) (view d.tail))

-- module, site and arity, and then what was captured
abbrev pub locals : Local → Local → Ordering
locals f g =
    ordering_then (heads f.module f.site.0 f.arity g.module g.site.0 g.arity)
    (compare_all (row f.captured.items) (row g.captured.items))

-- two values of one kind; at others it says nothing
abbrev pub same_kind : Value-F Value Cell Local MapPairs Row ValuePair
    → Value-F Value Cell Local MapPairs Row ValuePair → Ordering
same_kind (form.Int a) (form.Int b) = int_cmp a b
same_kind (form.Atom a) (form.Atom b) = slice_cmp nat_cmp a.value b.value
same_kind (form.Cons c) (form.Cons d) = cells c.value d.value
same_kind (form.Tuple r) (form.Tuple s) = sized (row r.value.items) (row s.value.items)
same_kind (form.Map m) (form.Map n) = maps (pair_row (pairs_of m.value)) (pair_row (pairs_of n.value))
same_kind (form.Bits a) (form.Bits b) = slice_cmp bool_cmp (range_view a) (range_view b)
same_kind (form.Fun f) (form.Fun g) = locals f.value g.value
same_kind (form.Extern f) (form.Extern g) =
    ordering_then (slice_cmp nat_cmp f.value.module g.value.module)
    (ordering_then (slice_cmp nat_cmp f.value.name g.value.name) (nat_cmp f.value.arity g.value.arity))
same_kind (form.Pid a) (form.Pid b) = nat_cmp a b
same_kind (form.Reference a) (form.Reference b) = nat_cmp a b
same_kind (form.Port a) (form.Port b) = nat_cmp a b
same_kind (form.RawTrace a) (form.RawTrace b) = nat_cmp (class_rank (class_view a)) (class_rank (class_view b))
same_kind _ _ = Equal

-- and at two values
abbrev pub same_kind_of : Value → Value → Ordering
same_kind_of a b = same_kind (out-Value a) (out-Value b)

-- a cell of whole values
pub record IsCellWhole (c : Cell) : Type 0 where
  pub head : IsWhole c.head
  pub tail : IsWhole c.tail
