use Rattle.std.proofs.Common.{◌∙◌, rules, sym, ap, refl, All}
use Rattle.std.specs.Ordering.{ordering_then}
use Rattle.erl_term.proofs.Comparing.{decided}
use Rattle.erl_term.specs.TermOrder.{compare}
use Rattle.shared_term.specs.Comparing.{IsCellWhole}
use Rattle.shared_term.specs.View.{view, IsWhole, IsPairWhole, AreMapPairs}
use Rattle.shared_term.specs.declared.value.Value.{the_lemmas}
use Rattle.shared_term.proofs.Comparing.{cells_step, of_same}
use Rattle.shared_term.proofs.Pairs.{cell_whole, map_whole}
use Rattle.shared_term.proofs.Rows.{tuple_whole, fun_whole}
use Rattle.shared_term.proofs.order.+order.Goals as goal

pub compare-returns-in-Int-b : goal.compare-returns-in-Int-b
compare-returns-in-Int-b t c =
    of_same c.args.a.now c.args.b.now c.cmp.result (search (rules, the_lemmas)) (search (rules, the_lemmas))

pub compare_cells-compare-requires : goal.compare_cells-compare-requires
compare_cells-compare-requires t c =
    let n : IsWhole c.along.x.now.head = c.along.invariant.first.head in
    let m : IsWhole c.along.y.now.head = c.along.invariant.second.head in
    search (rules, the_lemmas)

pub compare_cells-returns-in_default : goal.compare_cells-returns-in_default
compare_cells-returns-in_default t c =
    sym (decided c.compare.result (compare (view c.along.x.now.tail) (view c.along.y.now.tail)) c.in_default.not-Equal)
    ∙ ap (λ o. ordering_then o (compare (view c.along.x.now.tail) (view c.along.y.now.tail))) c.compare.ensures
    ∙ c.along.invariant.same

pub compare_cells-compare-requires-in_default-2 : goal.compare_cells-compare-requires-in_default-2
compare_cells-compare-requires-in_default-2 t c =
    let n : IsWhole c.along.x.now.tail = c.along.invariant.first.tail in
    let m : IsWhole c.along.y.now.tail = c.along.invariant.second.tail in
    search (rules, the_lemmas)

pub compare_cells-returns-in_default-2 : goal.compare_cells-returns-in_default-2
compare_cells-returns-in_default-2 t c =
    c.compare-in_default-2.ensures
    ∙ ap (λ o. ordering_then o (compare (view c.along.x.now.tail) (view c.along.y.now.tail))) c.in-Equal.ensures
    ∙ c.along.invariant.same

pub compare_same_kind-compare_cells-requires : goal.compare_same_kind-compare_cells-requires
compare_same_kind-compare_cells-requires t c =
    let n : IsCellWhole c.deref-in-Cons-Cons.result.now =
    cell_whole _ _ _ c.in-Cons-Cons.is-0 c.deref-in-Cons-Cons.ensures c.requires.first in
    let m : IsCellWhole c.deref-in-Cons-Cons-2.result.now =
    cell_whole _ _ _ c.in-Cons-Cons.is-1 c.deref-in-Cons-Cons-2.ensures c.requires.second in
    search (rules, the_lemmas)

pub compare_same_kind-compare_sized-requires : goal.compare_same_kind-compare_sized-requires
compare_same_kind-compare_sized-requires t c =
    let n : All IsWhole c.as_slice.result.now =
    tuple_whole _ _ _ _ c.in-Tuple-Tuple.is-0 c.deref-in-Tuple-Tuple.ensures c.as_slice.ensures c.requires.first in
    let m : All IsWhole c.as_slice-in-Tuple-Tuple.result.now =
    tuple_whole _ _ _ _ c.in-Tuple-Tuple.is-1 c.deref-in-Tuple-Tuple-2.ensures c.as_slice-in-Tuple-Tuple.ensures
    c.requires.second in
    search (rules, the_lemmas)

pub compare_same_kind-compare_maps-requires : goal.compare_same_kind-compare_maps-requires
compare_same_kind-compare_maps-requires t c =
    let n : AreMapPairs c.as_slice-in-Map-Map.result.now =
    map_whole _ _ _ _ c.in-Map-Map.is-0 c.deref-in-Map-Map.ensures c.as_slice-in-Map-Map.ensures c.requires.first in
    let m : AreMapPairs c.as_slice-in-Map-Map-2.result.now =
    map_whole _ _ _ _ c.in-Map-Map.is-1 c.deref-in-Map-Map-2.ensures c.as_slice-in-Map-Map-2.ensures c.requires.second
    in
    let o : All IsPairWhole c.as_slice-in-Map-Map.result.now = n.parts in
    let p : All IsPairWhole c.as_slice-in-Map-Map-2.result.now = m.parts in
    search (rules, the_lemmas)

pub compare_same_kind-compare_locals-requires : goal.compare_same_kind-compare_locals-requires
compare_same_kind-compare_locals-requires t c =
    let n : All IsWhole c.deref-in-Fun-Fun.result.now.captured.items =
    fun_whole _ _ _ _ c.in-Fun-Fun.is-0 c.deref-in-Fun-Fun.ensures refl c.requires.first in
    let m : All IsWhole c.deref-in-Fun-Fun-2.result.now.captured.items =
    fun_whole _ _ _ _ c.in-Fun-Fun.is-1 c.deref-in-Fun-Fun-2.ensures refl c.requires.second in
    search (rules, the_lemmas)

pub compare_cells-along-preserved : goal.compare_cells-along-preserved
compare_cells-along-preserved t c = record {
  same =
      cells_step c.along.x.now c.along.y.now _ _ _ _ c.in-Cons-Cons.is-0 c.in-Cons-Cons.is-1 c.deref-x.ensures
      c.deref-y.ensures c.in-Equal.ensures
      ∙ c.along.invariant.same;
  first = cell_whole c.along.x.now.tail _ _ c.in-Cons-Cons.is-0 c.deref-x.ensures c.along.invariant.first.tail;
  second = cell_whole c.along.y.now.tail _ _ c.in-Cons-Cons.is-1 c.deref-y.ensures c.along.invariant.second.tail;
  size = search (rules, the_lemmas);
  other_size = search (rules, the_lemmas);
}
