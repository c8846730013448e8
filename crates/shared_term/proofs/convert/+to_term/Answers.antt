use Rattle.std.proofs.Common.{◌≡◌, ◌∙◌, rules, sym, ap, subst, refl, All, IsTrue, IfOk, length, [], ◌∷◌}
use Rattle.std.proofs.Common.{length-append, arith}
use Rattle.std.proofs.lemmas.List.Elements.{All-push}
use Rattle.erl_term.specs.View as Kept
use Rattle.erl_term.proofs.Forms.{NoCell}
use Rattle.erl_term.specs.Term as P
use Rattle.erl_term.specs.Terms.{terms, pairs}
use Rattle.erl_term.specs.WellFormed.{pairs_rise, IsWellFormed}
use Rattle.erl_term.specs.WellRows.{IsPairWellFormed}
use Rattle.shared_term.specs.Comparing.{IsCellWhole}
use Rattle.shared_term.specs.View.{IsWhole, IsPairWhole, AreMapPairs}
use Rattle.shared_term.specs.declared.value.Value.{the_lemmas}
use Rattle.shared_term.proofs.Pairs.{cell_whole, map_whole, map_reads}
use Rattle.shared_term.proofs.Rows.{tuple_whole, fun_whole, tuple_view, fun_view}
use Rattle.shared_term.proofs.Terms.{not_listed}
use Rattle.shared_term.proofs.Walks.{list_step, list_end, pairs_more, no_cons}
use Rattle.shared_term.proofs.convert.+to_term.Goals as goal

pub to_term-to_list-requires : goal.to_term-to_list-requires
to_term-to_list-requires t c =
    let n : IsCellWhole c.deref-in-Cons.result.now = cell_whole _ _ _ c.in-Cons.is c.deref-in-Cons.ensures c.requires in
    search (rules, the_lemmas)

pub to_term-to_terms-requires : goal.to_term-to_terms-requires
to_term-to_terms-requires t c =
    let n : All IsWhole c.as_slice.result.now =
    tuple_whole _ _ _ _ c.in-Tuple.is c.deref-in-Tuple.ensures c.as_slice.ensures c.requires in
    search (rules, the_lemmas)

pub to_term-to_pairs-requires : goal.to_term-to_pairs-requires
to_term-to_pairs-requires t c =
    let m : AreMapPairs c.as_slice-in-Map.result.now =
    map_whole _ _ _ _ c.in-Map.is c.deref-in-Map.ensures c.as_slice-in-Map.ensures c.requires in
    let n : All IsPairWhole c.as_slice-in-Map.result.now = m.parts in
    search (rules, the_lemmas)

pub to_term-to_fun-requires : goal.to_term-to_fun-requires
to_term-to_fun-requires t c =
    let n : All IsWhole c.deref-in-Fun.result.now.captured.items =
    fun_whole _ _ _ _ c.in-Fun.is c.deref-in-Fun.ensures refl c.requires in
    search (rules, the_lemmas)

pub to_term-map_term-requires-clause-rising : goal.to_term-map_term-requires-clause-rising
to_term-map_term-requires-clause-rising t c =
    subst (λ ps. IsTrue (pairs_rise (pairs ps))) (sym c.in_ok-to_pairs-in-Map.ensures.same)
    (map_whole _ _ _ _ c.in-Map.is c.deref-in-Map.ensures c.as_slice-in-Map.ensures c.requires).rising

pub to_term-returns-in_ok-to_terms-in-Tuple-clause-same : goal.to_term-returns-in_ok-to_terms-in-Tuple-clause-same
to_term-returns-in_ok-to_terms-in-Tuple-clause-same t c =
    c.tuple_term.ensures.same ∙ ap (λ ts. P.tuple (terms ts)) c.in_ok-to_terms-in-Tuple.ensures.same
    ∙ sym (tuple_view _ _ _ _ c.in-Tuple.is c.deref-in-Tuple.ensures c.as_slice.ensures)

pub to_term-returns-in_ok-to_pairs-in-Map-clause-same : goal.to_term-returns-in_ok-to_pairs-in-Map-clause-same
to_term-returns-in_ok-to_pairs-in-Map-clause-same t c =
    c.map_term.ensures.same ∙ ap (λ ps. P.map (pairs ps)) c.in_ok-to_pairs-in-Map.ensures.same
    ∙ sym (map_reads _ _ _ _ c.in-Map.is c.deref-in-Map.ensures c.as_slice-in-Map.ensures)

pub to_list-along-preserved : goal.to_list-along-preserved
to_list-along-preserved t c = record {
  same =
      list_step c.along.items c.push.new.self c.in_ok-to_term.field-0 c.along.at.now _ _ c.in_ok-push.ensures.ok
      c.in_ok-to_term.ensures.same
      c.in-Cons.is c.deref-at.ensures
      ∙ c.along.invariant.same;
  well_formed =
      subst (All IsWellFormed) (sym c.in_ok-push.ensures.ok)
      (All-push IsWellFormed c.along.items c.in_ok-to_term.field-0 c.along.invariant.well_formed
      c.in_ok-to_term.ensures.well_formed);
  whole = cell_whole _ _ _ c.in-Cons.is c.deref-at.ensures c.along.invariant.whole.tail;
  size = search (rules, the_lemmas);
}

pub to_list-list_term-requires : goal.to_list-list_term-requires
to_list-list_term-requires t c =
    record {
      items =
          subst (All IsWellFormed) (sym c.in_ok-push.ensures.ok)
          (All-push IsWellFormed c.along.items c.in_ok-to_term.field-0 c.along.invariant.well_formed
          c.in_ok-to_term.ensures.well_formed);
      some =
          omega (arith, ap length c.in_ok-push.ensures.ok, length-append c.along.items (c.in_ok-to_term.field-0 ∷ []));
      tail = c.in_ok-tail-in_default.ensures.well_formed;
      no_list =
          not_listed c.in_ok-tail-in_default.tail c.in_ok-tail-in_default.ensures.well_formed
          (subst NoCell (sym c.in_ok-tail-in_default.ensures.same) (no_cons c.along.at.now.tail c.in_default.not-Cons));
    }

pub to_list-returns-in_default : goal.to_list-returns-in_default
to_list-returns-in_default t c = record {
  same =
      subst (λ r. IfOk c.list_term.result (λ term. Kept.view term ≡ r))
      (list_end c.along.items c.push.new.self c.in_ok-to_term.field-0 c.in_ok-tail-in_default.tail c.along.at.now
      c.in_ok-push.ensures.ok
      c.in_ok-to_term.ensures.same c.in_ok-tail-in_default.ensures.same
      ∙ c.along.invariant.same)
      c.list_term.ensures.same;
  well_formed = c.list_term.ensures.well_formed;
}

pub to_pairs-loop-pair-preserved : goal.to_pairs-loop-pair-preserved
to_pairs-loop-pair-preserved t c = record {
  same =
      pairs_more c.loop-pair.pairs c.push.new.self c.args.values.now c.loop-pair.pair-index _ c.pair-item.result
      c.loop-pair-test.true c.in_ok-push.ensures.ok
      c.loop-pair.invariant.same c.pair-item.is c.in_ok-key.ensures.same c.in_ok-value.ensures.same;
  well_formed =
      subst (All IsPairWellFormed) (sym c.in_ok-push.ensures.ok)
      (All-push IsPairWellFormed c.loop-pair.pairs _ c.loop-pair.invariant.well_formed
      (record { key = c.in_ok-key.ensures.well_formed; value = c.in_ok-value.ensures.well_formed }));
}

pub to_term-returns-in-Fun-clause-same : goal.to_term-returns-in-Fun-clause-same
to_term-returns-in-Fun-clause-same t c =
    subst (λ r. IfOk c.to_fun.result (λ term. Kept.view term ≡ r))
    (sym (fun_view _ _ _ _ c.in-Fun.is c.deref-in-Fun.ensures refl)) c.to_fun.ensures.same
