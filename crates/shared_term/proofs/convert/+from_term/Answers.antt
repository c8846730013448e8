use Rattle.std.proofs.Common.{◌∙◌, rules, sym, ap, subst, map, All, IsTrue}
use Rattle.std.proofs.lemmas.List.Elements.{All-push}
use Rattle.erl_term.specs.Terms.{pairs}
use Rattle.erl_term.specs.View as Kept
use Rattle.erl_term.specs.WellFormed.{IsWellFormed, pairs_rise}
use Rattle.erl_term.specs.WellRows.{IsPairWellFormed}
use Rattle.shared_term.specs.View.{IsPairWhole}
use Rattle.erl_term.specs.declared.term.Term.{the_lemmas}
use Rattle.shared_term.proofs.Terms.{tail_well_formed, items_well_formed, tuple_parts, fun_parts, map_term_parts}
use Rattle.shared_term.proofs.Terms.{map_term_rises}
use Rattle.shared_term.proofs.Walks.{values_more}
use Rattle.shared_term.proofs.convert.+from_term.Goals as goal

pub from_term-from_term-requires : goal.from_term-from_term-requires
from_term-from_term-requires t c =
    let n : IsWellFormed c.get.result.now =
    subst IsWellFormed (sym c.get.ensures) (tail_well_formed _ _ _ c.in-List.is c.requires) in
    search (rules, the_lemmas)

pub from_term-put_before-requires : goal.from_term-put_before-requires
from_term-put_before-requires t c =
    let n : All IsWellFormed c.as_slice.result.now =
    subst (All IsWellFormed) (sym c.as_slice.ensures) (items_well_formed _ _ _ c.in-List.is c.requires) in
    search (rules, the_lemmas)

pub from_term-from_terms-requires : goal.from_term-from_terms-requires
from_term-from_terms-requires t c =
    let n : All IsWellFormed c.as_slice-in-Tuple.result.now =
    subst (All IsWellFormed) (sym c.as_slice-in-Tuple.ensures) (tuple_parts _ _ c.in-Tuple.is c.requires) in
    search (rules, the_lemmas)

pub from_term-from_terms-requires-in-Fun : goal.from_term-from_terms-requires-in-Fun
from_term-from_terms-requires-in-Fun t c =
    let n : All IsWellFormed c.as_slice-in-Fun.result.now =
    subst (All IsWellFormed) (sym c.as_slice-in-Fun.ensures) (fun_parts _ _ _ _ _ c.in-Fun.is c.requires) in
    search (rules, the_lemmas)

pub from_term-from_pairs-requires : goal.from_term-from_pairs-requires
from_term-from_pairs-requires t c =
    let n : All IsPairWellFormed c.as_slice-in-Map.result.now =
    subst (All IsPairWellFormed) (sym c.as_slice-in-Map.ensures) (map_term_parts _ _ c.in-Map.is c.requires) in
    search (rules, the_lemmas)

pub from_term-map_value-requires : goal.from_term-map_value-requires
from_term-map_value-requires t c = record {
  parts = c.in_ok-from_pairs-in-Map.ensures.whole;
  rising =
      subst (λ ps. IsTrue (pairs_rise (pairs ps)))
      (sym (c.in_ok-from_pairs-in-Map.ensures.same ∙ ap (map Kept.pair_view) c.as_slice-in-Map.ensures))
      (map_term_rises _ _ c.in-Map.is c.requires);
}

pub from_pairs-loop-pair-preserved : goal.from_pairs-loop-pair-preserved
from_pairs-loop-pair-preserved t c = record {
  same =
      values_more c.loop-pair.values c.push.new.self c.args.pairs.now c.loop-pair.pair-index _ c.pair-item.result
      c.loop-pair-test.true c.in_ok-push.ensures.ok
      c.loop-pair.invariant.same c.pair-item.is c.in_ok-key.ensures.same c.in_ok-value.ensures.same;
  whole =
      subst (All IsPairWhole) (sym c.in_ok-push.ensures.ok)
      (All-push IsPairWhole c.loop-pair.values _ c.loop-pair.invariant.whole
      (record { key = c.in_ok-key.ensures.whole; value = c.in_ok-value.ensures.whole }));
}
