use Rattle.std.proofs.Common.{subst, Option, None, Some}
use Rattle.erl_term.specs.declared.term.Pair.{Pair}
use Rattle.erl_term.specs.Merging.{TakesLeast}
use Rattle.erl_term.proofs.MapRuns.{merged_more, merged_all, pair_pushed, run_is}
use Rattle.erl_term.proofs.maps.merged.Goals as goal

pub loop-pair-preserved : goal.loop-pair-preserved
loop-pair-preserved c =
    let t : TakesLeast (Some c.in-Some.pair) c.loop-pair.first.items c.loop-pair.second.items c.least.new.first.items
    c.least.new.second.items =
    subst (λ (r : Option Pair).
    TakesLeast r c.loop-pair.first.items c.loop-pair.second.items c.least.new.first.items c.least.new.second.items)
    c.in-Some.is c.least.ensures in
    record {
      merged = merged_more _ _ _ _ _ _ _ _ c.in_ok-push_back.ensures.items t c.loop-pair.invariant.merged;
      normal = pair_pushed _ _ _ c.in_ok-push_back.ensures.items c.loop-pair.invariant.normal t.taken.1;
      first = t.first;
      second = t.second;
    }

pub returns-clause-value : goal.returns-clause-value
returns-clause-value c =
    let t : TakesLeast None c.loop-pair.first.items c.loop-pair.second.items c.least.new.first.items
    c.least.new.second.items =
    subst (λ (r : Option Pair).
    TakesLeast r c.loop-pair.first.items c.loop-pair.second.items c.least.new.first.items c.least.new.second.items)
    c.in_default.is c.least.ensures in
    merged_all _ _ _ _ _ _ t c.loop-pair.invariant.merged

pub returns-clause-run : goal.returns-clause-run
returns-clause-run c =
    let t : TakesLeast None c.loop-pair.first.items c.loop-pair.second.items c.least.new.first.items
    c.least.new.second.items =
    subst (λ (r : Option Pair).
    TakesLeast r c.loop-pair.first.items c.loop-pair.second.items c.least.new.first.items c.least.new.second.items)
    c.in_default.is c.least.ensures in
    run_is _ _ _ (merged_all _ _ _ _ _ _ t c.loop-pair.invariant.merged) c.loop-pair.invariant.normal c.requires.first
    c.requires.second
