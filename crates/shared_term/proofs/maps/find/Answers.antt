use Rattle.std.proofs.Common.{◌≡◌, ◌<◌, ◌+◌, ◌-◌, ◌/◌, ◌∙◌, sym, length, below_more, arith}
use Rattle.std.specs.declared.cmp.Ordering.TheVariants.{Less, Equal, Greater}
use Rattle.shared_term.specs.Places.{stands}
use Rattle.shared_term.specs.View.{view}
use Rattle.shared_term.proofs.KeyPlaces.{stands_beyond, stands_at, less_after, greater_before}
use Rattle.shared_term.proofs.maps.find.Goals as goal

pub loop-low-init : goal.loop-low-init
loop-low-init c = record {
  ordered = omega arith;
  within = omega arith;
  below = λ i l. absurd (omega (arith, l));
  above = λ i l. stands_beyond (view c.args.key.now) c.args.pairs.now i l;
}

pub loop-low-preserved-in-Less : goal.loop-low-preserved-in-Less
loop-low-preserved-in-Less c =
    let k = view c.args.key.now in
    let ps = c.args.pairs.now in
    let m = c.loop-low.low + (c.loop-low.high - c.loop-low.low) / 2 in
    let within : m < length ps = omega arith in
    let here : stands k ps m ≡ Less = stands_at k ps m c.index-pairs-middle.result within ∙ sym c.in-Less.ensures in
    record {
      ordered = omega arith;
      within = omega arith;
      below = c.loop-low.invariant.below;
      above = λ i l. less_after k ps c.requires.pairs.rising m i here l;
    }

pub returns-in-Equal-clause-found : goal.returns-in-Equal-clause-found
returns-in-Equal-clause-found c =
    let k = view c.args.key.now in
    let ps = c.args.pairs.now in
    let m = c.loop-low.low + (c.loop-low.high - c.loop-low.low) / 2 in
    let within : m < length ps = omega arith in
    let here : stands k ps m ≡ Equal = stands_at k ps m c.index-pairs-middle.result within ∙ sym c.in-Equal.ensures in
    record {
      within = within;
      below = λ i l. greater_before k ps c.requires.pairs.rising i m
          (λ e. let f : Equal ≡ Less = sym here ∙ e in absurd (cc)) l;
      here = here;
    }

pub loop-low-preserved : goal.loop-low-preserved
loop-low-preserved c =
    let k = view c.args.key.now in
    let ps = c.args.pairs.now in
    let m = c.loop-low.low + (c.loop-low.high - c.loop-low.low) / 2 in
    let within : m < length ps = omega arith in
    let here : stands k ps m ≡ Greater =
    stands_at k ps m c.index-pairs-middle.result within ∙ sym c.in-Greater.ensures in
    record {
      ordered = omega arith;
      within = omega arith;
      below =
          below_more (λ i. stands k ps i ≡ Greater) m
          (λ i l. greater_before k ps c.requires.pairs.rising i m
          (λ e. let f : Greater ≡ Less = sym here ∙ e in absurd (cc)) l) here;
      above = c.loop-low.invariant.above;
    }
