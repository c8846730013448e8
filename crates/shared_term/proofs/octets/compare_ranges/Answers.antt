use Rattle.std.proofs.Common.{◌≤◌, ◌+◌, ◌∙◌, sym, ap, drop, min, arith}
use Rattle.std.specs.Ordering.{bool_cmp, ordering_then}
use Rattle.std.specs.Cmp.Lexicographic.{slice_cmp}
use Rattle.erl_term.proofs.Comparing.{decided}
use Rattle.shared_term.proofs.Bits.{range_octet, ranges_step, ranges_end}
use Rattle.shared_term.specs.View.{range_view}
use Rattle.shared_term.proofs.octets.compare_ranges.Goals as goal

pub loop-done-preserved : goal.loop-done-preserved
loop-done-preserved c =
    let n = c.loop-done.done in
    let k = c.lesser-count.result in
    let m : n + k ≤ min c.args.a.now.length c.args.b.now.length = omega arith in
    record {
      within = omega arith;
      same =
          ap (λ o. ordering_then o
          (slice_cmp bool_cmp (drop (n + k) (range_view c.args.a.now))
          (drop (n + k) (range_view c.args.b.now)))) c.in-Equal.ensures
          ∙ sym (ranges_step c.args.a.now c.args.b.now n k c.octet.result c.octet-in-loop-done.result c.requires.first
          c.requires.second (omega arith) (omega arith) m
          (range_octet c.args.a.now _ n k c.octet.result (c.as_slice-xs.ensures ∙ c.deref.ensures)
          (omega (arith, m)) c.octet.ensures)
          (range_octet c.args.b.now _ n k c.octet-in-loop-done.result (c.as_slice-ys.ensures ∙ c.deref-2.ensures)
          (omega (arith, m)) c.octet-in-loop-done.ensures))
          ∙ c.loop-done.invariant.same;
    }

pub returns-in_default : goal.returns-in_default
returns-in_default c =
    let n = c.loop-done.done in
    let k = c.lesser-count.result in
    let m : n + k ≤ min c.args.a.now.length c.args.b.now.length = omega arith in
    let rest = slice_cmp bool_cmp (drop (n + k) (range_view c.args.a.now)) (drop (n + k) (range_view c.args.b.now)) in
    sym (decided c.cmp.result rest c.in_default.not-Equal) ∙ ap (λ o. ordering_then o rest) c.cmp.ensures
    ∙ sym (ranges_step c.args.a.now c.args.b.now n k c.octet.result c.octet-in-loop-done.result c.requires.first
    c.requires.second (omega arith) (omega arith) m
    (range_octet c.args.a.now _ n k c.octet.result (c.as_slice-xs.ensures ∙ c.deref.ensures)
    (omega (arith, m)) c.octet.ensures)
    (range_octet c.args.b.now _ n k c.octet-in-loop-done.result (c.as_slice-ys.ensures ∙ c.deref-2.ensures)
    (omega (arith, m)) c.octet-in-loop-done.ensures))
    ∙ c.loop-done.invariant.same

pub returns : goal.returns
returns c =
    c.cmp-2.ensures
    ∙ sym (ranges_end c.args.a.now c.args.b.now c.loop-done.done c.requires.first c.requires.second (omega arith)
    (omega arith))
    ∙ c.loop-done.invariant.same
