use Rattle.std.proofs.Common.{arith, ◌≡◌, ap, ◌∙◌, length, ◌-◌, refl}
use Rattle.std.proofs.lemmas.List.{length-drop, length-take-le}
use Rattle.core_lex.specs.Tokens.{tokens}
use Rattle.core_lex.proofs.Scanning.{read_more, is_last, goes_on}
use Rattle.core_lex.proofs.scan.scan.Goals as goal

pub returns-then-branch-clause-value : goal.returns-then-branch-clause-value
unfolding tokens
returns-then-branch-clause-value c =
    let left : length c.behind-rest.result.now ≡ length c.args.text.now - c.loop-at.at =
    ap length c.behind-rest.ensures ∙ length-drop c.loop-at.at c.args.text.now in
    is_last c.keep.new.found _ _ _ c.if-branch.true
    (read_more c.args.text.now c.behind-rest.result.now c.loop-at.at c.in_ok-next.next.size c.loop-at.byte
    c.byte_len.result c.in_ok-next.next.kind c.loop-at.place _
    c.loop-at.found c.keep.new.found _ c.in_ok-keep.field-0 c.behind-rest.ensures
    (omega arith) c.in_ok-next.ensures.positive c.in_ok-next.ensures.fits c.in_ok-next.ensures.value
    c.byte_len.ensures.value refl c.in_ok-keep.ensures.kept c.loop-at.invariant.rest)

pub loop-at-preserved : goal.loop-at-preserved
loop-at-preserved c =
    let left : length c.behind-rest.result.now ≡ length c.args.text.now - c.loop-at.at =
    ap length c.behind-rest.ensures ∙ length-drop c.loop-at.at c.args.text.now in
    let size = length-take-le c.in_ok-next.next.size c.behind-rest.result.now c.in_ok-next.ensures.fits in
    record {
      fits = omega (arith, c.in_ok-next.ensures.fits);
      rest = goes_on c.keep.new.found _ _ _ c.if-branch.false
          (read_more c.args.text.now c.behind-rest.result.now c.loop-at.at c.in_ok-next.next.size c.loop-at.byte
          c.byte_len.result c.in_ok-next.next.kind c.loop-at.place c.place_after-place.result
          c.loop-at.found c.keep.new.found _ c.in_ok-keep.field-0 c.behind-rest.ensures
          (omega arith) c.in_ok-next.ensures.positive c.in_ok-next.ensures.fits c.in_ok-next.ensures.value
          c.byte_len.ensures.value c.place_after-place.ensures.place c.in_ok-keep.ensures.kept
          c.loop-at.invariant.rest);
      byte = omega (arith, size, c.byte_len.ensures.bound);
      line = omega (arith, size, c.place_after-place.ensures.line);
      column = omega (arith, size, c.place_after-place.ensures.column);
      counted = c.place_after-place.ensures.counted;
      open_so_far = c.in_ok-keep.ensures.open c.loop-at.invariant.open_so_far c.if-branch.false;
    }
