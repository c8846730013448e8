use Rattle.std.proofs.Common.{◌≡◌, ◌∙◌, ◌*◌, ◌+◌, List, [], ◌∷◌, ◌++◌, ℕ, refl, sym, ap, subst, length, length-append}
use Rattle.std.proofs.Common.{take, arith}
use Rattle.erl_term.specs.BitString.{bits_of, byte_bits}
use Rattle.shared_term.specs.View.{range_view}
use Rattle.shared_term.proofs.Bits.{range_octet, range_more, all_held}
use Rattle.shared_term.proofs.octets.own_bits.Goals as goal

nothing_held : (bs : List ℕ) (R : List _) → bs ≡ [] → byte_bits bs ≡ take (8 * length bs) R
unfolding byte_bits
nothing_held bs R e = subst (λ cs. byte_bits cs ≡ take (8 * length cs) R) (sym e) refl

pub loop-done-init : goal.loop-done-init
loop-done-init c = record {
  count = omega (arith, ap length c.new-copy.ensures);
  room = omega (arith, ap length c.new-copy.ensures);
  copied = nothing_held _ _ c.new-copy.ensures;
}

pub loop-done-preserved : goal.loop-done-preserved
loop-done-preserved c =
    let b = c.args.range.now in
    let n = c.loop-done.done in
    let k = c.lesser-count.result in
    let new : c.push.new.self ≡ c.loop-done.copy ++ c.octet.result ∷ [] = c.in_ok-push.ensures.ok in
    let m : length c.push.new.self ≡ length c.loop-done.copy + 1 =
    ap length new ∙ length-append c.loop-done.copy (c.octet.result ∷ []) in
    record {
      count = omega (arith, c.loop-done.invariant.count, c.lesser-count.ensures, m);
      room = omega (arith, c.loop-done.invariant.count, c.loop-done.invariant.room, m);
      copied =
          subst (λ bs. byte_bits bs ≡ take (8 * length bs) (range_view b ++ bits_of 8 0)) (sym new)
          (range_more b c.loop-done.copy n k c.octet.result c.requires c.loop-done.invariant.count
          c.loop-done-test.true c.lesser-count.ensures
          c.loop-done.invariant.copied
          (range_octet b _ n k c.octet.result (c.as_slice-bytes.ensures ∙ c.deref.ensures)
          (omega (arith, c.lesser-count.ensures)) c.octet.ensures));
    }

pub returns-clause-same : goal.returns-clause-same
returns-clause-same c =
    (all_held c.args.range.now _ c.loop-done.done c.requires refl c.loop-done.invariant.count c.loop-done-test.false
    c.loop-done.invariant.room
    c.loop-done.invariant.copied).0

pub returns-clause-full : goal.returns-clause-full
returns-clause-full c =
    (all_held c.args.range.now _ c.loop-done.done c.requires refl c.loop-done.invariant.count c.loop-done-test.false
    c.loop-done.invariant.room
    c.loop-done.invariant.copied).1
