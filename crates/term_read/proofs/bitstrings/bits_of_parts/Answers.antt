use Rattle.std.proofs.Common.{◌≡◌, [], drop, arith}
use Rattle.std.proofs.lemmas.Grind.{common_steps}
use Rattle.std.proofs.lemmas.List.{drop_more}
use Rattle.term_read.proofs.PartBits.{parts_bits, parts_full, bytes_step, total_step, rest_parts, first_part, no_parts_left, no_bits_left}
use Rattle.term_read.proofs.bitstrings.bits_of_parts.Goals as goal

pub high_byte-requires : goal.high_byte-requires
high_byte-requires c =
    let s = first_part _ _ _
    (drop_more c.args.parts.now c.loop-part.part-index (record { number = 0; size = 0 }) c.loop-part-test.true)
    c.loop-part.invariant.sizes in
    record { some = s.0; few = s.1; fits = s.2 }

pub loop-part-preserved : goal.loop-part-preserved
loop-part-preserved c =
    let cons = drop_more c.args.parts.now c.loop-part.part-index
    (record { number = 0; size = 0 }) c.loop-part-test.true in
    let s = first_part _ _ _ cons c.loop-part.invariant.sizes in
    record {
      bytes = bytes_step _ _ _ _ _ _ _ cons c.in_ok-push.ensures.ok c.high_byte.ensures c.loop-part.invariant.bytes;
      bits = total_step _ _ _ _ _ _ cons c.from-length.ensures c.loop-part.invariant.bits;
      sizes = rest_parts _ _ _ cons c.loop-part.invariant.sizes;
      bound = omega (arith, s.1, c.from-length.ensures);
    }

pub returns-clause-value : goal.returns-clause-value
returns-clause-value c =
    let none : drop c.loop-part.part-index c.args.parts.now ≡ [] = grind (arith, common_steps) in
    parts_bits _ _ _ c.requires.whole c.requires.sizes (no_parts_left _ _ _ none c.loop-part.invariant.bytes)
    (no_bits_left _ _ _ none c.loop-part.invariant.bits)

pub returns-clause-full : goal.returns-clause-full
returns-clause-full c =
    let none : drop c.loop-part.part-index c.args.parts.now ≡ [] = grind (arith, common_steps) in
    parts_full _ _ c.requires.whole c.requires.sizes (no_parts_left _ _ _ none c.loop-part.invariant.bytes)
    (no_bits_left _ _ _ none c.loop-part.invariant.bits)
