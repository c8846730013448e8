use Rattle.std.proofs.Common.{sym, arith}
use Rattle.term_read.specs.TermGrammar.{part_at}
use Rattle.term_read.proofs.ItemRows.{loop_ended, loop_goes_on}
use Rattle.term_read.proofs.PartRows.{part_consumes, part_pushed}
use Rattle.term_read.proofs.bitstrings.part_items.Goals as goal

pub returns-in-None-clause-value : goal.returns-in-None-clause-value
returns-in-None-clause-value c =
    loop_ended part_at part_consumes _ _ _ _ _ _ c.in_ok-part.ensures.value
    (sym c.in-None.ensures.value) c.in_ok-push.ensures.ok c.loop-parts.invariant.read

pub loop-parts-preserved : goal.loop-parts-preserved
loop-parts-preserved c = record {
  read = loop_goes_on part_at part_consumes _ _ _ _ _ _ _ c.in_ok-part.ensures.value
      (sym c.in-Some.ensures.value) c.in_ok-push.ensures.ok c.loop-parts.invariant.read;
  sizes = part_pushed _ _ _ c.in_ok-push.ensures.ok c.loop-parts.invariant.sizes c.in_ok-part.ensures.size;
  fits = omega (arith, c.in_ok-part.ensures.fits, c.in-Some.ensures.fits);
}
