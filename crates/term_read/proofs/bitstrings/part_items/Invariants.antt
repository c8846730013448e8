use Rattle.std.proofs.Common.{◌≡◌, ◌≤◌, length}
use Rattle.term_read.specs.TermGrammar.{part_at}
use Rattle.term_read.specs.Reading.{before, items_of}
use Rattle.term_read.specs.BitParts.{AreParts}
use Rattle.term_read.proofs.bitstrings.part_items.Given as goal

abbrev pub invariant-loop-parts : goal.invariant-loop-parts
invariant-loop-parts l = record {
  read : before l.parts (items_of part_at l.rest) ≡ items_of part_at l.fn.cs;
  sizes : AreParts l.parts;
  fits : length l.rest ≤ length l.fn.cs;
}

abbrev pub decreases-loop-parts : goal.decreases-loop-parts
decreases-loop-parts l = length l.rest
