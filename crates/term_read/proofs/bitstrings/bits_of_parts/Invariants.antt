use Rattle.std.proofs.Common.{◌≡◌, ◌≤◌, ◌+◌, ◌*◌, ◌++◌, map, drop}
use Rattle.term_read.specs.BitParts.{AreParts}
use Rattle.term_read.proofs.PartBits.{shifted, total}
use Rattle.term_read.proofs.bitstrings.bits_of_parts.Given as goal

abbrev pub invariant-loop-part : goal.invariant-loop-part
invariant-loop-part l = record {
  bytes : l.bytes ++ map shifted (drop l.part-index l.parts) ≡ map shifted l.parts;
  bits : l.length + total (drop l.part-index l.parts) ≡ total l.parts;
  sizes : AreParts (drop l.part-index l.parts);
  bound : l.length ≤ 8 * l.part-index;
}
