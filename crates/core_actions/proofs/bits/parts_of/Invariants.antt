use Rattle.std.proofs.Common.{◌≡◌, ◌++◌, IsTrue, length, nat_eq}
use Rattle.std.specs.List.{list_all}
use Rattle.term_read.specs.BitParts.{AreParts}
use Rattle.term_read.specs.TermGrammar.{bits_in}
use Rattle.core_actions.proofs.bits.parts_of.Given as goal

abbrev pub invariant-loop-left : goal.invariant-loop-left
invariant-loop-left l = record {
  read : bits_in l.parts ++ l.left ≡ l.fn.bits;
  whole : IsTrue (list_all (λ p. nat_eq p.size 8) l.parts);
  sizes : AreParts l.parts;
}

abbrev pub decreases-loop-left : goal.decreases-loop-left
decreases-loop-left l = length l.left
