use Rattle.std.proofs.Common.{◌≡◌, ℕ, List, ◌++◌, true, drop}
use Rattle.beam_table.specs.View.{segment_view}
use Rattle.insn_text.proofs.Loops.{listed}
use Rattle.insn_text.proofs.ListedItems.{segment_on}
use Rattle.insn_text.proofs.items.put_segments.Given as goal

abbrev pub invariant-loop-segment : goal.invariant-loop-segment
invariant-loop-segment l = (r : List ℕ)
    → l.out ++ listed segment_on segment_view l.first (drop l.segment-index l.segments) r
    ≡ l.initial.out ++ listed segment_on segment_view true l.segments r
