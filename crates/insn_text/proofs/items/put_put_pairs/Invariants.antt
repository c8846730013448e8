use Rattle.std.proofs.Common.{◌≡◌, ℕ, List, ◌++◌, true, drop}
use Rattle.beam_table.specs.View.{put_view}
use Rattle.insn_text.proofs.Loops.{listed}
use Rattle.insn_text.proofs.ListedItems.{put_on}
use Rattle.insn_text.proofs.items.put_put_pairs.Given as goal

abbrev pub invariant-loop-pair : goal.invariant-loop-pair
invariant-loop-pair l = (r : List ℕ) → l.out ++ listed put_on put_view l.first (drop l.pair-index l.pairs) r
    ≡ l.initial.out ++ listed put_on put_view true l.pairs r
