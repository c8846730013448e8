use Rattle.std.proofs.Common.{◌≡◌, ℕ, List, ◌++◌, true, drop}
use Rattle.beam_table.specs.View.{source_view}
use Rattle.insn_text.proofs.Loops.{listed}
use Rattle.insn_text.proofs.ListedItems.{source_on}
use Rattle.insn_text.proofs.items.put_sources.Given as goal

abbrev pub invariant-loop-value : goal.invariant-loop-value
invariant-loop-value l = (r : List ℕ) → l.out ++ listed source_on source_view l.first (drop l.value-index l.values) r
    ≡ l.initial.out ++ listed source_on source_view true l.values r
