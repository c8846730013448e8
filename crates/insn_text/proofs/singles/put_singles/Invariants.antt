use Rattle.std.proofs.Common.{◌≡◌, ℕ, List, ◌++◌, drop}
use Rattle.insn_text.specs.Rows.{single_term}
use Rattle.insn_text.proofs.Loops.{mapped}
use Rattle.insn_text.proofs.singles.put_singles.Given as goal

abbrev pub invariant-loop-single : goal.invariant-loop-single
invariant-loop-single l = (r : List ℕ) → l.out ++ mapped single_term l.first (drop l.single-index l.singles) r
    ≡ l.initial.out ++ mapped single_term l.fn.is_first l.singles r
