use Rattle.std.proofs.Common.{◌≡◌, ℕ, List, ◌++◌, false, drop}
use Rattle.insn_text.specs.Rows.{row_term}
use Rattle.insn_text.proofs.Loops.{mapped}
use Rattle.insn_text.proofs.items.put_row.Given as goal

abbrev pub invariant-loop-operand : goal.invariant-loop-operand
invariant-loop-operand l = (r : List ℕ) → l.out ++ mapped row_term false (drop l.operand-index l.row) r
    ≡ l.initial.out ++ mapped row_term false l.row r
