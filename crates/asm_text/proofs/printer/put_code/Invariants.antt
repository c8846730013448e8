use Rattle.std.proofs.Common.{◌≡◌, ℕ, List, ◌++◌, true, drop}
use Rattle.asm_text.proofs.Rows.{code_row}
use Rattle.asm_text.proofs.printer.put_code.Given as goal

abbrev pub invariant-loop-insn : goal.invariant-loop-insn
invariant-loop-insn l = (r : List ℕ) → l.out ++ code_row true (drop l.insn-index l.code) r
    ≡ l.initial.out ++ code_row true l.code r
