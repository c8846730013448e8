use Rattle.std.proofs.Common.{◌≡◌, ℕ, List, ◌++◌, true, drop}
use Rattle.beam_table.specs.View.{module_view}
use Rattle.asm_text.specs.PrintedModule.{module_lines, lines_on}
use Rattle.asm_text.proofs.Rows.{fun_row}
use Rattle.asm_text.proofs.printer.print.Given as goal

abbrev pub invariant-loop-function : goal.invariant-loop-function
invariant-loop-function l = (r : List ℕ) → l.out ++ fun_row l.a.name true (drop l.function-index l.a.funs) r
    ≡ lines_on (module_lines (module_view l.a)) r
