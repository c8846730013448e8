use Rattle.std.proofs.Common.{◌≡◌, ◌++◌, drop, map}
use Rattle.core_form.specs.View.{defs, def_view}
use Rattle.beam_table.specs.View.{fun_view}
use Rattle.pass_line.specs.PlainCode.{functions}
use Rattle.pass_line.proofs.code.functions.Given as goal

abbrev pub invariant-loop-def : goal.invariant-loop-def
invariant-loop-def l = record {
  counted : l.number ≡ l.def-index;
  so_far : map fun_view l.made ++ functions l.number (defs (map def_view (drop l.def-index l.ds)))
      ≡ functions 0 (defs (map def_view l.ds));
}
