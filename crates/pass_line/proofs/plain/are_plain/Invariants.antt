use Rattle.std.proofs.Common.{◌≡◌, drop, map}
use Rattle.core_form.specs.View.{defs, def_view}
use Rattle.pass_line.specs.PlainModule.{are_plain}
use Rattle.pass_line.proofs.plain.are_plain.Given as goal

abbrev pub invariant-loop-def : goal.invariant-loop-def
invariant-loop-def l = are_plain (defs (map def_view (drop l.def-index l.ds))) ≡ are_plain (defs (map def_view l.ds))
