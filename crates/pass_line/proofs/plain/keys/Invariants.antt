use Rattle.std.proofs.Common.{◌≡◌, ◌++◌, [], drop, map}
use Rattle.core_form.specs.View.{defs, def_view}
use Rattle.pass_line.specs.PlainModule.{are_new, keys_of}
use Rattle.pass_line.proofs.plain.keys.Given as goal

abbrev pub invariant-loop-def : goal.invariant-loop-def
invariant-loop-def l = record {
  new : are_new l.known (keys_of (defs (map def_view (drop l.def-index l.ds))))
      ≡ are_new [] (keys_of (defs (map def_view l.ds)));
  all : l.known ++ keys_of (defs (map def_view (drop l.def-index l.ds))) ≡ keys_of (defs (map def_view l.ds));
}
