use Rattle.std.proofs.Common.{◌≡◌, map, drop}
use Rattle.bif_table.specs.Builtins.{look_up}
use Rattle.bif_table.specs.View.{bif_view}
use Rattle.bif_table.proofs.table.find.Given as goal

abbrev pub invariant-loop-bif : goal.invariant-loop-bif
invariant-loop-bif l = look_up (map bif_view (drop l.bif-index l.bifs)) l.key.name l.key.arity
    ≡ look_up (map bif_view l.bifs) l.key.name l.key.arity
