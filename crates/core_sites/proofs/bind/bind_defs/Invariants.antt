use Rattle.std.proofs.Common.{◌≡◌, drop, map}
use Rattle.core_form.specs.View.{def_view, defs}
use Rattle.core_sites.specs.Gathering.{named}
use Rattle.core_sites.proofs.bind.bind_defs.Given as goal

abbrev pub invariant-loop-item : goal.invariant-loop-item
invariant-loop-item l =
    named (defs (map def_view (drop l.item-index l.items))) l.names
    ≡ named (defs (map def_view l.items)) l.initial.names
