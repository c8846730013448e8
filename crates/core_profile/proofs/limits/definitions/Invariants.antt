use Rattle.std.proofs.Common.{◌≡◌, drop, map, length}
use Rattle.core_form.specs.View.{def_view, defs}
use Rattle.core_profile.specs.Counted.{counted}
use Rattle.core_profile.specs.LimitWalk.{walk_module}
use Rattle.core_profile.proofs.limits.definitions.Given as goal

abbrev pub invariant-loop-index : goal.invariant-loop-index
invariant-loop-index l =
    walk_module (counted l.counts) (length l.items) l.index (defs (map def_view (drop l.index l.items))) l.progress
    ≡ walk_module (counted l.counts) (length l.items) 0 (defs (map def_view l.items)) l.initial.progress
