use Rattle.std.proofs.Common.{◌≡◌, drop}
use Rattle.core_sites.specs.Things.{expanded}
use Rattle.core_sites.specs.Gathering.{put_all, group_at}
use Rattle.core_sites.proofs.putting.put_expanded.Given as goal

abbrev pub invariant-loop-item : goal.invariant-loop-item
invariant-loop-item l =
    put_all l.limit l.uses (expanded (group_at l.outside l.captured) (drop l.item-index l.items))
    ≡ put_all l.limit l.initial.uses (expanded (group_at l.outside l.captured) l.items)
