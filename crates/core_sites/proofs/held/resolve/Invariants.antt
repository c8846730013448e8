use Rattle.std.proofs.Common.{◌≡◌, [], drop}
use Rattle.core_sites.specs.Things.{expanded}
use Rattle.core_sites.specs.Gathering.{put_all}
use Rattle.core_sites.specs.Listing.{held_at}
use Rattle.core_sites.proofs.held.resolve.Given as goal

abbrev pub invariant-loop-item : goal.invariant-loop-item
invariant-loop-item l =
    put_all l.limit l.uses (expanded (held_at l.held) (drop l.item-index l.items))
    ≡ put_all l.limit [] (expanded (held_at l.held) l.items)
