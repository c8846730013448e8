use Rattle.std.proofs.Common.{◌∙◌, refl}
use Rattle.core_sites.specs.Things.{instead, expanded}
use Rattle.core_sites.specs.Gathering.{put_all}
use Rattle.core_sites.specs.Listing.{held_at}
use Rattle.core_sites.proofs.Outside.{acted}
use Rattle.core_sites.proofs.Puts.{put_all_append}
use Rattle.core_sites.proofs.held.resolve.Goals as goal

pub loop-item-preserved : goal.loop-item-preserved
loop-item-preserved c =
    acted (put_all c.args.limit) (put_all_append c.args.limit) (expanded (held_at c.args.held.now)) c.loop-item.uses
    c.put_held.new.uses c.args.items.now c.loop-item.item-index c.item-item.result
    (instead (held_at c.args.held.now c.item-item.result.number) c.item-item.result)
    c.item-item.is c.loop-item-test.true c.in_ok-put_held.ensures refl
    ∙ c.loop-item.invariant
