use Rattle.std.proofs.Common.{◌≡◌, drop}
use Rattle.core_form.specs.Captures.{placed}
use Rattle.core_sites.specs.Gathering.{put_all}
use Rattle.core_sites.proofs.putting.put_moved.Given as goal

abbrev pub invariant-loop-item : goal.invariant-loop-item
invariant-loop-item l =
    put_all l.limit l.uses (placed l.place (drop l.item-index l.items))
    ≡ put_all l.limit l.initial.uses (placed l.place l.items)
