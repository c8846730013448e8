use Rattle.std.proofs.Common.{◌≡◌, ◌∙◌, ap, subst, OnOk}
use Rattle.std.specs.Str.{chars}
use Rattle.core_sites.specs.Things.{use_at}
use Rattle.core_sites.specs.Gathering.{put, put_all, thing}
use Rattle.core_sites.proofs.putting.use_function.Goals as goal

pub returns-in_ok-nameless-in-Some : goal.returns-in_ok-nameless-in-Some
unfolding chars
returns-in_ok-nameless-in-Some c =
    subst (λ o. OnOk c.put.result (c.put.new.self ≡ put_all c.args.limit c.args.uses.now (thing c.args.place o)))
    c.in-Some.ensures.known
    (subst (λ u. OnOk c.put.result (c.put.new.self ≡ put c.args.limit c.args.uses.now u))
    (c.new.ensures ∙ ap (λ x. use_at x c.in-Some.known.position c.args.place) c.in_ok-nameless-in-Some.ensures)
    c.put.ensures.ok)
