use Rattle.std.proofs.Common.{◌∙◌, sym, arith}
use Rattle.std.proofs.lemmas.Grind.{common_steps}
use Rattle.erl_term.proofs.MapRuns.{takes_first, takes_both, takes_second}
use Rattle.erl_term.proofs.maps.least.Goals as goal

pub returns-in-Less : goal.returns-in-Less
returns-in-Less c =
    takes_first _ _ _ _ (λ e. grind (arith, common_steps)) c.pop_front.ensures.items
    (sym c.in-Less.is ∙ c.front_order.ensures) c.requires.first c.requires.second

pub returns-in-Equal : goal.returns-in-Equal
returns-in-Equal c =
    takes_both _ _ _ _ _ _ (λ e. grind (arith, common_steps)) c.pop_front-replaced.ensures.items
    (λ e. grind (arith, common_steps)) c.pop_front-in-Equal.ensures.items
    (sym c.in-Equal.is ∙ c.front_order.ensures) c.requires.first c.requires.second

pub returns-in-Greater : goal.returns-in-Greater
returns-in-Greater c =
    takes_second _ _ _ _ (λ e. grind (arith, common_steps)) c.pop_front-in-Greater.ensures.items
    (sym c.in-Greater.is ∙ c.front_order.ensures) c.requires.first c.requires.second
