use Rattle.std.proofs.Common.{refl}
use Rattle.erl_term.proofs.Deep.{list_deep, both_within, items_not_within}
use Rattle.erl_term.proofs.+nests.Goals as goal

pub term::Term::nests_within-returns-then-all_nest_within :
    goal.term::Term::nests_within-returns-then-all_nest_within
term::Term::nests_within-returns-then-all_nest_within t c =
    both_within _ _ _ _ _ _ c.all_nest_within.ensures c.if-all_nest_within.true c.nests_within.ensures
    c.if-limit-eq0.false
    (list_deep _ _ _ _ _ c.in-List.is c.as_slice.ensures c.get.ensures c.requires)

pub term::Term::nests_within-returns-else-all_nest_within :
    goal.term::Term::nests_within-returns-else-all_nest_within
term::Term::nests_within-returns-else-all_nest_within t c =
    items_not_within _ _ _ _ _ c.all_nest_within.ensures c.if-all_nest_within.false
    (list_deep _ _ _ _ _ c.in-List.is c.as_slice.ensures refl c.requires)
