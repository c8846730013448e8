use Rattle.bif_table.specs.View.{bif_view}
use Rattle.shared_term.specs.View.{view}
use Rattle.bif_answer.proofs.Args.{of_none, of_one, of_two, of_three}
use Rattle.bif_answer.proofs.values.by_count.Goals as goal

pub returns-in-empty-clause-answers : goal.returns-in-empty-clause-answers
returns-in-empty-clause-answers c =
    of_none _ (bif_view c.args.bif) (view c.args.own.now) _ c.in-empty.len_below c.shared.ensures.answers

pub returns-in-len1-clause-answers : goal.returns-in-len1-clause-answers
returns-in-len1-clause-answers c =
    of_one _ (bif_view c.args.bif) (view c.args.own.now) _ _ c.in-len1.len_at_least c.in-len1.len_below c.a-item.is
    c.of_one.ensures.answers

pub returns-in-len2-clause-answers : goal.returns-in-len2-clause-answers
returns-in-len2-clause-answers c =
    of_two _ (bif_view c.args.bif) (view c.args.own.now) _ _ _ c.in-len2.len_at_least c.in-len2.len_below
    c.a-item-then-args-lt3.is c.b-item.is c.of_two.ensures.answers

pub returns-in-len3-clause-answers : goal.returns-in-len3-clause-answers
returns-in-len3-clause-answers c =
    of_three _ (bif_view c.args.bif) (view c.args.own.now) _ _ _ _ c.in-len3.len_at_least c.a-item-then-args-lt4.is
    c.b-item-then-args-lt4.is c.c-item.is c.of_three.ensures.answers
