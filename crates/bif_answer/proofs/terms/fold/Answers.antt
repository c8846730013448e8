use Rattle.bif_table.specs.View.{bif_view}
use Rattle.bif_answer.proofs.Folding.{in_any_other, folded, raised, widened}
use Rattle.bif_answer.proofs.terms.fold.Goals as goal

pub returns-in-Value-clause-some : goal.returns-in-Value-clause-some
returns-in-Value-clause-some c = λ own.
    folded _ _ _ _ c.in-Value.is c.in_ok-term.ensures.value
    (in_any_other (bif_view c.args.bif) own _ c.args.args.now c.requires.arity c.requires.not_self)

pub returns-in-Raises-clause-none : goal.returns-in-Raises-clause-none
returns-in-Raises-clause-none c = λ own.
    raised _ _ _ _ _ c.in-Raises.is c.in_ok-term.ensures.raises
    (in_any_other (bif_view c.args.bif) own _ c.args.args.now c.requires.arity c.requires.not_self)

pub returns-clause-none : goal.returns-clause-none
returns-clause-none c = λ own.
    widened _ _ _ c.in-Wide.is c.in_ok-term.ensures.wide
    (in_any_other (bif_view c.args.bif) own _ c.args.args.now c.requires.arity c.requires.not_self)
