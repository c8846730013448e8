use Rattle.bif_answer.proofs.Args.{got, past}
use Rattle.bif_answer.proofs.parts.element.Goals as goal

pub returns-in-Some-place_in-clause-answers : goal.returns-in-Some-place_in-clause-answers
returns-in-Some-place_in-clause-answers c =
    got _ _ _ _ _ _ c.in-Some-place_in.ensures.0 c.in-Some-place_in.ensures.1 c.in-Some.ensures.elements
    c.index-elements-at.is c.shared.ensures.answers

pub returns-in-None-place_in-clause-answers : goal.returns-in-None-place_in-clause-answers
returns-in-None-place_in-clause-answers c =
    past _ _ _ _ c.in-Some.ensures.elements c.in-None-place_in.ensures c.badarg.ensures.answers
