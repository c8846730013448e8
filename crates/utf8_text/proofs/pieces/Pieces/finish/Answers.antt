use Rattle.std.proofs.Common.{◌≡◌, sym, ap, ◌∙◌, Some}
use Rattle.utf8_text.specs.PiecesState.{fault_place}
use Rattle.utf8_text.proofs.Fed.{is_refused, whole_refused}
use Rattle.utf8_text.proofs.pieces.Pieces.finish.Goals as goal

pub returns-in-Some-clause-refused : goal.returns-in-Some-clause-refused
returns-in-Some-clause-refused c =
    let place : fault_place c.args.self ≡ Some c.in-Some.place =
    sym (ap fault_place c.self.view_is) ∙ sym c.self.invariant.broken_is ∙ c.in-Some.is in
    whole_refused _ _ _ c.refused.ensures (is_refused _ _ place)
