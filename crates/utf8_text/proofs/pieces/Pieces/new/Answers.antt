use Rattle.std.proofs.Common.{sym, subst, None, List, ℕ}
use Rattle.utf8_text.specs.PiecesState.{IsFed}
use Rattle.utf8_text.proofs.Fed.{fed_nothing}
use Rattle.utf8_text.proofs.pieces.Pieces.new.Goals as goal

pub invariant_of-result : goal.invariant_of-result
invariant_of-result c = subst (λ (bs : List ℕ). IsFed bs 0 None) (sym c.new.ensures.items) fed_nothing
