use Rattle.std.proofs.Common.{◌≡◌, sym, ap, ◌∙◌, subst, Some, None, Err, List, ℕ, ◌++◌}
use Rattle.std.proofs.lemmas.Result.{err_from_is_err_and}
use Rattle.utf8_text.specs.PiecesState.{fault_place}
use Rattle.utf8_text.specs.Utf8Text.{BeginsText}
use Rattle.utf8_text.proofs.Fed.{begins_text, is_refused, refused_more, refused_at, not_refused, start_refused, left_refused, again_refused}
use Rattle.utf8_text.proofs.pieces.Pieces.feed.Goals as goal

pub returns-in-Some-clause-refused : goal.returns-in-Some-clause-refused
returns-in-Some-clause-refused c =
    let place : fault_place c.args.self.now ≡ Some c.in-Some.place =
    sym (ap fault_place c.self.view_is) ∙ sym c.self.invariant.broken_is ∙ c.in-Some.is in
    start_refused _ _ _ c.refused.ensures (refused_more _ _ _ (is_refused _ _ place))

pub returns-in-Some-clause-left : goal.returns-in-Some-clause-left
returns-in-Some-clause-left c =
    let place : fault_place c.args.self.now ≡ Some c.in-Some.place =
    sym (ap fault_place c.self.view_is) ∙ sym c.self.invariant.broken_is ∙ c.in-Some.is in
    left_refused _ _ _ _ c.refused.ensures (is_refused _ _ place)

pub returns-in-Some-clause-again : goal.returns-in-Some-clause-again
returns-in-Some-clause-again c refusal h =
    let place : fault_place c.args.self.now ≡ Some c.in-Some.place =
    sym (ap fault_place c.self.view_is) ∙ sym c.self.invariant.broken_is ∙ c.in-Some.is in
    ap Err (again_refused c.args.self.now _ refusal _ c.refused.ensures (is_refused _ _ place) h)

pub returns-in_err-whole-clause-left : goal.returns-in_err-whole-clause-left
returns-in_err-whole-clause-left c =
    let p = err_from_is_err_and c.from_residual.result c.from_residual.ensures.1 in
    let none : fault_place c.args.self.now ≡ None =
    sym (ap fault_place c.self.view_is) ∙ sym c.self.invariant.broken_is ∙ c.in_default.is in
    rw (p.1, p.2) (c.in_err-whole.ensures.err ∙ c.self.view_is, begins_text c.args.self.now none)

pub returns-in_err-whole-clause-again : goal.returns-in_err-whole-clause-again
returns-in_err-whole-clause-again c refusal h =
    let none : fault_place c.args.self.now ≡ None =
    sym (ap fault_place c.self.view_is) ∙ sym c.self.invariant.broken_is ∙ c.in_default.is in
    absurd (not_refused c.args.self.now refusal (begins_text c.args.self.now none) h)

pub returns-in-Some-broken-clause-refused : goal.returns-in-Some-broken-clause-refused
returns-in-Some-broken-clause-refused c =
    let added = c.in_ok-whole.ensures.added ∙ ap (λ (b : List ℕ). b ++ c.args.piece.now) c.self.view_is in
    let place : fault_place c.take_piece.new.bytes.items ≡ Some c.in-Some-broken.place =
    sym c.in_ok-whole.ensures.fed.broken_is ∙ c.in-Some-broken.is in
    start_refused _ _ _ c.refused-in-Some-broken.ensures
    (refused_at _ _ _ added (is_refused c.take_piece.new.bytes.items c.in-Some-broken.place place))

pub returns-in-Some-broken-clause-left : goal.returns-in-Some-broken-clause-left
returns-in-Some-broken-clause-left c =
    let place : fault_place c.take_piece.new.bytes.items ≡ Some c.in-Some-broken.place =
    sym c.in_ok-whole.ensures.fed.broken_is ∙ c.in-Some-broken.is in
    left_refused _ _ _ _ c.refused-in-Some-broken.ensures
    (is_refused c.take_piece.new.bytes.items c.in-Some-broken.place place)

pub returns-clause-ok : goal.returns-clause-ok
returns-clause-ok c =
    let added = c.in_ok-whole.ensures.added ∙ ap (λ (b : List ℕ). b ++ c.args.piece.now) c.self.view_is in
    (added, begins_text c.take_piece.new.bytes.items (sym c.in_ok-whole.ensures.fed.broken_is ∙ c.in_default-broken.is))

pub returns-clause-again : goal.returns-clause-again
returns-clause-again c refusal h =
    let added = c.in_ok-whole.ensures.added ∙ ap (λ (b : List ℕ). b ++ c.args.piece.now) c.self.view_is in
    let begun = begins_text c.take_piece.new.bytes.items
    (sym c.in_ok-whole.ensures.fed.broken_is ∙ c.in_default-broken.is) in
    absurd (not_refused (c.args.self.now ++ c.args.piece.now) refusal (subst BeginsText added begun)
    (refused_more c.args.self.now c.args.piece.now refusal h))
