use Rattle.std.proofs.lemmas.Result.{err_from_is_err_and}
use Rattle.utf8_text.proofs.Fed.{pieces_refused}
use Rattle.utf8_text.proofs.pieces.characters.Goals as goal

pub returns-in_err-feed-clause-refused : goal.returns-in_err-feed-clause-refused
returns-in_err-feed-clause-refused c =
    let p = err_from_is_err_and c.from_residual.result c.from_residual.ensures.1 in
    pieces_refused c.from_residual.result p.0 _ c.args.pieces.now c.loop-piece.piece-index _ c.loop-piece.text p.1 p.2
    c.loop-piece-test.true c.loop-piece.invariant
    c.in_err-feed.ensures.refused
