use Rattle.std.proofs.Common.{List, ap, ◌∙◌, sym, map}
use Rattle.std.proofs.lemmas.Simd.{map-map}
use Rattle.std.specs.List.{concat}
use Rattle.store_io.specs.declared.store.Failed.{Failed}
use Rattle.erlc_cli.specs.Lines.{Piece, text_of, piece_view}
use Rattle.erlc_cli.proofs.Puts.{noted, puts_moved}
use Rattle.erlc_cli.proofs.notes.note.Goals as goal

pub returns : goal.returns
returns g c =
    let text = text_of c.args.status c.args.input.now c.args.output.now in
    let start = g.N.Sink.bytes c.args.notes.now in
    let after = g.N.Sink.bytes c.put_pieces.new.notes in
    noted Failed c.put_pieces.result _ _ _ start after
    (puts_moved c.put_pieces.result _ _ start after
    (sym (ap concat (map-map text piece_view c.pieces_of.result.now))
    ∙ ap (λ (pieces : List Piece). concat (map text pieces)) c.pieces_of.ensures)
    c.put_pieces.ensures.bytes)
    c.put_pieces.ensures.failed
