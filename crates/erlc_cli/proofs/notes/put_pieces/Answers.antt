use Rattle.std.proofs.Common.{rules, ◌≡◌, Err, Ok, List, ℕ, map, take, ap, sym, arith}
use Rattle.std.proofs.lemmas.List.{take_all}
use Rattle.std.specs.List.{concat}
use Rattle.store_io.specs.declared.store.Failed.{Failed}
use Rattle.erlc_cli.specs.declared.line.Piece.{Piece}
use Rattle.erlc_cli.specs.Lines.{text_of, piece_view}
use Rattle.erlc_cli.proofs.Puts.{puts_first, puts_both, puts_moved, pieces_at, pieces_more}
use Rattle.erlc_cli.proofs.notes.put_pieces.Goals as goal

pub returns-in_err-put_all-clause-bytes : goal.returns-in_err-put_all-clause-bytes
returns-in_err-put_all-clause-bytes g c =
    let e : (x : Failed) × (c.from_residual.result ≡ Err x) = search rules in
    let text : Piece → List ℕ = λ p. text_of c.args.status.now c.args.input.now c.args.output.now (piece_view p) in
    let start = g.N.Sink.bytes c.args.notes.now in
    let before = g.N.Sink.bytes c.loop-piece.notes in
    let after = g.N.Sink.bytes c.put_all.new.sink in
    puts_moved c.from_residual.result _ _ start after
    (pieces_at text c.args.pieces.now c.loop-piece.piece-index _ (omega arith))
    (puts_first c.from_residual.result e.0 _ e.1 _ _ start after
    (puts_both Failed (Err c.in_err-put_all.field-0.0)
    (concat (map text (take c.loop-piece.piece-index c.args.pieces.now))) _ start before after
    c.loop-piece.invariant.bytes
    (puts_moved {E = Failed} (Err c.in_err-put_all.field-0.0) _ _ before after
    c.bytes_of.ensures c.in_err-put_all.ensures.bytes)))

pub loop-piece-preserved : goal.loop-piece-preserved
loop-piece-preserved g c =
    let text : Piece → List ℕ = λ p. text_of c.args.status.now c.args.input.now c.args.output.now (piece_view p) in
    let start = g.N.Sink.bytes c.args.notes.now in
    let before = g.N.Sink.bytes c.loop-piece.notes in
    let after = g.N.Sink.bytes c.put_all.new.sink in
    record {
      bytes =
          puts_moved {E = Failed} (Ok tt) _ _ start after
          (sym (pieces_more text c.args.pieces.now c.loop-piece.piece-index _ (omega arith)))
          (puts_both Failed (Ok tt) (concat (map text (take c.loop-piece.piece-index c.args.pieces.now))) _
          start before after c.loop-piece.invariant.bytes
          (puts_moved {E = Failed} (Ok tt) _ _ before after c.bytes_of.ensures c.in_ok-put_all.ensures.bytes));
      faults = omega (arith, c.in_ok-put_all.ensures.faults);
    }

pub returns-clause-bytes : goal.returns-clause-bytes
returns-clause-bytes g c =
    let text : Piece → List ℕ = λ p. text_of c.args.status.now c.args.input.now c.args.output.now (piece_view p) in
    puts_moved {E = Failed} (Ok tt) _ _ (g.N.Sink.bytes c.args.notes.now) (g.N.Sink.bytes c.loop-piece.notes)
    (ap (λ pieces. concat (map text pieces)) (take_all c.loop-piece.piece-index c.args.pieces.now (omega arith)))
    c.loop-piece.invariant.bytes
