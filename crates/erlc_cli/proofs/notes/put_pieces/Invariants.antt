use Rattle.std.proofs.Common.{◌≤◌, map, take, Ok}
use Rattle.std.specs.List.{concat}
use Rattle.store_io.specs.declared.store.Failed.{Failed}
use Rattle.store_io.specs.Files.{Alike, PutsAll}
use Rattle.erlc_cli.specs.Lines.{text_of, piece_view}
use Rattle.erlc_cli.proofs.notes.put_pieces.Given as goal

abbrev pub invariant-loop-piece : goal.invariant-loop-piece
invariant-loop-piece g l =
    record {
      bytes : Alike (g.N.Sink.bytes l.fn.notes) (g.N.Sink.bytes l.notes)
          (PutsAll {E = Failed}
          (concat (map (λ piece. text_of l.status l.input l.output (piece_view piece)) (take l.piece-index l.pieces)))
          (Ok tt));
      faults : g.N.Sink.faults l.fn.notes ≤ g.N.Sink.faults l.notes;
    }
