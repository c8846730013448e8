use Rattle.std.proofs.Common.{rules, ◌≡◌, Err, take, drop, arith, ◌∙◌, ap, sym, subst, List, ℕ}
use Rattle.store_io.specs.declared.store.Failed.{Failed}
use Rattle.store_io.proofs.Alike.{appended, refused, part_of_piece, part_of_first, piece_within}
use Rattle.store_io.proofs.Rooms.{rooms_then}
use Rattle.store_io.proofs.Put.{rest_is}
use Rattle.store_io.proofs.whole.store_all.Goals as goal

pub append-requires : goal.append-requires
append-requires g c =
    let cut : c.first_piece.result.now ≡ take 4096 (drop c.loop-done.done c.args.bytes.now) =
    c.first_piece.ensures ∙ ap (take 4096) (rest_is c.loop-done.done c.args.bytes.now) in
    subst (λ (piece : List ℕ). g.S.Store.may_append c.loop-done.store c.args.name.now piece) (sym cut)
    (c.requires c.loop-done.store c.loop-done.done (omega (arith, c.loop-done-test.true)))

pub loop-done-preserved : goal.loop-done-preserved
loop-done-preserved g c =
    let cut : c.first_piece.result.now ≡ take 4096 (drop c.loop-done.done c.args.bytes.now) =
    c.first_piece.ensures ∙ ap (take 4096) (rest_is c.loop-done.done c.args.bytes.now) in record {
      within = omega (
        arith,
        c.in_ok-done.ensures.within,
        piece_within c.args.bytes.now c.first_piece.result.now 4096 c.loop-done.done cut,
        c.loop-done-test.true,
      );
      files =
          appended Failed c.args.name.now c.args.bytes.now _ c.loop-done.done c.in_ok-done.field-0
          (g.S.Store.told c.args.store.now).files
          (g.S.Store.told c.loop-done.store).files (g.S.Store.told c.append.new.self).files
          (part_of_piece _ _ 4096 _ cut c.in_ok-done.ensures.within) c.loop-done.invariant.files
          c.in_ok-done.ensures.files;
      rooms = rooms_then _ _ _ c.loop-done.invariant.rooms c.in_ok-done.ensures.rooms;
      reads = c.in_ok-done.ensures.reads ∙ c.loop-done.invariant.reads;
      writes = omega (arith, c.in_ok-done.ensures.writes);
    }

pub returns-in_err-done-clause-files : goal.returns-in_err-done-clause-files
returns-in_err-done-clause-files g c =
    let cut : c.first_piece.result.now ≡ take 4096 (drop c.loop-done.done c.args.bytes.now) =
    c.first_piece.ensures ∙ ap (take 4096) (rest_is c.loop-done.done c.args.bytes.now) in
    let e : (x : Failed) × (c.from_residual-in_err-done.result ≡ Err x) = search rules in
    refused c.from_residual-in_err-done.result e.0 e.1 c.args.name.now c.args.bytes.now c.first_piece.result.now
    c.loop-done.done
    (g.S.Store.told c.args.store.now).files (g.S.Store.told c.loop-done.store).files
    (g.S.Store.told c.append.new.self).files
    (part_of_first _ _ 4096 cut) c.loop-done.invariant.files c.in_err-done.ensures.files

pub returns-in_err-done-clause-rooms : goal.returns-in_err-done-clause-rooms
returns-in_err-done-clause-rooms g c = rooms_then _ _ _ c.loop-done.invariant.rooms c.in_err-done.ensures.rooms
