use Rattle.std.proofs.Common.{◌+◌, refl}
use Rattle.shared_term.specs.View.{view}
use Rattle.shared_term.proofs.KeyPlaces.{room_found, room_missing}
use Rattle.shared_term.proofs.maps.room.Goals as goal

pub returns-in-Ok : goal.returns-in-Ok
returns-in-Ok c =
    room_found (view c.args.key.now) c.args.pairs.now c.in-Ok.at (c.in-Ok.at + 1) refl c.in-Ok.ensures.found

pub returns-in-Err : goal.returns-in-Err
returns-in-Err c = room_missing (view c.args.key.now) c.args.pairs.now c.in-Err.at c.in-Err.ensures.missing
