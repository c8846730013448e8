use Rattle.std.proofs.Common.{sym}
use Rattle.shared_term.specs.View.{view}
use Rattle.shared_term.proofs.KeyPlaces.{value_found, value_missing}
use Rattle.shared_term.proofs.maps.get_pair.Goals as goal

pub returns-in-Ok-clause-found : goal.returns-in-Ok-clause-found
returns-in-Ok-clause-found c =
    sym (value_found (view c.args.key.now) c.args.pairs.now c.in-Ok.at c.index-pairs-at.result c.in-Ok.ensures.found)

pub returns-in-Err-clause-found : goal.returns-in-Err-clause-found
returns-in-Err-clause-found c =
    sym (value_missing (view c.args.key.now) c.args.pairs.now c.in-Err.field-0 c.in-Err.ensures.missing)
