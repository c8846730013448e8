use Rattle.std.proofs.Common.{◌∙◌, sym, ap}
use Rattle.shared_term.specs.Parts.{value_of}
use Rattle.shared_term.specs.View.{view}
use Rattle.shared_term.proofs.Pairs.{map_whole, map_reads}
use Rattle.shared_term.proofs.value.Value.get.Goals as goal

pub get_pair-requires-clause-pairs : goal.get_pair-requires-clause-pairs
get_pair-requires-clause-pairs c = map_whole _ _ _ _ c.in-Map.is c.deref.ensures c.as_slice.ensures c.requires.whole

pub returns-in-Map-clause-found : goal.returns-in-Map-clause-found
returns-in-Map-clause-found c =
    c.get_pair.ensures.found
    ∙ sym (ap (value_of (view c.args.key.now)) (map_reads _ _ _ _ c.in-Map.is c.deref.ensures c.as_slice.ensures))
