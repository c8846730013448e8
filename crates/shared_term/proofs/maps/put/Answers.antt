use Rattle.std.proofs.Common.{◌∙◌, sym, ap, Some}
use Rattle.shared_term.specs.Parts.{put_of}
use Rattle.shared_term.specs.View.{view}
use Rattle.shared_term.proofs.Pairs.{map_whole, map_reads}
use Rattle.shared_term.proofs.maps.put.Goals as goal

pub put_pair-requires-clause-pairs : goal.put_pair-requires-clause-pairs
put_pair-requires-clause-pairs c = map_whole _ _ _ _ c.in-Map.is c.deref.ensures c.as_slice.ensures c.requires.map

pub returns-in_ok-put_pair-in-Map-clause-put : goal.returns-in_ok-put_pair-in-Map-clause-put
returns-in_ok-put_pair-in-Map-clause-put c =
    ap Some c.in_ok-put_pair-in-Map.ensures.map
    ∙ sym (ap (put_of (view c.args.key) (view c.args.value))
    (map_reads _ _ _ _ c.in-Map.is c.deref.ensures c.as_slice.ensures))
