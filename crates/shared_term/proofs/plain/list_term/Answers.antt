use Rattle.shared_term.proofs.Terms.{list_made_of}
use Rattle.shared_term.proofs.plain.list_term.Goals as goal

pub returns-clause-well_formed : goal.returns-clause-well_formed
returns-clause-well_formed c =
    list_made_of _ _ _ c.requires.items c.requires.some c.requires.tail c.requires.no_list c.in_ok-new.ensures
