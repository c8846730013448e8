use Rattle.term_read.proofs.WellRows.{longer_value, longer_well_formed}
use Rattle.term_read.proofs.lists.longer.Goals as goal

pub returns-clause-value : goal.returns-clause-value
returns-clause-value c = longer_value _ _ _ _ c.in_ok-appended.ensures

pub returns-clause-well_formed : goal.returns-clause-well_formed
returns-clause-well_formed c =
    longer_well_formed _ _ _ _ c.in_ok-appended.ensures c.requires.some c.requires.items c.requires.tail
