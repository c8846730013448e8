use Rattle.shared_term.proofs.Terms.{map_made}
use Rattle.shared_term.proofs.plain.map_term.Goals as goal

pub returns-clause-well_formed : goal.returns-clause-well_formed
returns-clause-well_formed c = map_made c.args.pairs c.requires.pairs c.requires.rising
