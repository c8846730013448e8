use Rattle.shared_term.proofs.Terms.{tuple_made}
use Rattle.shared_term.proofs.plain.tuple_term.Goals as goal

pub returns-clause-well_formed : goal.returns-clause-well_formed
returns-clause-well_formed c = tuple_made c.args.items c.requires
