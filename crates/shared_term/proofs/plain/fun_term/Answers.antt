use Rattle.shared_term.proofs.Terms.{fun_made}
use Rattle.shared_term.proofs.plain.fun_term.Goals as goal

pub returns-clause-well_formed : goal.returns-clause-well_formed
returns-clause-well_formed c = fun_made c.args.«module» c.args.site c.args.arity c.args.captured c.requires
