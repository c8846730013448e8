use Rattle.std.proofs.Common.{subst, sym}
use Rattle.erl_term.specs.declared.term.Term.TheVariants as V
use Rattle.erl_term.specs.WellFormed.{IsWellFormed}
use Rattle.term_read.proofs.WellRows.{list_value, list_well_formed}
use Rattle.term_read.proofs.lists.closed.Goals as goal

pub returns-clause-value : goal.returns-clause-value
returns-clause-value c = list_value _ _ _ c.in_ok-new.ensures

pub returns-clause-well_formed : goal.returns-clause-well_formed
returns-clause-well_formed c =
    subst (λ u. IsWellFormed (V.List c.args.items u)) (sym c.in_ok-new.ensures)
    (list_well_formed c.args.items c.args.tail c.requires.some c.requires.items c.requires.tail c.requires.no_list)
