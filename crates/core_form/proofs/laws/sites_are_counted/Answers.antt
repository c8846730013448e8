use Rattle.core_form.proofs.Counting.{definitions_first}
use Rattle.core_form.proofs.laws.sites_are_counted.Goals as goal

pub returns-clause-definitions : goal.returns-clause-definitions
returns-clause-definitions c = definitions_first
