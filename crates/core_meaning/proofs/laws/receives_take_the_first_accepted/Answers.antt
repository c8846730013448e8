use Rattle.core_meaning.proofs.Selecting.{takes_the_first, looks_for_more}
use Rattle.core_meaning.proofs.laws.receives_take_the_first_accepted.Goals as goal

pub returns-clause-takes : goal.returns-clause-takes
returns-clause-takes c = takes_the_first c.receiving_takes_the_first_accepted.ensures

pub returns-clause-looks : goal.returns-clause-looks
returns-clause-looks c = looks_for_more c.receiving_looks_for_more.ensures
