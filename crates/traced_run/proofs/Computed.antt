use Rattle.std.proofs.Common.{refl}
use Rattle.traced_run.specs.Examples.{SumsAtTheRange, end_with}
use Rattle.traced_run.specs.TracedRun.{traced_run}

pub sums : SumsAtTheRange
unfolding traced_run end_with
sums = record { last = refl; past = refl; over_a_tag = refl }
