use Rattle.std.proofs.Common.{arith}
use Rattle.std.proofs.lemmas.Grind.{common_steps}
use Rattle.erl_term.proofs.MapRuns.{run_of_one, value_of_one}
use Rattle.erl_term.proofs.maps.run_of.Goals as goal

pub returns-clause-value : goal.returns-clause-value
returns-clause-value c = value_of_one _ _ (grind (arith, common_steps))

pub returns-clause-run : goal.returns-clause-run
returns-clause-run c = run_of_one _ _ (grind (arith, common_steps)) c.requires
