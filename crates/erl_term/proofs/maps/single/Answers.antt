use Rattle.erl_term.proofs.MapRuns.{no_run}
use Rattle.std.proofs.Common.{sym, subst}
use Rattle.erl_term.specs.Merging.{IsRun}
use Rattle.erl_term.proofs.maps.single.Goals as goal

pub returns-then-count-eq0-clause-run : goal.returns-then-count-eq0-clause-run
returns-then-count-eq0-clause-run c = subst IsRun (sym c.new.ensures.items) no_run
