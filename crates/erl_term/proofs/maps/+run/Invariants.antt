use Rattle.erl_term.proofs.maps.+run.Given as goal

abbrev pub decreases-run : goal.decreases-run
decreases-run l = l.count
