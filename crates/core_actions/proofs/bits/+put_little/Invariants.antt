use Rattle.core_actions.proofs.bits.+put_little.Given as goal

abbrev pub decreases-put_little : goal.decreases-put_little
decreases-put_little l = l.most
