use Rattle.tests_forms.proofs.of_ssa_form.destination.Goals as goal

pub set-requires : goal.set-requires
set-requires c = c.requires.whole.sets c.args.block.0 c.args.node c.requires.there
