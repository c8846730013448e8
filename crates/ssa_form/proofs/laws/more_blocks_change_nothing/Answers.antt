use Rattle.ssa_form.proofs.MoreBlocks.{more}
use Rattle.ssa_form.proofs.laws.more_blocks_change_nothing.Goals as goal

pub returns : goal.returns
returns g c = λ o around here b k j e from n f s le u. more o around here b k j le e from n f s u
