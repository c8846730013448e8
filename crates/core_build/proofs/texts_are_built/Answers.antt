use Rattle.core_build.proofs.Built.{texts_are_built}
use Rattle.core_build.proofs.texts_are_built.Goals as goal

-- src/lib.rt
pub returns : goal.returns
returns c =
    texts_are_built c.expressions_are_read.ensures c.patterns_are_read.ensures c.binaries_are_read.ensures
