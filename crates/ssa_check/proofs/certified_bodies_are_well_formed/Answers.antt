use Rattle.ssa_check.proofs.Certified.{well_formed}
use Rattle.ssa_check.proofs.certified_bodies_are_well_formed.Goals as goal

-- src/lib.rt
pub returns : goal.returns
returns c = well_formed
