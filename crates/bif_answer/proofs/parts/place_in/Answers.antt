use Rattle.std.proofs.Common.{rules, SFits}
use Rattle.std.specs.Int.{w128}
use Rattle.std.proofs.lemmas.Int.{to_z-of_z}
use Rattle.bif_answer.proofs.Args.{placed, unplaced}
use Rattle.bif_answer.proofs.parts.place_in.Goals as goal

pub returns-in-Some : goal.returns-in-Some
returns-in-Some c =
    let f : SFits w128 c.in-Some.at = search rules in
    placed _ _ _ _ _ c.in-Some.ensures (to_z-of_z w128 c.in-Some.at f) c.place.ensures

pub returns-in-None : goal.returns-in-None
returns-in-None c = unplaced _ _ c.in-None.ensures
