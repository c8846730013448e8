use Rattle.std.proofs.Common.{◌||◌, ◌&&◌, eqb, ap, ◌∙◌}
use Rattle.core_profile.specs.ProfileFaults.{is_primop}
use Rattle.core_profile.proofs.profile.is_primop.Goals as goal

pub returns : goal.returns
returns c =
    (λ i. c.is_word-fails.ensures i && eqb c.args.count 1 || c.is_word-raises.ensures i && eqb c.args.count 2
    || c.is_word-builds.ensures i && eqb c.args.count 1)
    ∙ ap (λ n. is_primop n c.args.count) c.as_str-name.ensures
