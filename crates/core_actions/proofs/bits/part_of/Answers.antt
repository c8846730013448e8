use Rattle.std.proofs.Common.{refl, sym, ap, ◌∙◌, subst, ◌<◌, ◌^◌, length, arith}
use Rattle.erl_term.specs.BitString.{bits_of}
use Rattle.core_actions.proofs.BitRows.{bits_held, number_below}
use Rattle.core_actions.proofs.PartRows.{part_fits}
use Rattle.core_actions.proofs.bits.part_of.Goals as goal

pub returns-clause-value : goal.returns-clause-value
returns-clause-value c =
    ap (λ n. bits_of (length c.args.bits.now) n) c.number_of.ensures ∙ bits_held 0 c.args.bits.now

pub returns-clause-fits : goal.returns-clause-fits
returns-clause-fits c =
    part_fits _ c.number_of.result (length c.args.bits.now) refl (omega (arith, c.requires.some)) c.requires.few
    (subst (λ n. n < 2 ^ length c.args.bits.now) (sym c.number_of.ensures) (number_below c.args.bits.now))
