use Rattle.std.proofs.Common.{◌≡◌, refl, ap, ◌∙◌, length, arith}
use Rattle.erl_term.proofs.BitOrder.{count_of_full}
use Rattle.shared_term.proofs.Bits.{all_whole}
use Rattle.shared_term.proofs.convert.from_bits.Goals as goal

pub returns-in-Ok-clause-whole : goal.returns-in-Ok-clause-whole
returns-in-Ok-clause-whole c =
    let e : length c.in-Ok.bytes.value ≡ length c.args.bits.now.bytes =
    ap length (c.in-Ok.ensures.ok ∙ c.in_ok-copy.ensures) in
    all_whole _ refl (omega (arith, e, count_of_full c.args.bits.now c.requires))
