use Rattle.std.proofs.Common.{◌≡◌, ◌<◌, ◌^◌, ◌∙◌, ◌*◌, ◌%◌, ap, arith}
use Rattle.std.proofs.Math.Nat.{mod-eq_of_lt}
use Rattle.std.proofs.lemmas.Nat.{pow_below}
use Rattle.shared_term.proofs.octets.power.Goals as goal

pub returns : goal.returns
returns c =
    let e : 1 * 2 ^ c.args.k ≡ 2 ^ c.args.k = omega arith in
    let l : 2 ^ c.args.k < 2 ^ 32 = pow_below c.args.k 32 (omega (arith, c.requires)) in
    ap (λ n. n % 2 ^ 32) e ∙ mod-eq_of_lt l
