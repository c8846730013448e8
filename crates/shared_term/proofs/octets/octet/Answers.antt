use Rattle.std.proofs.Common.{◌≡◌, ◌<◌, ◌+◌, ◌*◌, ◌/◌, length, get_or, refl, arith}
use Rattle.shared_term.proofs.OctetBits.{octet_made, made_fits}
use Rattle.shared_term.proofs.octets.octet.Goals as goal
use Rattle.shared_term.proofs.octets.octet.Goals.{then-first-bytes, else-first-bytes}

pub overflow_cast-result : goal.overflow_cast-result
overflow_cast-result c =
    let n = (get_or c.args.bytes.now (c.args.at / 8) 0 * 256 + c.if-first-bytes.low) / c.power.result in
    omega (
      arith,
      made_fits n c.power-2.result c.power-3.result c.args.count c.requires.most c.power-2.ensures
          c.power-3.ensures,
    )

pub returns : goal.returns
returns c =
    let f : c.args.at / 8 + 1 < length c.args.bytes.now
    → c.if-first-bytes.low ≡ get_or c.args.bytes.now (c.args.at / 8 + 1) 0 =
    elim c.if-first-bytes.branch [
      | then-first-bytes w ↦ λ h. w.low-is
      | else-first-bytes w ↦ λ h. absurd
          (omega arith)
    ] in
    let g : c.if-first-bytes.low < 256 =
    elim c.if-first-bytes.branch [
      | then-first-bytes w ↦ omega
          (arith, w.low-is, c.type_inv.bytes (c.args.at / 8 + 1))
      | else-first-bytes w ↦ omega (arith, w.low-is)
    ] in
    octet_made c.args.bytes.now c.args.at c.args.count _ c.if-first-bytes.low _ _ _ c.requires.some c.requires.most
    c.requires.within refl f g
    c.power.ensures c.power-2.ensures c.power-3.ensures
