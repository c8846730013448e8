use Rattle.std.proofs.Common.{refl, arith, ◌≤◌, ◌*◌, ◌+◌, length, ap}
use Rattle.shared_term.proofs.Bits.{within, slice_reads, slice_whole}
use Rattle.shared_term.proofs.value.Value.slice.Goals as goal

pub overflow_add-result : goal.overflow_add-result
overflow_add-result c =
    let w : c.in-Bits.range.from + c.in-Bits.range.length ≤ 8 * length c.in-Bits.range.bytes.value =
    within _ _ c.in-Bits.is c.requires in
    let b : length c.in-Bits.range.bytes.value ≤ 4294967295 =
    omega (arith, ap length c.deref.ensures, c.len-count.ensures.value, c.len-count.ensures.bound) in
    omega (arith, w, b)

pub returns-in_ok-clone-in-Bits-clause-bits : goal.returns-in_ok-clone-in-Bits-clause-bits
returns-in_ok-clone-in-Bits-clause-bits c =
    slice_reads _ c.in-Bits.range _ _ _ c.in-Bits.is c.requires
    (c.in_ok-clone-in-Bits.ensures.cases, refl, refl, omega arith)

pub returns-in_ok-clone-in-Bits-clause-whole : goal.returns-in_ok-clone-in-Bits-clause-whole
returns-in_ok-clone-in-Bits-clause-whole c =
    slice_whole _ c.in-Bits.range _ _ _ c.in-Bits.is c.requires
    (c.in_ok-clone-in-Bits.ensures.cases, refl, refl, omega arith)
