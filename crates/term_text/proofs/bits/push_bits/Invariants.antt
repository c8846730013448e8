use Rattle.std.proofs.Common.{◌≡◌, ℕ, List, ◌++◌, ◌-◌, ◌*◌, drop, true, eqb}
use Rattle.term_text.proofs.BitText.{row_at}
use Rattle.term_text.proofs.bits.push_bits.Given as goal

abbrev pub invariant-loop-i : goal.invariant-loop-i
invariant-loop-i l = (r : List ℕ) → l.out ++ row_at (eqb l.i 0) (l.count - 8 * l.i) (drop l.i l.bytes) r
    ≡ l.initial.out ++ row_at true l.count l.bytes r
