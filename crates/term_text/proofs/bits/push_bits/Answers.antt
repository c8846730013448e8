use Rattle.std.proofs.Common.{rules, arith, refl, ℕ, List, ◌≡◌, subst, ◌++◌, ◌/◌, ◌%◌, ◌*◌, ◌-◌, drop, eqb, true}
use Rattle.term_text.proofs.BitText.{row_at, step_kept, ended, ended_whole}
use Rattle.term_text.proofs.Growth.{on_ok}
use Rattle.term_text.proofs.bits.push_bits.Goals as goal

pub loop-i-preserved : goal.loop-i-preserved
loop-i-preserved c =
    let written = rw c.from.ensures at c.in_ok-put_number.ensures in
    step_kept c.loop-i.out c.push_comma.new.out c.put_number.new.out _ c.args.bytes.now c.loop-i.i c.args.count
    c.in_ok-push_comma.ensures written
    (omega (arith, c.requires)) (omega arith) (search rules) c.loop-i.invariant

pub returns-then-left-eq0 : goal.returns-then-left-eq0
returns-then-left-eq0 c = ended_whole _ _ _ _ _ (omega arith) (omega arith) c.loop-i.invariant

pub returns : goal.returns
returns c =
    let w : c.loop-i.i ≡ c.args.count / 8 = omega arith in
    let k =
    subst (λ i. (r : List ℕ) → c.loop-i.out ++ row_at (eqb i 0) (c.args.count - 8 * i) (drop i c.args.bytes.now) r
    ≡ c.args.out.now ++ row_at true c.args.count c.args.bytes.now r)
    w c.loop-i.invariant
    in
    on_ok c.push_part.result
    (λ e. ended c.loop-i.out c.push_part.new.out _ (eqb (c.args.count / 8) 0) c.args.bytes.now
    (c.args.count / 8) c.args.count (c.args.count % 8)
    refl refl refl (omega arith) (omega (arith, c.requires)) (search rules) e k)
    c.push_part.ensures
