use Rattle.std.proofs.Common.{rules, arith, ◌∙◌, sym, ap, ◌+◌, drop}
use Rattle.std.specs.Ordering.{ordering_then, bool_cmp}
use Rattle.std.specs.Cmp.Lexicographic.{slice_cmp}
use Rattle.erl_term.specs.BitString.{byte_bits}
use Rattle.erl_term.proofs.BitOrder.{bytes_step, bytes_end, bytes_over}
use Rattle.erl_term.proofs.order.compare_bytes.Goals as goal

pub returns : goal.returns
returns c =
    c.cmp-2.ensures ∙ sym (bytes_end c.args.a.now c.args.b.now c.loop-i.i (omega arith) (omega arith) (omega arith))
    ∙ c.loop-i.invariant

pub returns-in_default : goal.returns-in_default
returns-in_default c =
    bytes_over c.args.a.now c.args.b.now c.cmp.result c.in_default.not-Equal c.loop-i.i (omega arith) (omega arith)
    (search rules) (search rules) c.cmp.ensures
    ∙ c.loop-i.invariant

pub loop-i-preserved : goal.loop-i-preserved
loop-i-preserved c =
    ap (λ o. ordering_then o
    (slice_cmp bool_cmp (byte_bits (drop (c.loop-i.i + 1) c.args.a.now))
    (byte_bits (drop (c.loop-i.i + 1) c.args.b.now)))) c.in-Equal.ensures
    ∙ sym (bytes_step c.args.a.now c.args.b.now c.loop-i.i (omega arith) (omega arith) (search rules) (search rules))
    ∙ c.loop-i.invariant
