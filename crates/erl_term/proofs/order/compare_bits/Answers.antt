use Rattle.std.proofs.Common.{◌∙◌, ap, ap₂, sym}
use Rattle.std.specs.Ordering.{nat_cmp, bool_cmp, ordering_then}
use Rattle.std.specs.Cmp.Lexicographic.{slice_cmp}
use Rattle.erl_term.specs.BitString.{byte_bits}
use Rattle.erl_term.proofs.Comparing.{decided}
use Rattle.erl_term.proofs.BitOrder.{bits_compared}
use Rattle.erl_term.proofs.order.compare_bits.Goals as goal

pub returns-in-Equal : goal.returns-in-Equal
returns-in-Equal c =
    c.cmp.ensures
    ∙ ap (λ o. ordering_then o (nat_cmp c.args.a.now.length c.args.b.now.length))
    (c.in-Equal.ensures ∙ ap₂
    (λ x y. slice_cmp bool_cmp (byte_bits x) (byte_bits y)) c.as_slice.ensures c.as_slice-2.ensures)
    ∙ sym (bits_compared c.args.a.now c.args.b.now c.requires.first c.requires.second)

pub returns-in_default : goal.returns-in_default
returns-in_default c =
    sym (decided c.compare_bytes.result (nat_cmp c.args.a.now.length c.args.b.now.length) c.in_default.not-Equal)
    ∙ ap (λ o. ordering_then o (nat_cmp c.args.a.now.length c.args.b.now.length))
    (c.compare_bytes.ensures
    ∙ ap₂ (λ x y. slice_cmp bool_cmp (byte_bits x) (byte_bits y)) c.as_slice.ensures c.as_slice-2.ensures)
    ∙ sym (bits_compared c.args.a.now c.args.b.now c.requires.first c.requires.second)
