use Rattle.std.proofs.Common.{ℕ, zero, suc, ◌∷◌, [], All, arith}
use Rattle.shared_term.specs.View.{IsWhole}
use Rattle.shared_term.specs.declared.value.Value.{Value}
use Rattle.measure.proofs.values.added.Goals as goal

two_whole : (x y : Value) → IsWhole x → IsWhole y → All IsWhole (x ∷ y ∷ [])
two_whole x y g h zero d l = g
two_whole x y g h (suc zero) d l = h
two_whole x y g h (suc (suc k)) d l = absurd (omega (arith, l))

pub answer_values-requires-clause-args : goal.answer_values-requires-clause-args
answer_values-requires-clause-args c = two_whole _ _ c.integer.ensures (c.in_ok-share.ensures.whole c.requires)
