-- What the reading of an answer says of the plain one.
use Rattle.std.proofs.Common.{◌≡◌, refl, ap, Bool, true, false, ℤ}
use Rattle.erl_term.specs.Ranges.{is_within_128}
use Rattle.erl_term.specs.Term as T
use Rattle.erl_term.specs.Term.{Term}
use Rattle.erl_term.specs.View.{class_view}
use Rattle.bif_table.specs.BuiltinAnswer as B
use Rattle.bif_table.specs.BuiltinAnswer.{Answer}
use Rattle.bif_answer.specs.Answers.{value, raised, wide, bounded, answer_view, IsWide}
use Rattle.bif_answer.specs.Answers.{IfValue, IfRaises, IfWide}
use Rattle.bif_answer.specs.declared.outcome.BifAnswer.{BifAnswer}
use Rattle.bif_answer.specs.declared.outcome.BifAnswer.TheVariants as V
use Rattle.bif_answer.proofs.Fitting.{choice}
use Rattle.shared_term.specs.View.{view}
use Rattle.shared_term.specs.declared.value.Value.{Value}

chosen_value : (z : ℤ) (b : Bool) (t : Term) → value t ≡ choice z b → T.int z ≡ t
chosen_value z true t e = cc
chosen_value z false t e = absurd cc

chosen_raise : (z : ℤ) (b : Bool) (c : T.Class) (t : Term) → raised c t ≡ choice z b → ⊥
chosen_raise z true c t e = cc
chosen_raise z false c t e = cc

chosen_wide : (z : ℤ) (b : Bool) → wide ≡ choice z b → b ≡ false
chosen_wide z true e = absurd cc
chosen_wide z false e = refl

value_of_reading : (a : Answer) (t : Term) → value t ≡ bounded a → a ≡ B.value t
value_of_reading (B.value (T.int z)) t e = ap B.value (chosen_value z (is_within_128 z) t e)
value_of_reading (B.value u) t e = cc
value_of_reading (B.raised c r) t e = absurd cc

raise_of_reading : (a : Answer) (c : T.Class) (t : Term) → raised c t ≡ bounded a → a ≡ B.raised c t
raise_of_reading (B.value (T.int z)) c t e = absurd (chosen_raise z (is_within_128 z) c t e)
raise_of_reading (B.value u) c t e = absurd cc
raise_of_reading (B.raised d r) c t e = cc

wide_of_reading : (a : Answer) → wide ≡ bounded a → IsWide a
wide_of_reading (B.value (T.int z)) e = (z, refl, chosen_wide z (is_within_128 z) e)
wide_of_reading (B.value u) e = absurd cc
wide_of_reading (B.raised d r) e = absurd cc

pub value_read : (x : BifAnswer Value) (a : Answer) → answer_view x ≡ bounded a → IfValue x (λ v. a ≡ B.value (view v))
value_read (V.Value v) a e = value_of_reading a (view v) e
value_read (V.Raises c v) a e = tt
value_read V.Wide a e = tt

pub raise_read : (x : BifAnswer Value) (a : Answer) → answer_view x ≡ bounded a
    → IfRaises x (λ c v. a ≡ B.raised (class_view c) (view v))
raise_read (V.Value v) a e = tt
raise_read (V.Raises c v) a e = raise_of_reading a (class_view c) (view v) e
raise_read V.Wide a e = tt

pub wide_read : (x : BifAnswer Value) (a : Answer) → answer_view x ≡ bounded a → IfWide x (IsWide a)
wide_read (V.Value v) a e = tt
wide_read (V.Raises c v) a e = tt
wide_read V.Wide a e = wide_of_reading a e

pub ruleset readings = (value_read, raise_read, wide_read)
