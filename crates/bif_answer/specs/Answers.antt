-- Answers of listed functions within 128 signed bits, and how an answer of the program reads.
use Rattle.std.specs.Prelude.{◌≡◌, ℤ, IsFalse, IsTrue, if◌then◌else◌, Result, IfOk}
use Rattle.erl_base.specs.declared.memory.NoMemory.{NoMemory}
use Rattle.erl_term.specs.Term as T
use Rattle.erl_term.specs.Term.{Term}
use Rattle.erl_term.specs.Ranges.{is_within_128, is_narrow}
use Rattle.erl_term.specs.View.{class_view}
use Rattle.erl_term.specs.declared.term.Class.{Class}
use Rattle.bif_table.specs.BuiltinAnswer as B
use Rattle.bif_table.specs.BuiltinAnswer.{Answer}
use Rattle.bif_answer.specs.declared.outcome.BifAnswer.{BifAnswer}
use Rattle.bif_answer.specs.declared.outcome.BifAnswer.TheVariants as V
use Rattle.shared_term.specs.View.{view}
use Rattle.shared_term.specs.declared.value.Value.{Value}

-- an answer within 128 signed bits
pub data Bounded : Type 0 where
  value : Term → Bounded
  raised : T.Class → Term → Bounded
  wide : Bounded

-- an integer past them is wide
abbrev pub bounded : Answer → Bounded
bounded (B.value (T.int z)) = if is_within_128 z then value (T.int z) else wide
bounded (B.value t) = value t
bounded (B.raised c r) = raised c r

-- how an answer in values reads
abbrev pub answer_view : BifAnswer Value → Bounded
answer_view (V.Value v) = value (view v)
answer_view (V.Raises c v) = raised (class_view c) (view v)
answer_view V.Wide = wide

-- where there was memory, an answer reads as the plain one does within 128 signed bits
abbrev pub Answers : Result (BifAnswer Value) NoMemory → Answer → Type 0
Answers r a = IfOk r (λ x. answer_view x ≡ bounded a)

-- the answer is an integer past 128 signed bits
abbrev pub IsWide : Answer → Type 0
IsWide a = (z : ℤ) × (a ≡ B.value (T.int z)) × IsFalse (is_within_128 z)

-- no value within 128 signed bits: a raise, or an integer past them
abbrev pub IsNoValue : Answer → Type 0
IsNoValue (B.value t) = IsWide (B.value t)
IsNoValue (B.raised c r) = Unit {0}

-- what an answer holds is such
abbrev pub Holds : {X : Type 0} → (X → Type 0) → BifAnswer X → Type 0
Holds P (V.Value x) = P x
Holds P (V.Raises c x) = P x
Holds P V.Wide = Unit {0}

-- its value is such, if it has one
abbrev pub IfValue : {X : Type 0} → BifAnswer X → (X → Type 0) → Type 0
IfValue (V.Value x) P = P x
IfValue (V.Raises c x) P = Unit {0}
IfValue V.Wide P = Unit {0}

-- its class and its reason are such, if it raises
abbrev pub IfRaises : {X : Type 0} → BifAnswer X → (Class → X → Type 0) → Type 0
IfRaises (V.Value x) P = Unit {0}
IfRaises (V.Raises c x) P = P c x
IfRaises V.Wide P = Unit {0}

-- this holds, if it is wide
abbrev pub IfWide : {X : Type 0} → BifAnswer X → Type 0 → Type 0
IfWide (V.Value x) P = Unit {0}
IfWide (V.Raises c x) P = Unit {0}
IfWide V.Wide P = P

-- all integers in it have 128 signed bits, but for an integer that is the answer itself
abbrev pub IsNarrowOrInteger : Answer → Type 0
IsNarrowOrInteger (B.value (T.int z)) = Unit {0}
IsNarrowOrInteger (B.value t) = IsTrue (is_narrow t)
IsNarrowOrInteger (B.raised c r) = IsTrue (is_narrow r)
