-- A local call that is not bad enters one function.
use Rattle.std.proofs.Common.{inl, inr, ℕ, List, take, Bool, true, false, Option, Some, None, refl}
use Rattle.step_machine.specs.Steps.{bad}
use Rattle.step_machine.specs.Frames.{in_frame}
use Rattle.beam_table.specs.Code.{AsmModule}
use Rattle.beam_table.specs.MachineState.{Cell, Activation, Machine}
use Rattle.beam_table.specs.GeneralRules.{Effect, needs, if_some, leaves, entry_at}
use Rattle.beam_table.specs.Calls.{suspended, enters, function_at, do_call_only}
use Rattle.beam_table.specs.InstructionStep.{act}
use Rattle.beam_table.specs.StepFacts.{EntersOne, Deeper, LocalCallsEnterOne}

module _ (tail : Bool) (cs : List Activation) where
  abbrev One : Effect → Type 0
  One s = EntersOne tail cs s

  one_needs : (b : Bool) (s : Effect) → One s → One (needs b s)
  one_needs true s h = h
  one_needs false s h = inl refl

  one_frame : (o : Option (List Cell)) (k : List Cell → Effect) → ((ys : List Cell) → One (k ys))
      → One (in_frame bad o k)
  one_frame None k h = inl refl
  one_frame (Some ys) k h = h ys

  one_some : {A : Type 0} (o : Option A) (k : A → Effect) → ((x : A) → One (k x)) → One (if_some o k)
  one_some None k h = inl refl
  one_some (Some x) k h = h x

  one_none : {A : Type 0} (o : Option A) (s : Effect) → One s → One (elim o [ None ↦ s | Some w ↦ bad ])
  one_none None s h = h
  one_none (Some w) s h = inl refl

  one_leaves : (n : ℕ) (m : Machine) (k : Machine → Effect) → One (k (record m { room = 0 })) → One (leaves n m k)
  one_leaves n m k h = one_none m.window _ (one_needs _ _ h)

  one_enters : (a : AsmModule) (l n : ℕ) (ds : List Cell) (u : Machine) → Deeper tail cs u.callers
      → One (function_at a l n λ s f. enters a tail s f ds u)
  one_enters a l n ds u d = one_some (entry_at a.funs l 0) _ λ f. one_needs _ _ (inr (f.0, _, refl, d))

only_enters : (a : AsmModule) (n l : ℕ) (m : Machine) → EntersOne true m.callers (do_call_only a n l m)
only_enters a n l m = one_none true m.callers m.frame _
    (one_leaves true m.callers n m (λ u. function_at a l n λ s f. enters a true s f (take n u.xs) u)
    (one_enters true m.callers a l n (take n m.xs) (record m { room = 0 }) refl))

pub local_calls_enter_one : (a : AsmModule) → LocalCallsEnterOne a
unfolding act
local_calls_enter_one a = record {
  call = λ n l m. one_frame false m.callers m.frame _ λ ys. one_leaves false m.callers n m
      (λ u. function_at a l n λ s f. enters a false s f (take n u.xs) (suspended u))
      (one_enters false m.callers a l n (take n m.xs) (suspended (record m { room = 0 }))
      (record { frame = m.frame; back = m.code }, refl));
  only = λ n l m. only_enters a n l m;
  last = λ n l k m. one_none true m.callers m.window _
      (one_frame true m.callers m.frame _ λ ys. one_needs true m.callers _
      (do_call_only a n l (record m { frame = None })) (only_enters a n l (record m { frame = None })));
}
