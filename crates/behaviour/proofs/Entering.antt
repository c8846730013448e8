-- Local calls enter functions.
use Rattle.std.proofs.Common.{◌≡◌, ◌+◌, ℕ, suc, List, [], ◌∷◌, length, take, slice_get, eqb, Bool, true, false, if◌then◌else◌, Option, Some, None, ◌⊎◌, inl, inr, ⊎_elim, refl, ap, ◌∙◌, arith}
use Rattle.erl_term.specs.Term.{Term}
use Rattle.world_model.specs.World.{Script}
use Rattle.core_meaning.specs.CoreRun as E
use Rattle.beam_table.specs.Calls.{enters, suspended, function_at, do_call, do_call_only}
use Rattle.beam_table.specs.Code.{Insn, AsmFun, AsmModule}
use Rattle.beam_table.specs.GeneralRules.{Effect, all_set, needs, arguments, cells, entry_at, if_some}
use Rattle.beam_table.specs.MachineRun.{start}
use Rattle.beam_table.specs.MachineState.{Cell, term, Machine}
use Rattle.behaviour.specs.MachineTarget.{AtEntry, Holds}

-- arguments are set, and are all that there is

pub cells_set : (vs : List Term) → all_set (length vs) (cells vs) ≡ true
cells_set [] = refl
cells_set (v ∷ vs) = cells_set vs

pub cells_take : (vs : List Term) → take (length vs) (cells vs) ≡ cells vs
cells_take [] = refl
cells_take (v ∷ vs) = ap (λ l. term v ∷ l) (cells_take vs)

pub cells_read : (vs : List Term) (k : List Term → Effect) → arguments (length vs) (cells vs) k ≡ k vs
cells_read [] k = refl
cells_read (v ∷ vs) k = cells_read vs λ ts. k (v ∷ ts)

-- the number of a function that is found by its entry is its place

first_or : Option (ℕ × AsmFun) → ℕ → ℕ
first_or None n = n
first_or (Some p) n = p.0

second_or : Option (ℕ × AsmFun) → AsmFun → AsmFun
second_or None f = f
second_or (Some p) f = p.1

here_or_later : (b : Bool) (g f : AsmFun) (n s : ℕ) (o : Option (ℕ × AsmFun))
    → (if b then Some (n, g) else o) ≡ Some (s, f) → ((n ≡ s) × (g ≡ f)) ⊎ (o ≡ Some (s, f))
unfolding first_or second_or
here_or_later true g f n s o e = inl (ap (λ z. first_or z n) e, ap (λ z. second_or z g) e)
here_or_later false g f n s o e = inr e

pub entry_found : (fs : List AsmFun) (l n s : ℕ) (f : AsmFun) → entry_at fs l n ≡ Some (s, f)
    → (k : ℕ) × (slice_get fs k ≡ Some f) × (s ≡ n + k)
entry_found [] l n s f e = absurd cc
entry_found (g ∷ gs) l n s f e = ⊎_elim
    (λ h. (0, ap Some h.1, omega (arith, h.0)))
    (λ h. let w = entry_found gs l (suc n) s f h in (suc w.0, w.1, omega (arith, w.2)))
    (here_or_later (eqb g.entry l) g f n s (entry_at gs l (suc n)) e)

-- A call in tail position, of a function of the module with all its arguments.

module _ (a : AsmModule) (l s : ℕ) (f : AsmFun) (vs : List Term) (found : entry_at a.funs l 0 ≡ Some (s, f))
    (arity : eqb f.key.arity (length vs) ≡ true) where
  function_found : (k : ℕ → AsmFun → Effect) → function_at a l (length vs) k ≡ k s f
  function_found k =
      ap (λ o. if_some o λ g. needs (eqb g.1.key.arity (length vs)) (k g.0 g.1)) found
      ∙ ap (λ b. needs b (k s f)) arity

  -- what the frame and the window must be is in the state
  pub call_only_enters : (m : Machine) → (let u = record m { xs = cells vs; frame = None; window = None } in
      do_call_only a (length vs) l u ≡ enters a true s f (cells vs) (record u { room = 0 }))
  call_only_enters m =
      ap (λ b. needs b (function_at a l (length vs) λ t g. enters a true t g (take (length vs) (cells vs)) u))
      (cells_set vs)
      ∙ function_found (λ t g. enters a true t g (take (length vs) (cells vs)) u)
      ∙ ap (λ ds. enters a true s f ds u) (cells_take vs)
    where
      u : Machine
      u = record m { xs = cells vs; frame = None; window = None; room = 0 }

  pub call_enters : (ys : List Cell) (m : Machine)
      → (let u = record m { xs = cells vs; frame = Some ys; window = None } in
      do_call a (length vs) l u ≡ enters a false s f (cells vs) (suspended (record u { room = 0 })))
  call_enters ys m =
      ap (λ b. needs b (function_at a l (length vs) λ t g. enters a false t g (take (length vs) (cells vs))
      (suspended u))) (cells_set vs)
      ∙ function_found (λ t g. enters a false t g (take (length vs) (cells vs)) (suspended u))
      ∙ ap (λ ds. enters a false s f ds (suspended u)) (cells_take vs)
    where
      u : Machine
      u = record m { xs = cells vs; frame = Some ys; window = None; room = 0 }

-- a run begins at the entry of its function
pub start_at_entry : (a : AsmModule) (n : ℕ) (f : AsmFun) (z : Script) (vs : List Term) → slice_get a.funs n ≡ Some f
    → length vs ≡ f.key.arity → AtEntry a n vs [] (start z vs f.code)
start_at_entry a n f z vs e l = record {
  function = f;
  found = e;
  arity = l;
  code = refl;
  xs = refl;
  frame = refl;
  callers = refl;
}

-- where the process has its mailbox, and no message is looked at
pub start_holds : (n : ℕ) (z : Script) (vs : List Term) (is : List Insn) → Holds z.own (E.start z n) (start z vs is)
start_holds n z vs is = record {
  own = refl;
  mailbox = refl;
  next_serial = refl;
  save = refl;
  window = refl;
  landing = refl;
}
