-- A let-bound call, of which a marker may come to be kept: the way to its body leaves room for the variable of that
-- marker.
use Rattle.std.specs.Prelude.{ℕ, [], ◌∷◌, Some, None}
use Rattle.erl_base.specs.declared.ids.FunKey.{FunKey}
use Rattle.erl_term.specs.Term.{Term}
use Rattle.kernel_form.specs.Kernel as K
use Rattle.kernel_meaning.specs.Forms as Kernel
use Rattle.pass_contract.specs.PassContract.{Form, KeepsShape}
use Rattle.ssa_form.specs.Ssa as S
use Rattle.ssa_form.specs.Ssa.{Set, Body, block, set, br, ret}
use Rattle.ssa_form.specs.PassView.{Ahead, ssa_form}

-- the call of a function of another module with the parameter, bound by a let and then given
abbrev pub binds_call : FunKey → ℕ → Term → Term → Form
binds_call k n t u = Kernel.form_of (record {
  key = k;
  site = n;
  params = 0 ∷ [];
  next = 2;
  body = K.let_in (1 ∷ []) (K.simple (K.remote (K.lit t) (K.lit u) (K.var 0 ∷ []))) (K.values (K.var 1 ∷ []));
})

-- the call
abbrev pub the_call : Term → Term → Set
the_call t u = set (Some 1) S.call_remote (S.lit t ∷ S.lit u ∷ S.var 0 ∷ [])

-- a body that calls, and gives the value in another block, so that the call is no tail call
abbrev pub calling_body : ℕ → Term → Term → Body
calling_body n t u = record {
  site = n;
  params = 0 ∷ [];
  blocks = Some (block [] (the_call t u ∷ []) (br (S.var 0) 1 1)) ∷ Some (block [] [] (ret (S.var 1))) ∷ [];
  contexts = [];
}

-- the same with a marker, reserved before the call and bound behind it
abbrev pub marking_body : ℕ → Term → Term → Body
marking_body n t u = record {
  site = n;
  params = 0 ∷ [];
  blocks =
      Some (block [] (set (Some 2) S.reserve [] ∷ the_call t u ∷ set None S.bind (S.var 2 ∷ S.var 1 ∷ []) ∷ [])
      (br (S.var 0) 1 1))
      ∷ Some (block [] [] (ret (S.var 1))) ∷ [];
  contexts = [];
}

-- the number above all variables, and how many more may come
abbrev pub and_to_come : ℕ → ℕ → Ahead
and_to_come n k = record { next = n; wanted = k }

-- construction leaves one variable to come, which marking takes; where none is left, there is no room for it
pub record MarkRoom (k : FunKey) (n : ℕ) (t u : Term) : Type 0 where
  pub built : KeepsShape (binds_call k n t u) (ssa_form (and_to_come 2 1) (calling_body n t u))
  pub marked : KeepsShape (ssa_form (and_to_come 2 1) (calling_body n t u))
      (ssa_form (and_to_come 3 0) (marking_body n t u))
  pub no_room : KeepsShape (ssa_form (and_to_come 2 0) (calling_body n t u))
      (ssa_form (and_to_come 3 0) (marking_body n t u)) → ⊥

-- whatever is called
abbrev pub CallsLeaveRoom : Type 0
CallsLeaveRoom = (k : FunKey) (n : ℕ) (t u : Term) → MarkRoom k n t u
