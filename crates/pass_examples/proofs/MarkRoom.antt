-- Calls leave room for their marks.
use Rattle.std.proofs.Common.{◌≡◌, ◌≤◌, ◌⊎◌, inl, inr, ℕ, zero, suc, [], ◌∷◌, Contains, refl, arith}
use Rattle.std.proofs.Math.Nat.{le-max_left}
use Rattle.erl_base.specs.declared.ids.FunKey.{FunKey}
use Rattle.erl_term.specs.Term.{Term}
use Rattle.pass_contract.specs.PassContract.{deepest, most_made, KeepsShape}
use Rattle.ssa_form.specs.PassView.{ssa_form}
use Rattle.pass_examples.specs.MarkRoom.{binds_call, calling_body, marking_body, and_to_come, CallsLeaveRoom}

built : (k : FunKey) (n : ℕ) (t u : Term)
    → KeepsShape (binds_call k n t u) (ssa_form (and_to_come 2 1) (calling_body n t u))
built k n t u = record {
  arity = refl;
  receives = λ v c. c;
  added = λ v c. inl c;
  next = omega arith;
  calls = λ v c d. c;
  stays = λ v c d. c;
  variables = omega arith;
  deepest = le-max_left (deepest (t ∷ u ∷ [])) most_made;
  fitting = λ e. e;
  widest = omega arith;
  highest = omega arith;
}

-- parameter, marker, value
added_marker : (v : ℕ) → Contains (0 ∷ 2 ∷ 1 ∷ []) v → Contains (0 ∷ 1 ∷ []) v ⊎ (2 ≤ v)
added_marker v (zero, l, e) = inl (0, omega arith, e)
added_marker v (suc zero, l, e) = let p : 2 ≡ v = e in inr (omega (arith, p))
added_marker v (suc (suc zero), l, e) = inl (1, omega arith, e)
added_marker v (suc (suc (suc i)), l, e) = absurd (omega (arith, l))

marked : (n : ℕ) (t u : Term)
    → KeepsShape (ssa_form (and_to_come 2 1) (calling_body n t u)) (ssa_form (and_to_come 3 0) (marking_body n t u))
marked n t u = record {
  arity = refl;
  receives = λ v c. c;
  added = added_marker;
  next = omega arith;
  calls = λ v c d. c;
  stays = λ v c d. c;
  variables = omega arith;
  deepest = le-max_left (deepest (t ∷ u ∷ [])) most_made;
  fitting = λ e. e;
  widest = omega arith;
  highest = omega arith;
}

no_room : (n : ℕ) (t u : Term)
    → KeepsShape (ssa_form (and_to_come 2 0) (calling_body n t u)) (ssa_form (and_to_come 3 0) (marking_body n t u)) → ⊥
no_room n t u h = let e : 3 ≤ 2 = h.variables in omega (arith, e)

pub calls_leave_room : CallsLeaveRoom
calls_leave_room k n t u = record { built = built k n t u; marked = marked n t u; no_room = no_room n t u }
